use Rattle.std.proofs.Common.{refl, subst, sym, ◌∙◌}
use Rattle.std.proofs.lemmas.Result.{IfOk-weaker}
use Rattle.net_places.proofs.CallerLaws.{are_small}
use Rattle.net_places.specs.Whole.{whole_of}
use Rattle.substitute.proofs.WholeLaws.{flat_is_wired, tables_of}
use Rattle.substitute.specs.Whole.{AreEntriesOf}
use Rattle.substitute.proofs.with_tables.whole_with.Goals as goal

pub checked_by-requires-clause-wired : goal.checked_by-requires-clause-wired
checked_by-requires-clause-wired c =
    let g = c.requires.ground in flat_is_wired c.args.design.now c.args.blif.now c.args.rules.now c.args.cell g.0 c.args.facts.now c.args.flat.now g.1

pub checked_by-requires-clause-small : goal.checked_by-requires-clause-small
checked_by-requires-clause-small c =
    let g = c.requires.ground in are_small (whole_of c.args.design.now c.args.rules.now c.args.cell g.0) c.args.unrolled.now c.requires.files.netlist (c.requires.places g.0)

pub checked_by-requires-clause-tables : goal.checked_by-requires-clause-tables
checked_by-requires-clause-tables c =
    let g = c.requires.ground in
    let t = whole_of c.args.design.now c.args.rules.now c.args.cell g.0 in (
      t,
      c.args.blif.now,
      c.args.facts.now,
      tables_of c.args.design.now c.args.blif.now c.args.rules.now c.args.cell g.0 c.args.facts.now _ g.1 (c.requires.places g.0) c.as_slice.ensures
          (c.as_slice-2.ensures.value ∙ c.in_ok-owners.ensures t refl (c.requires.places g.0))
          (subst (AreEntriesOf c.args.design.now c.args.blif.now c.args.rules.now c.args.facts.now c.args.unrolled.now.places) (sym c.as_slice-3.ensures.value) c.in_ok-make_entries.ensures.entries),
    )

pub returns-clause-whole : goal.returns-clause-whole
returns-clause-whole c =
    IfOk-weaker c.checked_by.result _ _
    (λ whole gives roles is.
    (let t = whole_of c.args.design.now c.args.rules.now c.args.cell roles in
    gives t c.args.blif.now c.args.facts.now
    (tables_of c.args.design.now c.args.blif.now c.args.rules.now c.args.cell roles c.args.facts.now _ is (c.requires.places roles) c.as_slice.ensures
    (c.as_slice-2.ensures.value ∙ c.in_ok-owners.ensures t refl (c.requires.places roles))
    (subst (AreEntriesOf c.args.design.now c.args.blif.now c.args.rules.now c.args.facts.now c.args.unrolled.now.places) (sym c.as_slice-3.ensures.value) c.in_ok-make_entries.ensures.entries))))
    c.checked_by.ensures
