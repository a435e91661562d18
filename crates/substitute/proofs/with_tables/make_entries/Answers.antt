use Rattle.std.proofs.Common.{subst}
use Rattle.std.specs.Prelude.{List}
use Rattle.net_places.specs.declared.places.Place.{Place}
use Rattle.substitute.proofs.WholeLaws.{kept_entries}
use Rattle.substitute.specs.Whole.{AreEntriesOf}
use Rattle.substitute.proofs.with_tables.make_entries.Goals as goal

pub returns-clause-entries : goal.returns-clause-entries
returns-clause-entries c =
    let a = c.args in
    subst (λ (ps : List Place). AreEntriesOf a.design.now a.blif.now a.rules.now a.facts.now ps c.make_used.new.kept.cells.items) c.as_slice-places.ensures
    (kept_entries a.design.now a.blif.now a.rules.now a.facts.now c.as_slice-places.result.now c.make_used.new.kept c.in_ok-make_used.ensures.kept c.in_ok-make_used.ensures.made)
