use Rattle.std.proofs.Common.{Bool, List, false, ap, sym, subst, ◌∙◌}
use Rattle.std.specs.List.{list_any}
use Rattle.substitution_laws.proofs.WholeRanges.{trials_are_wired}
use Rattle.vrt_model.specs.Circuits.{IsCircuit}
use Rattle.vrt_model.specs.declared.rules.Phase.{Phase}
use Rattle.substitute.proofs.BareLaws.{bare_acyclic}
use Rattle.substitute.proofs.TogetherLaws.{checked_tried, all_trial, tried_none}
use Rattle.substitute.specs.BareParts.{AllBareGive, AreBareParts}
use Rattle.substitute.specs.Chosen.{cut_of}
use Rattle.substitute.proofs.with_tables.all_at_once.Goals as goal

pub returns-then-not-has_mark : goal.returns-then-not-has_mark
returns-then-not-has_mark c t blif facts are =
    tried_none t blif facts c.args.tables are c.in_ok-tried.tried (c.in_ok-tried.ensures t blif facts are)
    (sym (c.if-not-has_mark.ensures ∙ ap (λ (l : List Bool). list_any (λ (mark : Bool). mark) l) c.as_slice.ensures.value))

pub all_bare_parts-requires : goal.all_bare_parts-requires
all_bare_parts-requires c =
    let s = c.requires.tables in
    let all = c.in_ok-tried.ensures s.0 s.1 s.2 s.3 in
    trials_are_wired (cut_of s.0 c.in_ok-tried.tried.whole.items) s.1 s.2 c.in_ok-circuit.circuit (all_trial s.0 s.1 s.2 c.args.tables s.3 c.in_ok-tried.tried all)
    (subst IsCircuit s.3.flat_is s.3.ground.formed) (c.in_ok-circuit.ensures false s.0 s.1 s.2 s.3 all)

pub returns-in-Some : goal.returns-in-Some
returns-in-Some c t blif facts are =
    let all = c.in_ok-tried.ensures t blif facts are in
    let circuit = c.in_ok-circuit.circuit in
    let bare = subst (AllBareGive circuit c.args.tables.phases.now) c.in-Some.is c.in_ok-bare.ensures in (
      checked_tried t blif facts c.args.tables are c.in_ok-tried.tried all c.requires.clocks circuit (c.in_ok-circuit.ensures false t blif facts are all)
          (bare_acyclic circuit c.args.tables.phases.now c.in-Some.parts.items bare),
      subst (λ (phases : List Phase). AreBareParts circuit phases c.in-Some.parts.items) (sym are.phases_are) bare,
    )
