use Rattle.std.proofs.Common.{ℕ, ◌≤◌, List, length, subst, sym, ◌∙◌}
use Rattle.output_functions.proofs.PhaseLaws.{between_same, next_of}
use Rattle.output_functions.specs.Phases.{IsBetween}
use Rattle.phase_terms.specs.Ready.{comparison_in}
use Rattle.phase_terms.specs.declared.compared.Comparison.{Comparison as CellComparison}
use Rattle.phase_terms.specs.declared.words.PhaseWords.{PhaseWords}
use Rattle.phase_wishes.specs.declared.wishes.Wish.{Wish}
use Rattle.vrt_model.specs.Equal.{IsEqual}
use Rattle.output_functions.proofs.phases.join_next.Goals as goal

pub join_phase-requires-clause-equal : goal.join_phase-requires-clause-equal
join_phase-requires-clause-equal c = subst (λ (x : CellComparison). IsEqual (comparison_in x)) (sym c.opening_of.ensures.compared) c.requires.phases.equal

pub returns-clause-gives : goal.returns-clause-gives
returns-clause-gives c =
    let phases = c.args.phases in
    let k = comparison_in phases.compared in
    let opening = c.opening_of.ensures in
    let vars = c.requires.phases.vars in
    let few = subst (λ (ws : List Wish). length ws ≤ length k.circuit.nets) (sym c.as_slice.ensures) (c.in-Ok.ensures.few k.circuit c.requires.phases.ready.ports) in
    next_of phases c.opening_of.result c.args.phase (length c.as_slice.result.now) c.args.store.now c.join_phase.new.store c.args.functions.now.items c.join_phase.new.functions.items
    c.join_phase.result opening.compared opening.phase opening.words opening.plan few (λ p q. sym (vars p) ∙ vars q) c.requires.joined c.join_phase.ensures.gives

pub join_phase-requires-clause-between : goal.join_phase-requires-clause-between
join_phase-requires-clause-between c =
    let opening = c.opening_of.ensures in
    let joined = c.requires.joined in
    let k = comparison_in c.args.phases.compared in
    let store = c.args.store.now in (
      joined.made,
      subst (λ (x : CellComparison). IsBetween (comparison_in x) c.opening_of.result.phase store.budget joined.made c.opening_of.result.words store) (sym opening.compared)
          (subst (λ (p : ℕ). IsBetween k p store.budget joined.made c.opening_of.result.words store) (sym opening.phase)
          (subst (λ (w : PhaseWords). IsBetween k c.args.phase store.budget joined.made w store) (sym opening.words)
          (between_same k 0 c.args.phase store.budget joined.made c.args.phases.words store (λ p q. sym (c.requires.phases.vars p) ∙ c.requires.phases.vars q) joined.between))),
    )
