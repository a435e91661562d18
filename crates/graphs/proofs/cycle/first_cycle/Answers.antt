use Rattle.std.proofs.Common.{ℕ, ◌∷◌, Bool, List, arith, subst, sym, ◌∙◌}
use Rattle.std.specs.Prelude.{IfSome}
use Rattle.graphs.proofs.TrailLaws.{none_at_all, none_next, some_first}
use Rattle.graphs.specs.Graphs.{ArcIn}
use Rattle.graphs.specs.Groups.{HasCycles}
use Rattle.graphs.specs.Trails.{IsAround}
use Rattle.vrt_model.specs.Known.{IsCycle}
use Rattle.graphs.proofs.cycle.first_cycle.Goals as goal

pub marked_cycle-requires-clause-marks : goal.marked_cycle-requires-clause-marks
marked_cycle-requires-clause-marks c = subst (λ (t : List Bool). HasCycles c.args.sources.now t) (sym c.as_slice-marks.ensures.value) c.in_ok-table.ensures

pub returns-then-is_some-clause-found : goal.returns-then-is_some-clause-found
returns-then-is_some-clause-found c =
    let sources = c.args.sources.now in
    some_first sources c.loop-number.number c.in_ok-found.found c.loop-number.invariant
    (subst (λ (n : ℕ). IfSome c.in_ok-found.found (λ nodes. IsAround (ArcIn sources) n nodes)) c.in_ok-first.ensures c.in_ok-found.ensures.found)

pub loop-number-preserved : goal.loop-number-preserved
loop-number-preserved c =
    let sources = c.args.sources.now in
    none_next sources c.loop-number.number c.loop-number.invariant
    (subst (λ (n : ℕ). (others : List ℕ) → ¬ IsCycle (ArcIn sources) (n ∷ others)) c.in_ok-first.ensures (c.in_ok-found.ensures.none (sym c.is_some.ensures ∙ c.if-is_some.false)))

pub returns-clause-none : goal.returns-clause-none
returns-clause-none c =
    let end = c.loop-number-test.false in
    λ e. none_at_all c.args.sources.now (λ m lt others. c.loop-number.invariant m (omega (arith, lt, end)) others)
