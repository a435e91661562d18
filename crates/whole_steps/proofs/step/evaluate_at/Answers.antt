use Rattle.std.proofs.Common.{◌≡◌, ℕ, ◌<◌, Bool, arith, ap, cond, subst, sym, ◌∙◌}
use Rattle.node_pool.specs.declared.region.Span.{Span}
use Rattle.bdd_core.proofs.Frames.{writes_none}
use Rattle.bdd_core.proofs.Results.{if_ok_more}
use Rattle.bdd_core.specs.Words.{Writes}
use Rattle.bdd_ops.proofs.CountingLaws.{counted_none, counts_ok}
use Rattle.bdd_ops.specs.Counting.{Counts, IsCounted}
use Rattle.blif_eval.specs.Plans.{IsPlan}
use Rattle.blif_eval.specs.declared.plan.ModelPlan.{ModelPlan}
use Rattle.vrt_model.proofs.Lists.{one_at}
use Rattle.vrt_model.specs.declared.whole.Whole.{Whole}
use Rattle.whole_steps.proofs.EvaluationLaws.{evaluated_last}
use Rattle.whole_steps.proofs.TableLaws.{input_in_range}
use Rattle.whole_steps.specs.Evaluations.{IsEvaluatedIn, evaluation_operations, output_operations}
use Rattle.whole_steps.specs.Logic.{nothing_known}
use Rattle.whole_steps.specs.Words.{model_span}
use Rattle.whole_steps.proofs.step.evaluate_at.Goals as goal

-- ---- what was found stands there already

pub returns-then-is_evaluated-clause-writes : goal.returns-then-is_evaluated-clause-writes
returns-then-is_evaluated-clause-writes c w at =
    let found = evaluated_last c.args.circuit.now c.args.phase.now c.args.last c.args.number c.args.gates c.args.out c.args.store.now (sym c.is_evaluated.ensures ∙ c.if-is_evaluated.true) c.requires.last in
    writes_none (model_span w.model c.args.out) c.args.store.now c.sound.ensures.sound c.sound.ensures.within (found w at).live

pub returns-then-is_evaluated-clause-found : goal.returns-then-is_evaluated-clause-found
returns-then-is_evaluated-clause-found c =
    evaluated_last c.args.circuit.now c.args.phase.now c.args.last c.args.number c.args.gates c.args.out c.args.store.now (sym c.is_evaluated.ensures ∙ c.if-is_evaluated.true) c.requires.last

pub returns-then-is_evaluated-clause-counts : goal.returns-then-is_evaluated-clause-counts
returns-then-is_evaluated-clause-counts c w at u reads =
    let none : output_operations c.args.last c.args.number w ≡ 0 = ap (λ (b : Bool). cond b 0 (evaluation_operations w)) (sym c.is_evaluated.ensures ∙ c.if-is_evaluated.true) in
    counts_ok u (output_operations c.args.last c.args.number w) c.args.store.now c.args.store.now _
    (subst (λ (n : ℕ). IsCounted u n c.args.store.now c.args.store.now) (sym none) (counted_none u c.args.store.now))

-- ---- it is evaluated

pub evaluate_whole-requires-clause-plan : goal.evaluate_whole-requires-clause-plan
evaluate_whole-requires-clause-plan c =
    let w = c.whole_at-whole.result.now in
    let plan = c.requires.wholes.plans c.args.number w c.whole_at-whole.ensures in
    subst (λ (p : ModelPlan). IsPlan w.model (nothing_known w.model) p) (one_at c.args.wholes.plans.now c.args.number plan.0 c.plan_at-plan.result.now plan.1 c.plan_at-plan.ensures) plan.2

pub evaluate_whole-requires-clause-nets : goal.evaluate_whole-requires-clause-nets
evaluate_whole-requires-clause-nets c p m =
    let lt = input_in_range c.args.circuit.now c.requires.circuit c.whole_at-whole.result.now (c.args.number, c.whole_at-whole.ensures) p m in
    omega (arith, lt, c.requires.gates.2)

pub returns-clause-writes : goal.returns-clause-writes
returns-clause-writes c w at =
    let whole = c.whole_at-whole.result.now in
    subst (λ (x : Whole). Writes (model_span x.model c.args.out) c.args.store.now c.evaluate_whole.new.store) (one_at c.args.circuit.now.wholes c.args.number whole w c.whole_at-whole.ensures at)
    (subst (λ (s : Span). Writes s c.args.store.now c.evaluate_whole.new.store) c.words_of-words.ensures c.evaluate_whole.ensures.writes)

pub returns-clause-found : goal.returns-clause-found
returns-clause-found c =
    let whole = c.whole_at-whole.result.now in
    let phase = c.args.phase.now in
    let gates = c.args.gates in
    let new = c.evaluate_whole.new.store in
    if_ok_more _ _ c.evaluate_whole.result
    (λ _ found w at.
    let here = subst (λ (s : Span). IsEvaluatedIn phase whole gates s new) c.words_of-words.ensures found in
    subst (λ (x : Whole). IsEvaluatedIn phase x gates c.args.out new) (one_at c.args.circuit.now.wholes c.args.number whole w c.whole_at-whole.ensures at)
    (record { live = here.live; gives = here.gives; within = here.within }))
    c.evaluate_whole.ensures.found

pub returns-clause-counts : goal.returns-clause-counts
returns-clause-counts c w at u reads =
    let whole = c.whole_at-whole.result.now in
    let old = c.args.store.now in
    let new = c.evaluate_whole.new.store in
    let all : output_operations c.args.last c.args.number whole ≡ evaluation_operations whole =
    ap (λ (b : Bool). cond b 0 (evaluation_operations whole)) (sym c.is_evaluated.ensures ∙ c.if-is_evaluated.false) in
    subst (λ (x : Whole). Counts {A = Unit {0}} u (output_operations c.args.last c.args.number x) old new c.evaluate_whole.result)
    (one_at c.args.circuit.now.wholes c.args.number whole w c.whole_at-whole.ensures at)
    (subst (λ (n : ℕ). Counts {A = Unit {0}} u n old new c.evaluate_whole.result) (sym all) (c.evaluate_whole.ensures.counts u reads))
