use Rattle.std.proofs.Common.{◌≡◌, ℕ, ◌+◌, ◌*◌, List, length, arith, ap, sym, subst, ◌∙◌}
use Rattle.std.specs.Prelude.{sum_by}
use Rattle.bdd_core.proofs.Results.{if_ok_more}
use Rattle.bdd_core.specs.Diagram.{Valuation}
use Rattle.bdd_core.specs.Store.{Diagrams}
use Rattle.bdd_ops.proofs.CountingLaws.{counted_same, counts_more, counts_then}
use Rattle.blif_eval.proofs.EvalLaws.{evaluated, spans_from, steps_from, within_beside, zeros_within}
use Rattle.blif_eval.proofs.OperationLaws.{numbers_most}
use Rattle.blif_eval.specs.Evaluated.{AreSteps, IsEvaluated}
use Rattle.blif_eval.specs.Operations.{number_operations}
use Rattle.blif_eval.specs.Settled.{AreSettled}
use Rattle.blif_eval.specs.declared.driver_table.Driver.{Driver}
use Rattle.vrt_model.specs.Budget.{model_size}
use Rattle.blif_eval.proofs.eval.eval_model.Goals as goal

pub settle_all-requires-clause-spans : goal.settle_all-requires-clause-spans
settle_all-requires-clause-spans c = spans_from c.args.flat.now c.args.inputs c.args.held c.args.out c.args.store.now c.clear.new.store c.requires.spans c.clear.ensures.writes

pub settle_all-requires-clause-plan : goal.settle_all-requires-clause-plan
settle_all-requires-clause-plan c =
    let flat = c.args.flat.now in
    let plan = c.args.plan.now in
    let mid = c.clear.new.store in
    subst (λ (steps : List ℕ). AreSteps flat c.as_slice.result.now steps c.args.inputs mid) (sym c.as_slice-2.ensures)
    (subst (λ (drivers : List Driver). AreSteps flat drivers plan.steps c.args.inputs mid) (sym c.as_slice.ensures)
    (steps_from flat plan c.args.inputs c.args.held c.args.out c.args.store.now mid c.requires.plan c.requires.spans c.clear.ensures.writes))

pub returns-clause-evaluated : goal.returns-clause-evaluated
returns-clause-evaluated c =
    let flat = c.args.flat.now in
    let plan = c.args.plan.now in
    let inputs = c.args.inputs in
    let held = c.args.held in
    let out = c.args.out in
    let old = c.args.store.now in
    let mid = c.clear.new.store in
    let new = c.settle_all.new.store in
    if_ok_more (λ _. AreSettled flat c.as_slice.result.now c.as_slice-2.result.now inputs held out mid new (length c.as_slice-2.result.now))
    (λ _. (v : Valuation) → IsEvaluated flat inputs held out old new v) c.settle_all.result
    (λ _ settled v.
    evaluated flat c.requires.model plan inputs held out old mid new c.requires.plan c.requires.spans c.clear.ensures.writes
    (subst (λ (drivers : List Driver). AreSettled flat drivers plan.steps inputs held out mid new (length plan.steps)) c.as_slice.ensures
    (subst (λ (steps : List ℕ). AreSettled flat c.as_slice.result.now steps inputs held out mid new (length steps)) c.as_slice-2.ensures settled)) v)
    c.settle_all.ensures.settled

pub returns-clause-counts : goal.returns-clause-counts
returns-clause-counts c u reads reads' =
    let flat = c.args.flat.now in
    let plan = c.args.plan.now in
    let old = c.args.store.now in
    let mid = c.clear.new.store in
    let new = c.settle_all.new.store in
    let is = c.requires.plan.1 in
    let w = c.clear.ensures.writes in
    let spans = c.requires.spans in
    let most = numbers_most flat c.requires.model plan.drivers is.drivers plan.steps is.lists.below is.lists.once in
    let same : sum_by (number_operations flat c.as_slice.result.now) c.as_slice-2.result.now ≡ sum_by (number_operations flat plan.drivers) plan.steps =
    ap (λ (steps : List ℕ). sum_by (number_operations flat c.as_slice.result.now) steps) c.as_slice-2.ensures
    ∙ ap (λ (drivers : List Driver). sum_by (number_operations flat drivers) plan.steps) c.as_slice.ensures in
    let n = sum_by (number_operations flat c.as_slice.result.now) c.as_slice-2.result.now in
    let rest = c.clear.ensures.rest in
    counts_more u (0 + n) (2 * model_size flat) old new c.settle_all.result (omega (arith, same, most))
    (counts_then u 0 n old mid new c.settle_all.result
    (counted_same u old mid (ap (λ (d : Diagrams). d.budget) rest) (ap (λ (d : Diagrams). d.nodes) rest))
    (c.settle_all.ensures.counts u (within_beside u c.args.inputs c.args.out old mid w spans.inputs_apart spans.inputs_live reads)
    (within_beside u c.args.held c.args.out old mid w spans.held_apart spans.held_live reads') (zeros_within u mid c.args.out c.clear.ensures.zeros)))
