use Rattle.std.proofs.Common.{arith, inl, inr, refl}
use Rattle.std.proofs.lemmas.Option.{slice_get_read}
use Rattle.std.proofs.lemmas.Result.{err_from_is_err_and}
use Rattle.blif_checks.proofs.SubLaws.{group_first, group_none, subs_done}
use Rattle.blif_checks.proofs.subs.check_subs.Goals as goal

pub returns-in_err-judge_subs-clause-fault : goal.returns-in_err-judge_subs-clause-fault
returns-in_err-judge_subs-clause-fault c =
    let p = err_from_is_err_and c.from_residual.result c.from_residual.ensures.1 in
    rw (p.1, p.2) (elim c.in_err-judge_subs.ensures [
      | inl h ↦ inl h
      | inr h ↦ inr (group_first c.args.blif.now c.as_slice-model-items.result.now _ c.loop-model.model-index _ _ _ c.as_slice-model-items.ensures (omega arith) (slice_get_read c.as_slice-model-items.result.now _ c.loop-model.model-index _ refl (omega arith) c.model-item.is) c.loop-model.invariant c.as_slice.ensures h)
    ])

pub loop-model-preserved : goal.loop-model-preserved
loop-model-preserved c =
    group_none c.args.blif.now c.as_slice-model-items.result.now _ c.loop-model.model-index _ _ c.as_slice-model-items.ensures (omega arith)
    (slice_get_read c.as_slice-model-items.result.now _ c.loop-model.model-index _ refl (omega arith) c.model-item.is) c.loop-model.invariant c.as_slice.ensures c.in_ok-judge_subs.ensures

pub returns-clause-fit : goal.returns-clause-fit
returns-clause-fit c =
    subs_done c.args.blif.now c.as_slice-model-items.result.now c.loop-model.model-index c.as_slice-model-items.ensures (omega arith) c.loop-model.invariant
