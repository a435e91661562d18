use Rattle.std.proofs.Common.{arith, inl, inr, refl}
use Rattle.std.proofs.lemmas.Option.{slice_get_read}
use Rattle.std.proofs.lemmas.Result.{err_from_is_err_and}
use Rattle.blif_checks.proofs.JudgeLaws.{model_first, model_is, model_none, models_done}
use Rattle.blif_checks.proofs.judge.judge_models.Goals as goal

pub judge_model-requires-clause-model : goal.judge_model-requires-clause-model
judge_model-requires-clause-model c =
    model_is c.args.blif.now c.as_slice-model-items.result.now c.loop-model.model-index _ c.requires.blif c.as_slice-model-items.ensures
    (slice_get_read c.as_slice-model-items.result.now _ c.loop-model.model-index _ refl (omega arith) c.model-item.is)

pub returns-in_err-judge_model : goal.returns-in_err-judge_model
returns-in_err-judge_model c =
    let p = err_from_is_err_and c.from_residual.result c.from_residual.ensures.1 in
    rw (p.1, p.2) (elim c.in_err-judge_model.ensures [
      | inl h ↦ inl h
      | inr h ↦
          inr (model_first c.args.blif.now c.as_slice-model-items.result.now c.loop-model.model-index _ _ c.as_slice-model-items.ensures (omega arith)
          (slice_get_read c.as_slice-model-items.result.now _ c.loop-model.model-index _ refl (omega arith) c.model-item.is) c.loop-model.invariant h)
    ])

pub loop-model-preserved : goal.loop-model-preserved
loop-model-preserved c =
    model_none c.args.blif.now c.as_slice-model-items.result.now c.loop-model.model-index _ c.as_slice-model-items.ensures (omega arith)
    (slice_get_read c.as_slice-model-items.result.now _ c.loop-model.model-index _ refl (omega arith) c.model-item.is) c.loop-model.invariant c.in_ok-judge_model.ensures

pub returns : goal.returns
returns c = models_done c.args.blif.now c.as_slice-model-items.result.now c.loop-model.model-index c.as_slice-model-items.ensures (omega arith) c.loop-model.invariant
