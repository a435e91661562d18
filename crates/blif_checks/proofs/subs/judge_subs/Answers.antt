use Rattle.std.proofs.Common.{arith, inl, inr, refl}
use Rattle.std.proofs.lemmas.Option.{slice_get_read}
use Rattle.std.proofs.lemmas.Result.{err_from_is_err_and}
use Rattle.blif_checks.specs.Subs.{sub_fault}
use Rattle.blif_checks.proofs.SubLaws.{first_here, none_here}
use Rattle.blif_checks.proofs.subs.judge_subs.Goals as goal

pub returns-in_err-judge_sub : goal.returns-in_err-judge_sub
returns-in_err-judge_sub c =
    let p = err_from_is_err_and c.from_residual.result c.from_residual.ensures.1 in
    rw (p.1, p.2) (elim c.in_err-judge_sub.ensures [
      | inl h ↦ inl h
      | inr h ↦ inr (first_here (sub_fault c.args.blif.now) c.args.subs.now c.loop-sub.sub-index _ _ _ (omega arith) (slice_get_read c.args.subs.now _ c.loop-sub.sub-index _ refl (omega arith) c.sub-item.is) c.loop-sub.invariant h)
    ])

pub loop-sub-preserved : goal.loop-sub-preserved
loop-sub-preserved c =
    none_here (sub_fault c.args.blif.now) c.args.subs.now c.loop-sub.sub-index _ _ (omega arith) (slice_get_read c.args.subs.now _ c.loop-sub.sub-index _ refl (omega arith) c.sub-item.is) c.loop-sub.invariant c.in_ok-judge_sub.ensures
