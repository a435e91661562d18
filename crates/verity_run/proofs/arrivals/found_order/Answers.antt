use Rattle.std.proofs.Common.{inl, inr}
use Rattle.std.proofs.lemmas.Result.{IfOk-weaker}
use Rattle.verity_run.proofs.ArrivalLaws.{other_verdict}
use Rattle.verity_run.proofs.arrivals.found_order.Goals as goal

pub returns-then-is_equal-clause-ok : goal.returns-then-is_equal-clause-ok
returns-then-is_equal-clause-ok c = IfOk-weaker c.equal_told.result _ _ (λ t h. inr h) c.equal_told.ensures.ok

pub returns-in-Ok-clause-ok : goal.returns-in-Ok-clause-ok
returns-in-Ok-clause-ok c = inl (other_verdict c.args.judged.now.verdict c.if-is_equal.ensures, c.in-Ok.ensures.0, c.in-Ok.ensures.1)
