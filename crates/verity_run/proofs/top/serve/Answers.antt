use Rattle.verity_run.proofs.Written.{ready_answered, refusal_ends}
use Rattle.verity_run.proofs.top.serve.Goals as goal

pub returns-in-Ok : goal.returns-in-Ok
returns-in-Ok g c = ready_answered c.args.request.now _ c.in-Ok.ready _ _ _ _ _ _ _ c.in-Ok.ensures.says c.answer.ensures

pub returns-in-Err : goal.returns-in-Err
returns-in-Err g c = refusal_ends _ _ c.in-Err.refusal _ _ _ _ _ c.in-Err.ensures.err c.refuse.ensures
