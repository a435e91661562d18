use Rattle.std.proofs.Common.{inl}
use Rattle.verity_run.specs.Replays.{BeginsReplay, OfReplay}
use Rattle.verity_run.specs.Runs.{AnswersReplay}
use Rattle.verity_run.proofs.ReplayLaws.{replay_stops}
use Rattle.verity_run.proofs.Written.{refusal_ends, refusing, tells_answer}
use Rattle.verity_run.proofs.answers.replay_cell.Goals as goal

pub returns-in-Ok : goal.returns-in-Ok
returns-in-Ok g c =
    let i = c.args.ready.now.inputs in
    replay_stops i.design i.blif i.rules c.args.cell.now c.args.phase.now c.args.at c.in-Ok.found.count c.in-Ok.found.lines _ _ _ _ _ c.in-Ok.ensures.ok c.in-Err-put_cell.ensures.stopped

pub returns : goal.returns
returns g c =
    let i = c.args.ready.now.inputs in
    let Of = OfReplay i.design i.blif i.rules c.args.cell.now c.args.phase.now c.args.at in
    let A = AnswersReplay i.design i.blif i.rules c.args.cell.now c.args.phase.now c.args.at in
    refusal_ends A (BeginsReplay i.design i.blif i.rules c.args.cell.now c.args.phase.now c.args.at) c.in-Err.refusal _ _ _ _ _
    (tells_answer A Of c.in-Err.refusal (λ line of. inl (refusing Of line of)) c.in-Err.ensures.err) c.refuse.ensures
