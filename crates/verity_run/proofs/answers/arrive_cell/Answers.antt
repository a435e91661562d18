use Rattle.std.proofs.Common.{inl, inr, refl}
use Rattle.verity_run.specs.Arrivals.{OfArrival}
use Rattle.verity_run.specs.Runs.{AnswersArrival}
use Rattle.verity_run.proofs.PutLaws.{line_ends}
use Rattle.verity_run.proofs.Written.{refusal_ends, refusing, tells_answer}
use Rattle.verity_run.proofs.answers.arrive_cell.Goals as goal

pub returns-in-Ok : goal.returns-in-Ok
returns-in-Ok g c =
    let i = c.args.ready.now.inputs in
    let told = c.in-Ok.told in
    line_ends (AnswersArrival i.design i.blif i.rules c.args.budget c.args.cell.now c.args.phase.now c.args.rise.now) (λ lines. ⊥) _ _ told.line _ _ _ _
    (inr (record { count = told.count; line = told.line; is = c.in-Ok.ensures.ok; ended = refl; lines_are = refl })) c.put_one.ensures

pub returns-in-Err : goal.returns-in-Err
returns-in-Err g c =
    let i = c.args.ready.now.inputs in
    let Of = OfArrival i.design i.blif i.rules c.args.budget c.args.cell.now c.args.phase.now c.args.rise.now in
    let A = AnswersArrival i.design i.blif i.rules c.args.budget c.args.cell.now c.args.phase.now c.args.rise.now in
    refusal_ends A (λ lines. ⊥) c.in-Err.refusal _ _ _ _ _ (tells_answer A Of c.in-Err.refusal (λ line of. inl (refusing Of line of)) c.in-Err.ensures.err) c.refuse.ensures
