use Rattle.std.proofs.Common.{inr}
use Rattle.std.proofs.lemmas.Result.{IfOk-weaker}
use Rattle.verity_run.proofs.ArrivalLaws.{equal_is, other_verdict}
use Rattle.verity_run.proofs.WriteLaws.{verdict_alone}
use Rattle.verity_run.proofs.writes.found_lines.Goals as goal

pub returns-then-is_equal : goal.returns-then-is_equal
returns-then-is_equal c = IfOk-weaker c.equal_lines.result _ _ (λ f h. inr (equal_is c.args.judged.now.verdict c.if-is_equal.ensures, h)) c.equal_lines.ensures

pub returns : goal.returns
returns c =
    let i = c.args.ready.now.inputs in
    IfOk-weaker c.single.result _ _
    (λ f h.
    verdict_alone i.design i.blif i.rules c.args.budget c.args.number c.args.judged.now.verdict c.in_ok-told.told.count f.count c.in_ok-told.told.line f.lines
    (other_verdict c.args.judged.now.verdict c.if-is_equal.ensures) c.in_ok-told.ensures.0 c.in_ok-told.ensures.1 h.0 h.1) c.single.ensures
