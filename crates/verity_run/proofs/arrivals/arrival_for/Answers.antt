use Rattle.std.proofs.Common.{Option, subst}
use Rattle.std.specs.Prelude.{IfSome}
use Rattle.std.proofs.lemmas.Result.{IfErr-weaker, IfOk-weaker}
use Rattle.verity_run.proofs.ArrivalLaws.{arrival_is, arrival_refused}
use Rattle.verity_run.specs.Arrivals.{IsFound}
use Rattle.verity_run.specs.declared.report.Judged.{Judged}
use Rattle.verity_run.proofs.arrivals.arrival_for.Goals as goal

pub returns-in-Ok-Some-clause-ok : goal.returns-in-Ok-Some-clause-ok
returns-in-Ok-Some-clause-ok c =
    let i = c.args.ready.now.inputs in
    IfOk-weaker c.found_order.result _ _
    (λ t h.
    arrival_is i.design i.blif i.rules c.args.budget c.args.cell.now c.args.phase.now c.args.rise.now c.in_ok-place.place c.in_ok-number.number c.in_ok-names.names c.args.ready.now.cells c.in-Ok-Some.found
    c.in_ok-place.ensures.ok c.in_ok-names.ensures.ok c.in_ok-number.ensures c.requires.asked
    (subst (λ (o : Option Judged). IfSome o (IsFound i.design i.blif i.rules c.args.budget c.args.ready.now.cells c.in_ok-number.number)) c.in-Ok-Some.field-0-is c.in-Ok-Some.ensures) t.count t.line h) c.found_order.ensures.ok

pub returns-in-Ok-Some-clause-err : goal.returns-in-Ok-Some-clause-err
returns-in-Ok-Some-clause-err c =
    let i = c.args.ready.now.inputs in
    IfErr-weaker c.found_order.result _ _
    (λ refusal h.
    arrival_refused i.design i.blif i.rules c.args.budget c.args.cell.now c.args.phase.now c.args.rise.now c.in_ok-place.place c.in_ok-number.number c.in_ok-names.names c.args.ready.now.cells c.in-Ok-Some.found
    c.in_ok-place.ensures.ok c.in_ok-names.ensures.ok c.in_ok-number.ensures c.requires.asked
    (subst (λ (o : Option Judged). IfSome o (IsFound i.design i.blif i.rules c.args.budget c.args.ready.now.cells c.in_ok-number.number)) c.in-Ok-Some.field-0-is c.in-Ok-Some.ensures) refusal h) c.found_order.ensures.err
