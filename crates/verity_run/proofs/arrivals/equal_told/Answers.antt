use Rattle.std.proofs.lemmas.Result.{IfErr-weaker, IfOk-weaker}
use Rattle.verity_run.specs.Arrivals.{HasArrivalLine}
use Rattle.verity_run.proofs.ArrivalLaws.{equal_made, equal_refused, equal_with, made}
use Rattle.verity_run.proofs.arrivals.equal_told.Goals as goal

pub told_order-requires-clause-made : goal.told_order-requires-clause-made
told_order-requires-clause-made c =
    let i = c.args.ready.now.inputs in
    made i.design i.blif i.rules c.args.budget c.args.ready.now.cells c.args.number c.args.judged.now c.requires.found c.requires.equal c.in-Some.made c.in-Some.is

pub told_order-requires-clause-equal : goal.told_order-requires-clause-equal
told_order-requires-clause-equal c =
    let i = c.args.ready.now.inputs in
    equal_made i.design i.blif i.rules c.args.budget c.args.ready.now.cells c.args.number c.args.judged.now c.requires.found c.requires.equal c.in-Some.made c.in-Some.is c.args.place c.requires.place

pub returns-in-Some-clause-ok : goal.returns-in-Some-clause-ok
returns-in-Some-clause-ok c =
    let i = c.args.ready.now.inputs in
    IfOk-weaker c.told_order.result _ _
    (λ t h.
    equal_with i.design i.blif i.rules c.args.budget c.args.ready.now.cells c.args.number c.args.judged.now c.requires.found c.requires.equal c.in-Some.made c.in-Some.is
    (λ k. HasArrivalLine k i.blif c.args.budget c.args.place c.args.names.now t.count t.line) h) c.told_order.ensures.ok

pub returns-in-Some-clause-err : goal.returns-in-Some-clause-err
returns-in-Some-clause-err c =
    let i = c.args.ready.now.inputs in
    IfErr-weaker c.told_order.result _ _
    (λ refusal h.
    equal_refused i.design i.blif i.rules c.args.budget c.args.ready.now.cells c.args.number c.args.judged.now c.requires.found c.requires.equal c.in-Some.made c.in-Some.is c.args.names.now refusal h) c.told_order.ensures.err
