use Rattle.std.proofs.Common.{◌+◌, ◌*◌, Err, arith, length}
use Rattle.bdd_core.proofs.Results.{if_ok_more}
use Rattle.bdd_core.specs.Store.{function_of}
use Rattle.bdd_ops.proofs.CountingLaws.{counts_more}
use Rattle.bdd_ops.proofs.WithinLaws.{within_same}
use Rattle.circuit_faults.proofs.PartLaws.{part_gives}
use Rattle.circuit_faults.proofs.RoomLaws.{way_room}
use Rattle.circuit_faults.proofs.WayLaws.{way_is}
use Rattle.circuit_faults.specs.Small.{reach_of, scan_operations}
use Rattle.path_fixpoint.proofs.SpendingLaws.{span_beside, spends_behind, spends_more, spends_refused}
use Rattle.path_fixpoint.specs.Spending.{solving_operations}
use Rattle.vrt_model.specs.Lists.{mark_at}
use Rattle.circuit_faults.proofs.solve.check_part.Goals as goal

pub solve-requires-clause-way : goal.solve-requires-clause-way
solve-requires-clause-way c =
    way_is c.few_functions-way.result c.args.circuit.now c.args.part.now c.args.gates c.args.roots c.args.store.now c.few_functions-way.ensures

pub returns-clause-gives : goal.returns-clause-gives
returns-clause-gives c =
    if_ok_more _ _ c.scan.result
    (λ found s. part_gives c.args.circuit.now c.args.part.now (mark_at c.args.observed.now) c.args.care c.args.roots c.args.gates c.args.out (reach_of c.few_functions-way.result c.solve.new.store c.args.out)
    c.args.store.now c.solve.new.store c.scan.new.store c.requires.spans c.requires.care c.in-Ok.ensures.writes.1 c.in-Ok.ensures.tells found s)
    c.scan.ensures.gives

pub returns-in-Err-clause-few : goal.returns-in-Err-clause-few
returns-in-Err-clause-few c one u care gates roots =
    let circuit = c.args.circuit.now in
    let part = c.args.part.now in
    let p = length part.nets in
    let s = solving_operations circuit part in
    let old = c.args.store.now in
    let new = c.solve.new.store in
    let way = c.few_functions-way.result in
    let room = way_room way circuit part c.args.gates c.args.roots old (way_is way circuit part c.args.gates c.args.roots old c.few_functions-way.ensures) in
    let all = room.2 in
    spends_refused u c.args.gates (s + 4 * p) old new c.in-Err.spent
    (counts_more u room.0 (s + 4 * p) old new (Err c.in-Err.spent) (omega (arith, all)) (c.in-Err.ensures.few one u room.0 gates roots room.1).counts)

pub returns-clause-few : goal.returns-clause-few
returns-clause-few c one u care gates roots =
    let circuit = c.args.circuit.now in
    let part = c.args.part.now in
    let s = solving_operations circuit part in
    let p = length part.nets in
    let old = c.args.store.now in
    let way = c.few_functions-way.result in
    let room = way_room way circuit part c.args.gates c.args.roots old (way_is way circuit part c.args.gates c.args.roots old c.few_functions-way.ensures) in
    let mid = c.solve.new.store in
    let new = c.scan.new.store in
    let writes = c.in-Ok.ensures.writes.1 in
    let spans = c.requires.spans in
    let solved = c.in-Ok.ensures.few one u room.0 gates roots room.1 in
    spends_more u c.args.gates (room.0 + p * scan_operations way) (s + 4 * p) old new c.scan.result room.2
    (spends_behind u c.args.gates room.0 (p * scan_operations way) old mid new c.scan.result solved.counts.added
    (c.scan.ensures.few u (within_same u (function_of old c.args.care) (function_of mid c.args.care) (writes.adds.kept c.args.care.0 c.requires.care) care)
    (span_beside u c.args.out.span c.args.gates old mid writes spans.spans.apart spans.spans.gates_live gates) solved.within (c.in-Ok.ensures.way u gates)))
