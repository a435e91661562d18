use Rattle.std.proofs.Common.{◌+◌, Err, ap, arith, length}
use Rattle.bdd_core.specs.Store.{Diagrams}
use Rattle.bdd_core.proofs.Frames.{word_beside}
use Rattle.bdd_core.proofs.Results.{if_ok_more}
use Rattle.bdd_ops.proofs.CountingLaws.{counted_same, counted_then, counts_more}
use Rattle.bdd_ops.specs.Counting.{IsCounted}
use Rattle.path_fixpoint.proofs.SpendingLaws.{spends_behind, spends_more, spends_refused}
use Rattle.path_fixpoint.specs.Spending.{solving_operations}
use Rattle.part_functions.proofs.SpendLaws.{spends_words}
use Rattle.path_fixpoint.specs.Strengths.{circuit_words}
use Rattle.part_functions.proofs.SmallLaws.{are_inner, gates_then, handles_have, list_few, list_live, out_apart, roots_then, tells_inner, two_same, writes_all}
use Rattle.part_functions.proofs.solve.solve_small.Goals as goal

pub small_handles-requires-clause-functions : goal.small_handles-requires-clause-functions
small_handles-requires-clause-functions c =
    let d = c.args.store.now in
    let reads = c.requires.small.reads in
    let filled = c.requires.spans.spans.gates_live in (
      reads.list,
      list_live c.args.functions c.args.circuit.now c.args.part.now c.args.gates c.args.roots d c.sound.ensures.sound.ends filled reads,
      list_few c.args.functions c.args.circuit.now c.args.part.now c.args.gates c.args.roots d c.sound.ensures.sound filled c.requires.small,
    )

pub small_handles-requires-clause-handles : goal.small_handles-requires-clause-handles
small_handles-requires-clause-handles c =
    handles_have c.args.functions c.args.circuit.now c.args.part.now c.args.gates c.args.roots c.args.store.now c.gate_handles-handles.result c.requires.part.1 c.requires.small.reads c.gate_handles-handles.ensures.are

pub returns-clause-beside : goal.returns-clause-beside
returns-clause-beside c =
    let out = circuit_words c.args.circuit.now c.args.out in
    let d0 : Diagrams = c.args.store.now in
    let d1 : Diagrams = c.small_handles.new.store in
    let d2 : Diagrams = c.write_gates.new.store in
    let live = list_live c.args.functions c.args.circuit.now c.args.part.now c.args.gates c.args.roots d0 c.sound.ensures.sound.ends c.requires.spans.spans.gates_live c.requires.small.reads in
    let d3 : Diagrams = c.solve_part-solved.new.store in
    let d4 : Diagrams = c.write_gates-2.new.store in
    two_same c.args.out d0 d4 (writes_all c.args.circuit.now c.args.part.now c.requires.part.1 c.requires.part.0 c.requires.part.2 c.args.gates c.args.roots out c.args.functions d0 d1 d2 c.requires.spans c.requires.apart live c.requires.small c.gate_handles-handles.result c.in-Ok.small c.gate_handles-handles.ensures.are c.in-Ok.ensures.adds c.in-Ok.ensures.stand c.write_gates.ensures.writes c.write_gates.ensures.rest c.write_gates.ensures.written d3 d4 c.solve_part-solved.ensures.writes c.write_gates-2.ensures.writes c.write_gates-2.ensures.rest c.write_gates-2.ensures.written)

pub returns-clause-writes : goal.returns-clause-writes
returns-clause-writes c =
    let out = circuit_words c.args.circuit.now c.args.out in
    let d0 : Diagrams = c.args.store.now in
    let d1 : Diagrams = c.small_handles.new.store in
    let d2 : Diagrams = c.write_gates.new.store in
    let live = list_live c.args.functions c.args.circuit.now c.args.part.now c.args.gates c.args.roots d0 c.sound.ensures.sound.ends c.requires.spans.spans.gates_live c.requires.small.reads in
    let d3 : Diagrams = c.solve_part-solved.new.store in
    let d4 : Diagrams = c.write_gates-2.new.store in
    if_ok_more _ _ c.solve_part-solved.result (λ x t. writes_all c.args.circuit.now c.args.part.now c.requires.part.1 c.requires.part.0 c.requires.part.2 c.args.gates c.args.roots out c.args.functions d0 d1 d2 c.requires.spans c.requires.apart live c.requires.small c.gate_handles-handles.result c.in-Ok.small c.gate_handles-handles.ensures.are c.in-Ok.ensures.adds c.in-Ok.ensures.stand c.write_gates.ensures.writes c.write_gates.ensures.rest c.write_gates.ensures.written d3 d4 c.solve_part-solved.ensures.writes c.write_gates-2.ensures.writes c.write_gates-2.ensures.rest c.write_gates-2.ensures.written) c.solve_part-solved.ensures.reaches

pub returns-clause-reaches : goal.returns-clause-reaches
returns-clause-reaches c =
    let out = circuit_words c.args.circuit.now c.args.out in
    let d0 : Diagrams = c.args.store.now in
    let d1 : Diagrams = c.small_handles.new.store in
    let d2 : Diagrams = c.write_gates.new.store in
    let live = list_live c.args.functions c.args.circuit.now c.args.part.now c.args.gates c.args.roots d0 c.sound.ensures.sound.ends c.requires.spans.spans.gates_live c.requires.small.reads in
    let d3 : Diagrams = c.solve_part-solved.new.store in
    let d4 : Diagrams = c.write_gates-2.new.store in
    if_ok_more _ _ c.solve_part-solved.result (λ x t. tells_inner c.args.circuit.now c.args.part.now c.requires.part.1 c.requires.part.0 c.requires.part.2 c.args.gates c.args.roots out c.args.functions d0 d1 d2 c.requires.spans c.requires.apart live c.requires.small c.gate_handles-handles.result c.in-Ok.small c.gate_handles-handles.ensures.are c.in-Ok.ensures.adds c.in-Ok.ensures.stand c.write_gates.ensures.writes c.write_gates.ensures.rest c.write_gates.ensures.written d3 d4 c.solve_part-solved.ensures.writes c.write_gates-2.ensures.writes c.write_gates-2.ensures.rest c.write_gates-2.ensures.written (t c.requires.part.2)) c.solve_part-solved.ensures.reaches

pub returns-clause-inner : goal.returns-clause-inner
returns-clause-inner c =
    let out = circuit_words c.args.circuit.now c.args.out in
    let d0 : Diagrams = c.args.store.now in
    let d1 : Diagrams = c.small_handles.new.store in
    let d2 : Diagrams = c.write_gates.new.store in
    let live = list_live c.args.functions c.args.circuit.now c.args.part.now c.args.gates c.args.roots d0 c.sound.ensures.sound.ends c.requires.spans.spans.gates_live c.requires.small.reads in
    let d3 : Diagrams = c.solve_part-solved.new.store in
    let d4 : Diagrams = c.write_gates-2.new.store in
    if_ok_more _ _ c.solve_part-solved.result (λ x t. are_inner c.args.circuit.now c.args.part.now c.requires.part.1 c.requires.part.0 c.requires.part.2 c.args.gates c.args.roots out c.args.functions d0 d1 d2 c.requires.spans c.requires.apart live c.requires.small c.gate_handles-handles.result c.in-Ok.small c.gate_handles-handles.ensures.are c.in-Ok.ensures.adds c.in-Ok.ensures.stand c.write_gates.ensures.writes c.write_gates.ensures.rest c.write_gates.ensures.written d3 d4 c.solve_part-solved.ensures.writes c.write_gates-2.ensures.writes c.write_gates-2.ensures.rest c.write_gates-2.ensures.written (t c.requires.part.2)) c.solve_part-solved.ensures.reaches

pub returns-in-Err-clause-few : goal.returns-in-Err-clause-few
returns-in-Err-clause-few c one =
    let d0 = c.args.store.now in
    let d1 = c.small_handles.new.store in
    let n = c.args.functions.count in
    let q = length c.args.part.now.devices in
    let s = solving_operations c.args.circuit.now c.args.part.now in
    spends_refused n c.args.out (q + s) d0 d1 c.in-Err.spent (counts_more n q (q + s) d0 d1 (Err c.in-Err.spent) (omega arith) (c.in-Err.ensures.counts n (omega arith)))

pub returns-clause-few : goal.returns-clause-few
returns-clause-few c one =
    let out = circuit_words c.args.circuit.now c.args.out in
    let d0 : Diagrams = c.args.store.now in
    let d1 : Diagrams = c.small_handles.new.store in
    let d2 : Diagrams = c.write_gates.new.store in
    let live = list_live c.args.functions c.args.circuit.now c.args.part.now c.args.gates c.args.roots d0 c.sound.ensures.sound.ends c.requires.spans.spans.gates_live c.requires.small.reads in
    let d3 : Diagrams = c.solve_part-solved.new.store in
    let d4 : Diagrams = c.write_gates-2.new.store in
    let n = c.args.functions.count in
    let q = length c.args.part.now.devices in
    let s = solving_operations c.args.circuit.now c.args.part.now in
    let r = c.solve_part-solved.result in
    let opened = (c.in-Ok.ensures.counts n (omega arith)).added in
    let written : IsCounted n 0 d1 d2 = counted_same n d1 d2 (ap (λ (d : Diagrams). d.budget) c.write_gates.ensures.rest) (ap (λ (d : Diagrams). d.nodes) c.write_gates.ensures.rest) in
    let solved = c.solve_part-solved.ensures.few one n (gates_then c.args.circuit.now c.args.part.now c.requires.part.1 c.requires.part.0 c.requires.part.2 c.args.gates c.args.roots out c.args.functions d0 d1 d2 c.requires.spans c.requires.apart live c.requires.small c.gate_handles-handles.result c.in-Ok.small c.gate_handles-handles.ensures.are c.in-Ok.ensures.adds c.in-Ok.ensures.stand c.write_gates.ensures.writes c.write_gates.ensures.rest c.write_gates.ensures.written) (roots_then c.args.circuit.now c.args.part.now c.requires.part.1 c.requires.part.0 c.requires.part.2 c.args.gates c.args.roots out c.args.functions d0 d1 d2 c.requires.spans c.requires.apart live c.requires.small c.gate_handles-handles.result c.in-Ok.small c.gate_handles-handles.ensures.are c.in-Ok.ensures.adds c.in-Ok.ensures.stand c.write_gates.ensures.writes c.write_gates.ensures.rest c.write_gates.ensures.written) in
    let back = spends_words n d2 d3 d4 (ap (λ (d : Diagrams). d.nodes) c.write_gates-2.ensures.rest) (ap (λ (d : Diagrams). d.budget) c.write_gates-2.ensures.rest) s c.args.out r
    (λ k lt. word_beside c.args.gates c.args.out d3 d4 k c.write_gates-2.ensures.writes (out_apart c.args.circuit.now c.args.part.now c.requires.part.1 c.requires.part.0 c.requires.part.2 c.args.gates c.args.roots out c.args.functions d0 d1 d2 c.requires.spans c.requires.apart live c.requires.small c.gate_handles-handles.result c.in-Ok.small c.gate_handles-handles.ensures.are c.in-Ok.ensures.adds c.in-Ok.ensures.stand c.write_gates.ensures.writes c.write_gates.ensures.rest c.write_gates.ensures.written d3 d4 c.solve_part-solved.ensures.writes c.write_gates-2.ensures.writes c.write_gates-2.ensures.rest c.write_gates-2.ensures.written) lt) solved in
    spends_more n c.args.out ((q + 0) + s) (q + s) d0 d4 r (omega arith) (spends_behind n c.args.out (q + 0) s d0 d2 d4 r (counted_then n q 0 d0 d1 d2 opened written) back)
