use Rattle.std.proofs.Common.{◌≡◌, List, ap, length}
use Rattle.circuit_faults.proofs.FlatWholes.{flat_ready, flat_room}
use Rattle.circuit_faults.proofs.ThreeSpans.{three_empty}
use Rattle.circuit_faults.specs.Results.{output_span}
use Rattle.circuit_faults.specs.Steps.{in_phase}
use Rattle.vrt_model.specs.declared.whole.Whole.{Whole}
use Rattle.vrt_model.specs.State.{output_pins}
use Rattle.circuit_faults.proofs.flat.circuit_fault.Goals as goal

pub returns-clause-writes : goal.returns-clause-writes
returns-clause-writes c =
    let circuit = c.args.phased.circuit.now in
    let none : length (output_pins circuit) ≡ 0 = ap (λ (ws : List Whole). length (output_pins (record circuit { wholes = ws }))) c.requires.circuit.wholes in
    three_empty (output_span circuit c.args.spans.roots) c.args.spans.gates c.args.spans.out c.args.store.now c.wired_fault.new.store none c.wired_fault.ensures.writes

pub wired_fault-requires-clause-wholes : goal.wired_fault-requires-clause-wholes
wired_fault-requires-clause-wholes c = flat_ready (in_phase c.args.phased) c.requires.circuit

pub wired_fault-requires-clause-room : goal.wired_fault-requires-clause-room
wired_fault-requires-clause-room c = flat_room c.args.phased.circuit.now c.args.spans.out c.requires.circuit
