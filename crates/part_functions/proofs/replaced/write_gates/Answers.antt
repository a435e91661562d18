use Rattle.std.proofs.Common.{◌≡◌, ℕ, ◌+◌, ◌<◌, length, arith, subst}
use Rattle.std.specs.Prelude.{slice_set}
use Rattle.bdd_core.proofs.Frames.{rest_then, span_written, writes_then, writes_word}
use Rattle.part_functions.proofs.GatherLaws.{device_in, written_more}
use Rattle.part_functions.specs.Replaced.{IsWritten, gate_handle}
use Rattle.part_functions.proofs.replaced.write_gates.Goals as goal

pub loop-place-preserved : goal.loop-place-preserved
loop-place-preserved c =
    let circuit = c.args.circuit.now in
    let part = c.args.part.now in
    let gates = c.args.gates in
    let handles = c.args.handles in
    let first = c.args.store.now in
    let old = c.loop-place.store in
    let new = c.write.new.self in
    let at = c.loop-place.place in
    let inv = c.loop-place.invariant in
    let dev = c.device_at-device.result.now in
    let here = c.device_at-device.ensures in
    let net = (device_in circuit part at dev c.requires.circuit here).gate in
    let long = c.requires.gates.2 in
    let inside : dev.gate.0 < gates.len = omega (arith, net, long) in
    let span = span_written gates gates first old inv.writes c.requires.gates.0 in
    let there = c.requires.live at in
    let longer = inv.writes.adds.longer in
    record {
      writes = writes_then gates first old new inv.writes
          (writes_word gates old new dev.gate.0 (gate_handle handles at) c.write.ensures inside span.1 (omega (arith, there, longer)) inv.writes.adds.sound inv.writes.adds.within inv.writes.live);
      rest = rest_then first old new (slice_set old.words (gates.start + dev.gate.0) (gate_handle handles at)) inv.rest c.write.ensures;
      written = λ n lt. written_more circuit part gates handles first old new at dev here c.write.ensures inside span.1 n (inv.written n lt);
    }

pub returns-clause-written : goal.returns-clause-written
returns-clause-written c n lt =
    let high = c.loop-place-test.false in
    let size = c.len-place-end.ensures in
    let low = c.loop-place.auto.place-end in
    let end : c.loop-place.place ≡ length c.args.part.now.devices = omega (arith, high, size, low) in
    subst (λ (k : ℕ). IsWritten c.args.circuit.now c.args.part.now c.args.gates c.args.handles k c.args.store.now c.loop-place.store n) end (c.loop-place.invariant.written n lt)
