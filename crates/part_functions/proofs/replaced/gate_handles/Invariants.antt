use Rattle.std.proofs.Common.{◌≡◌, ℕ, ◌<◌, length}
use Rattle.std.specs.Prelude.{slice_index}
use Rattle.bdd_core.specs.Words.{word_at}
use Rattle.part_functions.specs.Small.{IsDeviceAt}
use Rattle.vrt_model.specs.declared.circuit.Device.{Device}
use Rattle.part_functions.proofs.replaced.gate_handles.Given as goal

abbrev pub invariant-loop-place : goal.invariant-loop-place
invariant-loop-place l = record {
  sized : length l.handles ≡ 24;
  are : (i : ℕ) (dev : Device) → i < l.place → IsDeviceAt l.circuit l.part i dev → slice_index l.handles i ≡ word_at l.store l.gates dev.gate.0;
  live : (i : ℕ) → slice_index l.handles i < length l.store.nodes;
}
