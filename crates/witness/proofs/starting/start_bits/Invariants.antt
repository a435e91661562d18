use Rattle.std.proofs.Common.{◌≡◌, ◌<◌, ◌≤◌, ℕ, Some, length}
use Rattle.std.specs.Prelude.{slice_get}
use Rattle.witness.specs.Replays.{input_place}
use Rattle.witness.specs.Settling.{start_of}
use Rattle.witness.proofs.starting.start_bits.Given as goal

-- the bits of the nets so far, and how many of them are inputs
abbrev pub invariant-loop-net : goal.invariant-loop-net
invariant-loop-net l = record {
  len : length l.bits.items ≡ l.net;
  place : l.place ≡ input_place l.circuit l.net;
  below : l.place ≤ l.net;
  each : (n : ℕ) → n < l.net → slice_get l.bits.items n ≡ Some (start_of l.circuit l.known l.inputs n);
}
