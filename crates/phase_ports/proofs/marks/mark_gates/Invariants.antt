use Rattle.std.proofs.Common.{◌≡◌, ◌||◌, ℕ, length, take}
use Rattle.phase_ports.specs.Observed.{has_gate}
use Rattle.vrt_model.specs.Lists.{mark_at}
use Rattle.phase_ports.proofs.marks.mark_gates.Given as goal

-- the gates of the devices so far
abbrev pub invariant-loop-device : goal.invariant-loop-device
invariant-loop-device l = record {
  len : length l.marks.items ≡ length l.fn.marks.items;
  is : (n : ℕ) → mark_at l.marks.items n ≡ (mark_at l.fn.marks.items n || has_gate (take l.device-index l.devices) n);
}
