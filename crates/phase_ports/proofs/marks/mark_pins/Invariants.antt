use Rattle.std.proofs.Common.{◌≡◌, ◌||◌, ℕ, length, take}
use Rattle.phase_ports.specs.Observed.{has_pin}
use Rattle.vrt_model.specs.Lists.{mark_at}
use Rattle.phase_ports.proofs.marks.mark_pins.Given as goal

-- the pins so far
abbrev pub invariant-loop-pin : goal.invariant-loop-pin
invariant-loop-pin l = record {
  len : length l.marks.items ≡ length l.fn.marks.items;
  is : (n : ℕ) → mark_at l.marks.items n ≡ (mark_at l.fn.marks.items n || has_pin (take l.pin-index l.pins) n);
}
