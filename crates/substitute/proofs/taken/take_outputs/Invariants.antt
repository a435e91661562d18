use Rattle.std.proofs.Common.{◌≡◌, length, take}
use Rattle.substitute.specs.Taken.{TakesPins}
use Rattle.substitute.proofs.taken.take_outputs.Given as goal

-- the pins so far
abbrev pub invariant-loop-pin : goal.invariant-loop-pin
invariant-loop-pin l = record {
  len : length l.taken.items ≡ length l.fn.taken.items;
  is : TakesPins (take l.pin-index l.pins) l.fn.taken.items l.taken.items;
}
