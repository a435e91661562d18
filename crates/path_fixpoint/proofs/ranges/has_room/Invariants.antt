use Rattle.std.proofs.Common.{◌≡◌, ◌+◌, length}
use Rattle.path_fixpoint.proofs.PinLaws.{pins_before}
use Rattle.path_fixpoint.proofs.ranges.has_room.Given as goal

abbrev pub invariant-loop-whole : goal.invariant-loop-whole
invariant-loop-whole l = record {
  counted : l.left + length (pins_before l.circuit l.whole-index) ≡ l.fn.room;
}
