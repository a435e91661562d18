use Rattle.std.proofs.Common.{◌≡◌, ◌≤◌, length}
use Rattle.path_fixpoint.proofs.PinLaws.{pins_before}
use Rattle.cell_room.proofs.sizes.pin_count.Given as goal

abbrev pub invariant-loop-whole : goal.invariant-loop-whole
invariant-loop-whole l = record {
  counted : l.count ≡ length (pins_before l.circuit l.whole-index);
  few : l.count ≤ l.most;
}
