use Rattle.std.proofs.Common.{length}
use Rattle.net_places.proofs.GlobalLaws.{IsNumbering}
use Rattle.net_places.proofs.globals.global_nets.Given as goal

abbrev pub decreases-marks : goal.decreases-marks
decreases-marks l = length l.left

abbrev pub invariant-marks : goal.invariant-marks
invariant-marks l = IsNumbering l.fn.first l.fn.marks l.nets l.next l.left
