use Rattle.std.proofs.Common.{◌≡◌, ℕ, length, take}
use Rattle.drive_levels.specs.PortLevels.{is_one_of}
use Rattle.vrt_model.specs.Lists.{mark_at}
use Rattle.drive_levels.proofs.ports.asked_nets.Given as goal

-- the nets so far are marked
abbrev pub invariant-loop-net : goal.invariant-loop-net
invariant-loop-net l = record {
  len : length l.marks.items ≡ l.count;
  is : (n : ℕ) → mark_at l.marks.items n ≡ is_one_of (take l.net-index l.outputs) n;
}
