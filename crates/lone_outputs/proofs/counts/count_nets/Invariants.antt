use Rattle.std.proofs.Common.{◌≡◌, length, take}
use Rattle.lone_outputs.specs.Owners.{AreCounts}
use Rattle.lone_outputs.proofs.counts.count_nets.Given as goal

-- the nets so far are counted
abbrev pub invariant-loop-net : goal.invariant-loop-net
invariant-loop-net l = record {
  len : length l.counts.items ≡ length l.least;
  is : AreCounts l.circuit l.least (take l.net-index l.nets) l.counts.items;
}
