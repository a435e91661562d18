use Rattle.std.proofs.Common.{◌≡◌, take}
use Rattle.whole_circuits.proofs.copies.copy_nets.Given as goal

-- the nets so far
abbrev pub invariant-loop-net : goal.invariant-loop-net
invariant-loop-net l = l.copy ≡ take l.net-index l.nets
