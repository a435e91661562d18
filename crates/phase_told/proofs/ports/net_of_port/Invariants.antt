use Rattle.std.proofs.Common.{◌≡◌, ◌<◌, All, length}
use Rattle.phase_told.specs.Nets.{net_at, nets_by}
use Rattle.vrt_model.specs.Limits.{most_nets}
use Rattle.phase_told.proofs.ports.net_of_port.Given as goal

-- the port that is looked for stands behind so many of those that are left
abbrev pub invariant-ports : goal.invariant-ports
invariant-ports l = record {
  is : net_at l.next l.rest l.left ≡ net_at 2 l.fn.roles l.fn.place;
  low : All (λ net. net < most_nets) (nets_by l.next l.rest);
}

abbrev pub decreases-ports : goal.decreases-ports
decreases-ports l = length l.rest
