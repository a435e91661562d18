use Rattle.std.proofs.Common.{ℕ, ◌<◌}
use Rattle.known_nets.specs.Regions.{IsShutAt}
use Rattle.vrt_model.specs.Lists.{At}
use Rattle.known_nets.proofs.region.is_shut.Given as goal

abbrev pub invariant-loop-net : goal.invariant-loop-net
invariant-loop-net l = (i : ℕ) → i < l.net-index → (n : ℕ) → At l.nets i n → IsShutAt l.circuit l.known n
