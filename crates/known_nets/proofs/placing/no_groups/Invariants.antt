use Rattle.std.proofs.Common.{◌≡◌, ℕ, List, [], length}
use Rattle.vrt_model.specs.Lists.{At}
use Rattle.known_nets.proofs.placing.no_groups.Given as goal

abbrev pub invariant-loop-net : goal.invariant-loop-net
invariant-loop-net l = record {
  len : length l.groups.items ≡ l._net;
  empty : (k : ℕ) (group : List ℕ) → At l.groups.items k group → group ≡ [];
}
