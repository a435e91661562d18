use Rattle.std.proofs.Common.{◌≡◌, map, take}
use Rattle.blif_flat.specs.Counts.{sum_over}
use Rattle.blif_flat.proofs.counts.next_sums.Given as goal

abbrev pub invariant-loop-insides : goal.invariant-loop-insides
invariant-loop-insides l = l.next ≡ map (sum_over l.kind l.sums) (take l.insides-index l.all)
