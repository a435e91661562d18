use Rattle.std.proofs.Common.{◌≡◌, ◌<◌, length}
use Rattle.bdd_core.specs.Diagram.{meaning}
use Rattle.bdd_ops.specs.Ops.{bits_of}
use Rattle.bdd_ops.proofs.valuation.value_at.Given as goal

abbrev pub invariant-loop-n : goal.invariant-loop-n
invariant-loop-n l = record {
  live : l.place.0 < length l.store.nodes;
  same : meaning l.store.nodes l.place.0 (bits_of l.at.bits) ≡ meaning l.store.nodes l.fn.f.0 (bits_of l.at.bits);
}

abbrev pub decreases-loop-n : goal.decreases-loop-n
decreases-loop-n l = l.place.0
