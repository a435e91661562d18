use Rattle.std.proofs.Common.{◌≡◌, ◌<◌, length}
use Rattle.bdd_core.specs.Diagram.{Valuation, meaning}
use Rattle.phase_told.specs.Valuations.{StandsIn}
use Rattle.phase_told.proofs.values.value_in.Given as goal

-- the function of the place has the value that is looked for
abbrev pub invariant-loop-n : goal.invariant-loop-n
invariant-loop-n l = record {
  live : l.place.0 < length l.store.nodes;
  same : (v : Valuation) → StandsIn l.store l.words v → meaning l.store.nodes l.place.0 v ≡ meaning l.store.nodes l.fn.f.0 v;
}

abbrev pub decreases-loop-n : goal.decreases-loop-n
decreases-loop-n l = l.place.0
