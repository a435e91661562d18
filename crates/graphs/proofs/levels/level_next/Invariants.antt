use Rattle.std.proofs.Common.{◌≡◌, ◌-◌, length}
use Rattle.graphs.specs.Levels.{IsLevelling}
use Rattle.graphs.specs.Orders.{IsPlacing}
use Rattle.graphs.proofs.levels.level_next.Given as goal

-- no number has got a level yet
abbrev pub invariant-on : goal.invariant-on
invariant-on l = record {
  so_far : IsLevelling l.sources l.levels.items l.waiting.items l.queue l.at;
  placing : IsPlacing l.sources l.levels.items l.steps;
  same : l.levels.items ≡ l.initial.levels.items;
}

abbrev pub decreases-on : goal.decreases-on
decreases-on l = length l.queue - l.at
