use Rattle.graphs.specs.Levels.{IsLevelling, without_level}
use Rattle.graphs.specs.Orders.{IsPlacing}
use Rattle.graphs.proofs.levels.level_rest.Given as goal

abbrev pub invariant-turns : goal.invariant-turns
invariant-turns l = record {
  so_far : IsLevelling l.sources l.levels.items l.waiting.items l.queue l.at;
  placing : IsPlacing l.sources l.levels.items l.steps;
}

-- each round gives one more level
abbrev pub decreases-turns : goal.decreases-turns
decreases-turns l = without_level l.levels.items
