use Rattle.std.proofs.Common.{◌≡◌}
use Rattle.domino_order.proofs.SearchLaws.{rank_of}
use Rattle.domino_order.specs.Runs.{IsBound, asked_variables, of_asked}
use Rattle.domino_order.specs.Searches.{HasRoom}
use Rattle.domino_order.proofs.search.search_net.Given as goal

-- the store keeps its room, and at the last answer a step fails
abbrev pub invariant-runs : goal.invariant-runs
invariant-runs l = record {
  room : HasRoom l.asked l.store;
  budget : l.store.budget ≡ l.fn.store.budget;
  bound : IsBound (of_asked l.asked) l.asked.rising.phase l.asked.rising.nets.now l.net l.last;
}

abbrev pub decreases-runs : goal.decreases-runs
decreases-runs l = rank_of (asked_variables l.asked) l.last
