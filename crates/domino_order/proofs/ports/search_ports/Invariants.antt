use Rattle.std.proofs.Common.{◌≡◌, ℕ, ◌<◌}
use Rattle.domino_order.specs.Ports.{HoldsFor}
use Rattle.domino_order.specs.Searches.{HasRoom}
use Rattle.domino_order.proofs.ports.search_ports.Given as goal

-- each step of the nets so far holds
abbrev pub invariant-loop-i : goal.invariant-loop-i
invariant-loop-i l = record {
  room : HasRoom l.asked l.store;
  budget : l.store.budget ≡ l.budget;
  holds : (j : ℕ) → j < l.i → HoldsFor l.asked j;
}
