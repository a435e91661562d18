use Rattle.std.proofs.Common.{◌≡◌, ◌<◌, ℕ}
use Rattle.bdd_core.specs.Words.{word_at}
use Rattle.vrt_model.specs.Lists.{At}
use Rattle.vrt_model.specs.declared.circuit.Hold.{Hold}
use Rattle.hold_keep.specs.Rooted.{WritesHolds}
use Rattle.hold_keep.proofs.roots.clear.Given as goal

-- the holds so far are 0
abbrev pub invariant-loop-hold : goal.invariant-loop-hold
invariant-loop-hold l = record {
  writes : WritesHolds l.circuit l.words l.fn.store l.store;
  nodes : l.store.nodes ≡ l.fn.store.nodes;
  zero : (place : ℕ) (h : Hold) → At l.circuit.holds place h → place < l.hold-index → word_at l.store l.words h.net.0 ≡ 0;
}
