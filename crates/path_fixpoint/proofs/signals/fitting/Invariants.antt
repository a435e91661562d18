use Rattle.std.proofs.Common.{◌≡◌, ℕ, ◌+◌, ◌*◌, ◌<◌, ◌≤◌, true, length}
use Rattle.std.specs.Prelude.{◌↔◌}
use Rattle.bdd_core.specs.Diagram.{IsWithin, Valuation, meaning}
use Rattle.bdd_ops.specs.Counting.{IsCounted, IsSpanWithin}
use Rattle.path_fixpoint.specs.Strengths.{strong, strong_end}
use Rattle.bdd_core.specs.Words.{Writes}
use Rattle.path_fixpoint.proofs.signals.fitting.Given as goal

abbrev pub invariant-loop-below : goal.invariant-loop-below
invariant-loop-below l = record {
  writes : Writes l.fn.out.span l.fn.store l.store;
  words : l.store.words ≡ l.fn.store.words;
  live : l.signal.0 < length l.store.nodes;
  is : (v : Valuation) → (meaning l.store.nodes l.signal.0 v ≡ true)
      ↔ ((meaning l.fn.store.nodes l.fn.signal.0 v ≡ true)
      × ((level : ℕ) → 1 ≤ level → level < l.below + 1 → strong l.fn.store l.fn.out level l.fn.to v ≡ true → (level ≤ l.fn.device) × (strong_end l.fn.store l.fn.out level l.fn.from v ≡ true)));
  few : (u : ℕ) → IsSpanWithin u l.fn.store l.fn.out.span → IsWithin u (meaning l.fn.store.nodes l.fn.signal.0) → IsCounted u (l.below * 2) l.fn.store l.store × IsWithin u (meaning l.store.nodes l.signal.0);
}
