use Rattle.bdd_ops.specs.Counting.{IsCounted, IsSpanWithin}
use Rattle.path_fixpoint.specs.Spending.{AreRootsWithin, HasOneHold}
use Rattle.path_fixpoint.proofs.HoldPlaces.{HoldPlaces}
use Rattle.std.proofs.Common.{◌≡◌, ℕ, ◌*◌, ◌<◌}
use Rattle.vrt_model.specs.Lists.{At}
use Rattle.vrt_model.specs.declared.circuit.Hold.{Hold}
use Rattle.path_fixpoint.specs.Reaching.{slot_of}
use Rattle.path_fixpoint.specs.Sources.{AddsRoots}
use Rattle.path_fixpoint.specs.Strengths.{ChangesLevel}
use Rattle.bdd_core.specs.Words.{Writes}
use Rattle.path_fixpoint.proofs.sources.add_holds.Given as goal

abbrev pub invariant-loop-hold : goal.invariant-loop-hold
invariant-loop-hold l = record {
  writes : Writes l.fn.out.span l.fn.store l.store;
  apart : ChangesLevel l.fn.out (slot_of l.fn.out l.fn.value) l.fn.store l.store;
  adds : AddsRoots l.part l.fn.roots l.fn.out l.fn.value (λ n at size. (k : ℕ) × (k < l.hold-index) × (hold : Hold) × At l.circuit.holds k hold × (hold.net.0 ≡ n) × (at ≡ n) × (hold.size ≡ size)) l.fn.store l.store;
  few : HasOneHold l.circuit → (u : ℕ) → AreRootsWithin u l.circuit l.part l.fn.roots l.fn.store → IsSpanWithin u l.fn.store l.fn.out.span
      → (count : ℕ) × HoldPlaces l.circuit l.part l.hold-index count × IsCounted u (count * 3) l.fn.store l.store × IsSpanWithin u l.store l.fn.out.span;
}
