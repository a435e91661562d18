use Rattle.bdd_ops.specs.Counting.{IsCounted, IsSpanWithin}
use Rattle.path_fixpoint.specs.Spending.{AreRootsWithin}
use Rattle.std.proofs.Common.{◌≡◌, ℕ, ◌+◌, ◌*◌, length}
use Rattle.path_fixpoint.specs.Parts.{pins_at}
use Rattle.path_fixpoint.specs.Reaching.{slot_of}
use Rattle.path_fixpoint.specs.Sources.{AddsRoots, IsPinSource}
use Rattle.path_fixpoint.specs.Strengths.{ChangesLevel}
use Rattle.bdd_core.specs.Words.{Writes}
use Rattle.path_fixpoint.proofs.PinLaws.{pins_before}
use Rattle.path_fixpoint.proofs.sources.add_pins.Given as goal

abbrev pub invariant-loop-whole : goal.invariant-loop-whole
invariant-loop-whole l = record {
  writes : Writes l.fn.out.span l.fn.store l.store;
  apart : ChangesLevel l.fn.out (slot_of l.fn.out l.fn.value) l.fn.store l.store;
  first : l.first ≡ length l.circuit.nets + length (pins_before l.circuit l.whole-index);
  adds : AddsRoots l.part l.fn.roots l.fn.out l.fn.value (IsPinSource l.fn.out.source (pins_before l.circuit l.whole-index) (length l.circuit.nets)) l.fn.store l.store;
  few : (u : ℕ) → AreRootsWithin u l.circuit l.part l.fn.roots l.fn.store → IsSpanWithin u l.fn.store l.fn.out.span
      → IsCounted u (pins_at l.part (pins_before l.circuit l.whole-index) * 3) l.fn.store l.store × IsSpanWithin u l.store l.fn.out.span;
}
