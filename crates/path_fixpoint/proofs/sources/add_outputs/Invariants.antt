use Rattle.bdd_ops.specs.Counting.{IsCounted, IsSpanWithin}
use Rattle.path_fixpoint.specs.Spending.{ArePinsWithin}
use Rattle.std.proofs.Common.{ℕ, ◌*◌, take}
use Rattle.path_fixpoint.specs.Parts.{pins_at}
use Rattle.path_fixpoint.specs.Reaching.{slot_of}
use Rattle.path_fixpoint.specs.Sources.{AddsRoots, IsPinSource}
use Rattle.path_fixpoint.specs.Strengths.{ChangesLevel}
use Rattle.bdd_core.specs.Words.{Writes}
use Rattle.path_fixpoint.proofs.sources.add_outputs.Given as goal

abbrev pub invariant-loop-at : goal.invariant-loop-at
invariant-loop-at l = record {
  writes : Writes l.fn.out.span l.fn.store l.store;
  apart : ChangesLevel l.fn.out (slot_of l.fn.out l.fn.value) l.fn.store l.store;
  adds : AddsRoots l.part l.fn.roots l.fn.out l.fn.value (IsPinSource l.fn.out.source (take l.at l.outputs) l.fn.first) l.fn.store l.store;
  few : (u : ℕ) → ArePinsWithin u l.part l.outputs l.fn.first l.fn.roots l.fn.store → IsSpanWithin u l.fn.store l.fn.out.span
      → IsCounted u (pins_at l.part (take l.at l.outputs) * 3) l.fn.store l.store × IsSpanWithin u l.store l.fn.out.span;
}
