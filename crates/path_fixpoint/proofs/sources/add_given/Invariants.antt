use Rattle.bdd_ops.specs.Counting.{IsCounted, IsSpanWithin}
use Rattle.path_fixpoint.specs.Spending.{AreRootsWithin}
use Rattle.std.proofs.Common.{◌≡◌, ℕ, ◌*◌, ◌<◌}
use Rattle.path_fixpoint.specs.Parts.{IsGiven, IsPlace}
use Rattle.path_fixpoint.specs.Reaching.{slot_of}
use Rattle.path_fixpoint.specs.Sources.{AddsRoots}
use Rattle.path_fixpoint.specs.Strengths.{ChangesLevel}
use Rattle.bdd_core.specs.Words.{Writes}
use Rattle.vrt_model.specs.Levels.{source_level}
use Rattle.path_fixpoint.proofs.sources.add_given.Given as goal

abbrev pub invariant-loop-net : goal.invariant-loop-net
invariant-loop-net l = record {
  writes : Writes l.fn.out.span l.fn.store l.store;
  apart : ChangesLevel l.fn.out (slot_of l.fn.out l.fn.value) l.fn.store l.store;
  adds : AddsRoots l.part l.fn.roots l.fn.out l.fn.value (λ n at size. ((i : ℕ) × (i < l.net-index) × IsPlace l.part i n) × IsGiven l.circuit n × (at ≡ n) × (size ≡ source_level l.circuit)) l.fn.store l.store;
  few : (u : ℕ) → AreRootsWithin u l.circuit l.part l.fn.roots l.fn.store → IsSpanWithin u l.fn.store l.fn.out.span → IsCounted u (l.net-index * 3) l.fn.store l.store × IsSpanWithin u l.store l.fn.out.span;
}
