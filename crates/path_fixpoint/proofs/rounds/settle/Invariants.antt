use Rattle.std.proofs.Common.{ℕ, ◌*◌, ◌≤◌, length}
use Rattle.bdd_ops.specs.Counting.{IsCounted, IsSpanWithin}
use Rattle.path_fixpoint.specs.Spending.{AreGatesWithin}
use Rattle.bdd_core.specs.Diagram.{Valuation}
use Rattle.vrt_model.specs.Path.{Network}
use Rattle.path_fixpoint.specs.Strengths.{ChangesLevel, HasPaths, HasRoots, StandsAt}
use Rattle.bdd_core.specs.Words.{Writes}
use Rattle.path_fixpoint.proofs.RoundLaws.{HasProgress, IsEntered}
use Rattle.path_fixpoint.proofs.rounds.settle.Given as goal

abbrev pub invariant-rounds : goal.invariant-rounds
invariant-rounds l = record {
  writes : Writes l.fn.out.span l.fn.store l.store;
  apart : ChangesLevel l.fn.out l.fn.level l.fn.store l.store;
  roots : (v : Valuation) (w : Network) → StandsAt l.circuit l.part l.fn.gates l.fn.store v w → HasRoots l.part l.fn.out l.fn.level l.fn.store v w → HasRoots l.part l.fn.out l.fn.level l.store v w;
  paths : (v : Valuation) (w : Network) → StandsAt l.circuit l.part l.fn.gates l.fn.store v w → HasPaths l.part l.fn.out l.fn.level l.fn.store v w → HasPaths l.part l.fn.out l.fn.level l.store v w;
  progress : (v : Valuation) (w : Network) → StandsAt l.circuit l.part l.fn.gates l.fn.store v w → HasRoots l.part l.fn.out l.fn.level l.fn.store v w → HasProgress l.part l.fn.out l.fn.level l.count l.store v w;
  entered : 1 ≤ l.count → (v : Valuation) (w : Network) → StandsAt l.circuit l.part l.fn.gates l.fn.store v w → IsEntered l.circuit l.part l.fn.out l.fn.level l.store v w;
  few : (u : ℕ) → AreGatesWithin u l.circuit l.part l.fn.gates l.fn.store → IsSpanWithin u l.fn.store l.fn.out.span → IsCounted u (l.count * (length l.part.devices * 4)) l.fn.store l.store × IsSpanWithin u l.store l.fn.out.span;
}
