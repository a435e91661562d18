use Rattle.std.proofs.Common.{ℕ, ◌*◌, ◌≤◌, length, ◌+◌}
use Rattle.bdd_ops.specs.Counting.{IsCounted, IsSpanWithin}
use Rattle.path_fixpoint.specs.Spending.{AreGatesWithin, AreRootsWithin}
use Rattle.bdd_core.specs.Diagram.{Valuation}
use Rattle.vrt_model.specs.Lists.{Among}
use Rattle.vrt_model.specs.Path.{Network}
use Rattle.vrt_model.specs.declared.circuit.Device.{Device}
use Rattle.path_fixpoint.specs.declared.side.Side.TheVariants.{Outside}
use Rattle.path_fixpoint.specs.Parts.{part_devices}
use Rattle.path_fixpoint.specs.Reaching.{HasReachPassed, HasReachPaths, HasReachRoots, SolvedAt, slot_of}
use Rattle.path_fixpoint.specs.Strengths.{ChangesLevel}
use Rattle.bdd_core.specs.Words.{Writes}
use Rattle.path_fixpoint.proofs.ReachLaws.{HasReachProgress}
use Rattle.path_fixpoint.proofs.reach.settle.Given as goal

abbrev pub invariant-rounds : goal.invariant-rounds
invariant-rounds l = record {
  writes : Writes l.fn.out.span l.fn.store l.store;
  apart : ChangesLevel l.fn.out (slot_of l.fn.out l.fn.value) l.fn.store l.store;
  roots : (v : Valuation) (w : Network) (s : ℕ → ℕ) → SolvedAt l.circuit l.part l.fn.gates l.fn.roots l.fn.out l.fn.store v w s → HasReachRoots l.circuit l.part l.fn.out l.fn.value l.fn.store v w s
      → HasReachRoots l.circuit l.part l.fn.out l.fn.value l.store v w s;
  paths : (v : Valuation) (w : Network) (s : ℕ → ℕ) → SolvedAt l.circuit l.part l.fn.gates l.fn.roots l.fn.out l.fn.store v w s → HasReachPaths l.part l.fn.out l.fn.value l.fn.store v w s
      → HasReachPaths l.part l.fn.out l.fn.value l.store v w s;
  progress : (v : Valuation) (w : Network) (s : ℕ → ℕ) → SolvedAt l.circuit l.part l.fn.gates l.fn.roots l.fn.out l.fn.store v w s → HasReachRoots l.circuit l.part l.fn.out l.fn.value l.fn.store v w s
      → HasReachProgress l.circuit l.part l.fn.out l.fn.value l.count l.store v w s;
  entered : 1 ≤ l.count → (v : Valuation) (w : Network) (s : ℕ → ℕ) → SolvedAt l.circuit l.part l.fn.gates l.fn.roots l.fn.out l.fn.store v w s
      → (dev : Device) → Among (part_devices l.circuit l.part) dev → HasReachPassed l.circuit l.part l.fn.out l.fn.value Outside dev l.store l.store v w s;
  few : (u : ℕ) → AreGatesWithin u l.circuit l.part l.fn.gates l.fn.store → AreRootsWithin u l.circuit l.part l.fn.roots l.fn.store → IsSpanWithin u l.fn.store l.fn.out.span → IsCounted u (l.count * (length l.part.devices * (4 * l.fn.out.source + 6))) l.fn.store l.store × IsSpanWithin u l.store l.fn.out.span;
}
