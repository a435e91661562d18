use Rattle.std.proofs.Common.{ℕ, ◌*◌, ◌+◌}
use Rattle.bdd_ops.specs.Counting.{IsCounted, IsSpanWithin}
use Rattle.path_fixpoint.specs.Spending.{AreGatesWithin, AreRootsWithin}
use Rattle.path_fixpoint.specs.Reaching.{SpreadsValue, slot_of}
use Rattle.path_fixpoint.specs.Strengths.{ChangesLevel}
use Rattle.bdd_core.specs.Words.{Writes}
use Rattle.path_fixpoint.proofs.Spreading.{Visited}
use Rattle.path_fixpoint.proofs.reach.round.Given as goal

abbrev pub invariant-loop-step : goal.invariant-loop-step
invariant-loop-step l = record {
  writes : Writes l.fn.out.span l.fn.store l.store;
  apart : ChangesLevel l.fn.out (slot_of l.fn.out l.fn.value) l.fn.store l.store;
  spreads : SpreadsValue l.circuit l.part l.fn.gates l.fn.roots l.fn.out l.fn.value l.fn.side (Visited l.circuit l.part l.fn.direction l.step) l.changed l.fn.store l.store;
  few : (u : ℕ) → AreGatesWithin u l.circuit l.part l.fn.gates l.fn.store → AreRootsWithin u l.circuit l.part l.fn.roots l.fn.store → IsSpanWithin u l.fn.store l.fn.out.span → IsCounted u (l.step * (4 * l.fn.out.source + 6)) l.fn.store l.store × IsSpanWithin u l.store l.fn.out.span;
}
