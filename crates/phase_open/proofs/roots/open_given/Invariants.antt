use Rattle.std.proofs.Common.{◌≡◌, ℕ, ◌≤◌}
use Rattle.bdd_core.specs.Words.{Writes}
use Rattle.bdd_ops.specs.Counting.{IsCounted}
use Rattle.phase_open.proofs.RootLaws.{IsAsBefore}
use Rattle.phase_open.specs.Given.{AreGivenBefore, input_count, variable_at}
use Rattle.phase_open.proofs.roots.open_given.Given as goal

abbrev pub invariant-loop-n : goal.invariant-loop-n
invariant-loop-n l = record {
  writes : Writes l.fn.roots l.fn.store l.store;
  variable : l.variable ≡ variable_at l.fn.circuit l.n;
  counted : (u : ℕ) → input_count l.fn.circuit ≤ u → IsCounted u l.n l.fn.store l.store;
  behind : IsAsBefore l.fn.roots l.n l.fn.store l.store;
  given : AreGivenBefore l.fn.circuit l.fn.phase l.fn.roots l.n l.fn.store l.store;
}
