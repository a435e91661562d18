use Rattle.std.proofs.Common.{◌≡◌, ℕ, drop}
use Rattle.std.specs.Prelude.{◌==◌}
use Rattle.std.specs.List.{list_all}
use Rattle.flat_sizes.proofs.totals.is_empty.Given as goal

-- none so far
abbrev pub invariant-loop-count : goal.invariant-loop-count
invariant-loop-count l = list_all (λ (count : ℕ). count == 0) (drop l.count-index l.level) ≡ list_all (λ (count : ℕ). count == 0) l.level
