use Rattle.std.proofs.Common.{ℕ, ◌<◌}
use Rattle.vrt_model.specs.Nesting.{ContainsItself}
use Rattle.nesting.specs.Depths.{in_list}
use Rattle.nesting.proofs.first.first_of_depths.Given as goal

-- none so far contains itself
abbrev pub invariant-loop-number : goal.invariant-loop-number
invariant-loop-number l = (k : ℕ) → k < l.number → ¬ ContainsItself (in_list l.inner) k
