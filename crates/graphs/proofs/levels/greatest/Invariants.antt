use Rattle.std.proofs.Common.{◌≡◌, ℕ, ◌<◌, ◌≤◌, ◌⊎◌, slice_index}
use Rattle.vrt_model.specs.Lists.{At, Among}
use Rattle.graphs.proofs.levels.greatest.Given as goal

-- the greatest level so far
abbrev pub invariant-loop-number : goal.invariant-loop-number
invariant-loop-number l = record {
  most : (i q : ℕ) → i < l.number-index → At l.numbers i q → slice_index l.levels q ≤ l.best;
  one : (l.best ≡ 0) ⊎ ((q : ℕ) × Among l.numbers q × (l.best ≡ slice_index l.levels q));
}
