use Rattle.std.proofs.Common.{ℕ, ◌<◌, ◌≤◌, slice_index}
use Rattle.vrt_model.specs.Lists.{At}
use Rattle.graphs.proofs.levels.first_open.Given as goal

-- the numbers so far have levels
abbrev pub invariant-loop-place : goal.invariant-loop-place
invariant-loop-place l = (i q : ℕ) → l.from ≤ i → i < l.place → At l.numbers i q → 0 < slice_index l.levels q
