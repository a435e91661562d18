use Rattle.std.proofs.Common.{◌≡◌, ◌+◌, length, take}
use Rattle.std.specs.Prelude.{sum_by}
use Rattle.vrt_model.specs.declared.flat_model.Cover.{Cover}
use Rattle.model_rows.proofs.checks.are_few_rows.Given as goal

-- the rows so far and those that are left
abbrev pub invariant-loop-cover : goal.invariant-loop-cover
invariant-loop-cover l = sum_by (λ (c : Cover). length c.rows) (take l.cover-index l.covers) + l.left ≡ 200000
