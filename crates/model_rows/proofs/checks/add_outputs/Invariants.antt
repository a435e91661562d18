use Rattle.std.proofs.Common.{◌≡◌, ◌++◌, map, take}
use Rattle.vrt_model.specs.declared.flat_model.Cover.{Cover}
use Rattle.model_rows.proofs.checks.add_outputs.Given as goal

-- the outputs so far
abbrev pub invariant-loop-cover : goal.invariant-loop-cover
invariant-loop-cover l = l.list ≡ l.fn.list ++ map (λ (c : Cover). c.output) (take l.cover-index l.covers)
