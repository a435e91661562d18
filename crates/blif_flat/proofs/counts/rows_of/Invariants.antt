use Rattle.std.proofs.Common.{◌≡◌, length, take}
use Rattle.std.specs.List.{sum_by}
use Rattle.vrt_model.specs.Unsupported.{carried}
use Rattle.vrt_model.specs.declared.blif.CoverLine.{CoverLine}
use Rattle.blif_flat.proofs.counts.rows_of.Given as goal

-- the rows so far
abbrev pub invariant-loop-cover : goal.invariant-loop-cover
invariant-loop-cover l = l.rows ≡ carried (sum_by (λ (c : CoverLine). length c.rows) (take l.cover-index l.covers))
