use Rattle.std.proofs.Common.{◌≡◌, false, take}
use Rattle.blif_eval.specs.KnownBits.{bit_in}
use Rattle.vrt_model.specs.Covers.{some_row_fits}
use Rattle.blif_eval.proofs.known.some_row_fits.Given as goal

-- no row so far fits
abbrev pub invariant-loop-row : goal.invariant-loop-row
invariant-loop-row l = some_row_fits (bit_in l.bits) l.cover.inputs (take l.row-index l.cover.rows) ≡ false
