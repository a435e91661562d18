use Rattle.std.proofs.Common.{◌≡◌, ◌-◌, drop, length}
use Rattle.blif_eval.specs.KnownBits.{bit_in}
use Rattle.vrt_model.specs.Covers.{row_fits}
use Rattle.blif_eval.proofs.known.row_fits.Given as goal

-- the answer is that for the rest
abbrev pub invariant-on : goal.invariant-on
invariant-on l = row_fits (bit_in l.bits) (drop l.at l.inputs) (drop l.at l.row) ≡ row_fits (bit_in l.bits) l.inputs l.row

-- what is left
abbrev pub decreases-on : goal.decreases-on
decreases-on l = length l.inputs - l.at
