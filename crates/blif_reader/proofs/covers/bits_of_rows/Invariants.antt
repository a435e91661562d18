use Rattle.std.proofs.Common.{◌≡◌, map, take}
use Rattle.blif_reader.specs.Models.{row_inputs}
use Rattle.blif_reader.proofs.covers.bits_of_rows.Given as goal

abbrev pub invariant-loop-row : goal.invariant-loop-row
invariant-loop-row l = l.found ≡ map row_inputs (take l.row-index l.rows)
