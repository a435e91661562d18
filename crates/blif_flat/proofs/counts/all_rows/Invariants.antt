use Rattle.std.proofs.Common.{◌≡◌, map, take}
use Rattle.blif_flat.specs.Counts.{rows_in}
use Rattle.blif_flat.proofs.counts.all_rows.Given as goal

abbrev pub invariant-loop-model : goal.invariant-loop-model
invariant-loop-model l = l.rows ≡ map rows_in (take l.model-index l.models)
