use Rattle.std.proofs.Common.{◌≡◌, List, length}
use Rattle.whole_circuits.specs.Ends.{AreOutputCounts, outputs_before}
use Rattle.whole_circuits.specs.Insides.{IsCutAt}
use Rattle.whole_circuits.specs.WholeCells.{AreWholeCells}
use Rattle.vrt_model.specs.Cut.{Cut}
use Rattle.vrt_model.specs.declared.blif.Blif.{Blif}
use Rattle.vrt_model.specs.declared.rules.Phase.{Phase}
use Rattle.vrt_model.specs.declared.whole.CellFacts.{CellFacts}
use Rattle.whole_circuits.proofs.ends.output_counts.Given as goal

-- the outputs at the places so far
abbrev pub invariant-loop-at : goal.invariant-loop-at
invariant-loop-at l =
    (length l.counts.items ≡ l.count)
    × ((cut : Cut) (blif : Blif) (facts : List CellFacts) (phases : List Phase) → IsCutAt cut l.unrolled l.whole → AreWholeCells cut blif facts l.unrolled phases l.cells
    → AreOutputCounts (outputs_before cut blif facts l.at) l.counts.items)
