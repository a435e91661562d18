use Rattle.std.proofs.Common.{List}
use Rattle.std.specs.List.{AllZip}
use Rattle.vrt_model.specs.declared.circuit.Circuit.{Circuit}
use Rattle.whole_circuits.specs.Ends.{HasEnds}
use Rattle.whole_circuits.specs.Insides.{IsCutAt}
use Rattle.whole_circuits.specs.WholeCells.{AreWholeCells, wholes_before}
use Rattle.vrt_model.specs.Cut.{Cut}
use Rattle.vrt_model.specs.WholeInstances.{IsWholeAt}
use Rattle.vrt_model.specs.declared.blif.Blif.{Blif}
use Rattle.vrt_model.specs.declared.whole.CellFacts.{CellFacts}
use Rattle.whole_circuits.proofs.wholes.wholes_of.Given as goal

-- the instances at the places so far
abbrev pub invariant-loop-at : goal.invariant-loop-at
invariant-loop-at l =
    (cut : Cut) (blif : Blif) (facts : List CellFacts) (c : Circuit) → HasEnds cut blif facts c l.ends → IsCutAt cut l.unrolled l.whole → AreWholeCells cut blif facts l.unrolled l.phases l.cells
    → AllZip (IsWholeAt cut blif facts) (wholes_before cut l.at) l.wholes
