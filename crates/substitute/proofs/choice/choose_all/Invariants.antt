use Rattle.std.proofs.Common.{List}
use Rattle.vrt_model.specs.Unrolled.{Top}
use Rattle.vrt_model.specs.declared.blif.Blif.{Blif}
use Rattle.vrt_model.specs.declared.whole.CellFacts.{CellFacts}
use Rattle.substitute.specs.Underway.{AreChosenBelow, AreTables}
use Rattle.substitute.proofs.choice.choose_all.Given as goal

-- the instances at the places so far
abbrev pub invariant-loop-at : goal.invariant-loop-at
invariant-loop-at l = (t : Top) (blif : Blif) (facts : List CellFacts) → AreTables t blif facts l.tables → AreChosenBelow l.asked t blif facts l.tables l.at l.chosen
