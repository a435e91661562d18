-- Ends of holds in a netlist some instances of which are chosen to be whole.
use Rattle.std.specs.Prelude.{List}
use Rattle.checked_chain.specs.Holds.{AreEndsShown}
use Rattle.substitution_laws.specs.Chosen.{IsChoiceByFacts}
use Rattle.vrt_model.specs.Cut.{Cut}
use Rattle.vrt_model.specs.declared.blif.Blif.{Blif}
use Rattle.vrt_model.specs.declared.whole.CellFacts.{CellFacts}

-- The law: no end of a hold names an instance inside a whole one, since a whole one has no hold inside.
abbrev pub ChosenEndsAreShown : Type 0
ChosenEndsAreShown = (cut : Cut) (blif : Blif) (facts : List CellFacts) → IsChoiceByFacts cut blif facts → AreEndsShown cut
