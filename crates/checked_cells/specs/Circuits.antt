-- A checked circuit and the flat one: what they share.
use Rattle.std.specs.Prelude.{◌≡◌, List, length}
use Rattle.substitution_laws.specs.Agreement.{IsCheckedByFacts}
use Rattle.vrt_model.specs.Circuits.{IsCircuit}
use Rattle.vrt_model.specs.Comparison.{Comparison}
use Rattle.vrt_model.specs.Cut.{Cut}
use Rattle.vrt_model.specs.Groups.{groups_of}
use Rattle.vrt_model.specs.Lists.{Among}
use Rattle.vrt_model.specs.declared.blif.Blif.{Blif}
use Rattle.vrt_model.specs.declared.circuit.Circuit.{Circuit}
use Rattle.vrt_model.specs.declared.circuit.FlatInstance.{FlatInstance}
use Rattle.vrt_model.specs.declared.whole.CellFacts.{CellFacts}

-- they have the same nets, as many holds, and the same groups of holds; and the checked one has instances of the flat one alone
pub record SharesCircuit (k : Comparison) (c : Circuit) : Type 0 where
  pub nets : c.nets ≡ k.circuit.nets
  pub holds : length c.holds ≡ length k.circuit.holds
  pub groups : groups_of c k.model ≡ k.groups
  pub instances : (i : FlatInstance) → Among c.instances i → Among k.circuit.instances i

-- The law: a checked circuit shares these with the flat one.
abbrev pub CheckedCircuitsShare : Type 0
CheckedCircuitsShare =
    (k : Comparison) (cut : Cut) (blif : Blif) (facts : List CellFacts) (c : Circuit) → IsCheckedByFacts k cut blif facts c → SharesCircuit k c

-- The law: it is well formed.
abbrev pub CheckedCircuitsAreFormed : Type 0
CheckedCircuitsAreFormed =
    (k : Comparison) (cut : Cut) (blif : Blif) (facts : List CellFacts) (c : Circuit) → IsCheckedByFacts k cut blif facts c → IsCircuit c
