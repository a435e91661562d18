-- Comparisons over the circuits of a chain: valuations give the same in all of them.
use Rattle.std.specs.Prelude.{◌≡◌, ℕ, List}
use Rattle.checked_chain.specs.Holds.{IsOfChain}
use Rattle.replaced_cells.specs.Agreement.{HaveSameValuations}
use Rattle.vrt_model.specs.Checked.{with_circuit}
use Rattle.vrt_model.specs.Comparison.{Comparison}
use Rattle.vrt_model.specs.Cut.{Cut}
use Rattle.vrt_model.specs.Variables.{enter_of}
use Rattle.vrt_model.specs.declared.blif.Blif.{Blif}
use Rattle.vrt_model.specs.declared.circuit.Circuit.{Circuit}
use Rattle.vrt_model.specs.declared.whole.CellFacts.{CellFacts}

-- what a step asks of the nets and holds of both circuits
pub record HaveSameNets (k : Comparison) (c d : Circuit) : Type 0 where
  pub nets : d.nets ≡ c.nets
  pub enters : (next i : ℕ) → enter_of d next i ≡ enter_of c next i
  pub held_groups : (with_circuit k d).groups ≡ (with_circuit k c).groups

-- The law: two circuits of a chain have the same nets and valuations.
abbrev pub ChainKeepsValuations : Type 0
ChainKeepsValuations =
    (k : Comparison) (blif : Blif) (facts : List CellFacts) (cut next : Cut) (c d : Circuit)
    → IsOfChain k blif facts cut c → IsOfChain k blif facts next d
    → HaveSameNets k c d × HaveSameValuations (with_circuit k c) (with_circuit k d)
