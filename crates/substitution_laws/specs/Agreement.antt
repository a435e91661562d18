-- The flat circuit of a cell and its checked one: nothing is wrong in the one exactly where nothing is wrong in the other.
use Rattle.std.specs.Prelude.{◌≡◌, ℕ, ◌<◌, List, length}
use Rattle.replaced_cells.specs.Agreement.{AgreesWith, IsAlwaysSolved}
use Rattle.substitution_laws.specs.Chosen.{IsChoiceByFacts}
use Rattle.vrt_model.specs.Checked.{IsCircuitWith, before, top_of, with_circuit}
use Rattle.vrt_model.specs.Circuits.{IsCircuit}
use Rattle.vrt_model.specs.Comparison.{Comparison, phase_at}
use Rattle.vrt_model.specs.Cut.{Cut}
use Rattle.vrt_model.specs.FlatCircuit.{flat_circuit_of}
use Rattle.vrt_model.specs.Groups.{groups_of}
use Rattle.vrt_model.specs.Known.{HasArc}
use Rattle.vrt_model.specs.Unrolled.{all_places}
use Rattle.vrt_model.specs.Unsupported.{IsAcyclic}
use Rattle.vrt_model.specs.declared.blif.Blif.{Blif}
use Rattle.vrt_model.specs.declared.circuit.Circuit.{Circuit}
use Rattle.vrt_model.specs.declared.whole.CellFacts.{CellFacts}

-- a circuit with the instances of a choice by facts whole, of a comparison whose own circuit is the flat one, well formed and without
-- cycles
pub record IsCheckedByFacts (k : Comparison) (cut : Cut) (blif : Blif) (facts : List CellFacts) (c : Circuit) : Type 0 where
  pub choice : IsChoiceByFacts cut blif facts
  pub top : cut.top ≡ top_of k
  pub flat : k.circuit ≡ flat_circuit_of cut.top
  pub groups : k.groups ≡ groups_of k.circuit k.model
  pub formed : IsCircuit (flat_circuit_of cut.top)
  pub acyclic : (phase : ℕ) → phase < length cut.top.rules.phases → IsAcyclic (HasArc (flat_circuit_of cut.top) (phase_at cut.top.rules phase))
  pub circuit : IsCircuitWith cut blif facts c

-- The law: each circuit of the chain has exactly one solution in each phase at each valuation.
abbrev pub ChainIsAlwaysSolved : Type 0
ChainIsAlwaysSolved =
    (k : Comparison) (cut : Cut) (blif : Blif) (facts : List CellFacts) (c : Circuit) (n : ℕ) (d : Circuit)
    → IsCheckedByFacts k cut blif facts c → n < length (all_places cut.top) → IsCircuitWith (before cut n) blif facts d
    → IsAlwaysSolved (with_circuit k d)

-- The law: so nothing is wrong in the flat circuit exactly where nothing is wrong in the checked one.
abbrev pub CheckedCircuitsAgree : Type 0
CheckedCircuitsAgree =
    (k : Comparison) (cut : Cut) (blif : Blif) (facts : List CellFacts) (c : Circuit)
    → IsCheckedByFacts k cut blif facts c → AgreesWith k (with_circuit k c)
