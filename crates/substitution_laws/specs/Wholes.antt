-- Whole instances of the circuits between the flat circuit of a cell and its checked one.
use Rattle.std.specs.Prelude.{◌≡◌, ℕ, ◌<◌, List, length}
use Rattle.checked_chain.specs.Holds.{AreEndsShown}
use Rattle.formed_cells.specs.Formed.{IsFormed}
use Rattle.known_nets.specs.Wired.{IsWired}
use Rattle.placed_cells.specs.Above.{net_above}
use Rattle.replaced_instances.specs.Steps.{IsStep, compared_at}
use Rattle.substitution_laws.specs.Chosen.{IsChoiceByFacts, IsTrial}
use Rattle.vrt_model.specs.Checked.{IsCircuitWith, before, top_of, with_circuit}
use Rattle.vrt_model.specs.Circuits.{IsCircuit, IsDrive}
use Rattle.vrt_model.specs.Comparison.{Comparison, is_observed, phase_at}
use Rattle.vrt_model.specs.Cut.{Cut, NumberedPlace, whole_places}
use Rattle.vrt_model.specs.FlatCircuit.{flat_circuit_of}
use Rattle.vrt_model.specs.Lists.{Among}
use Rattle.vrt_model.specs.Networks.{HasRanges}
use Rattle.vrt_model.specs.PairedPorts.{Model, paired_model}
use Rattle.vrt_model.specs.Unsupported.{IsSupported}
use Rattle.vrt_model.specs.WholeInstances.{IsWholeAt, OutputAt, outputs_of_place}
use Rattle.vrt_model.specs.declared.blif.Blif.{Blif}
use Rattle.vrt_model.specs.declared.circuit.Circuit.{Circuit}
use Rattle.vrt_model.specs.declared.whole.CellFacts.{CellFacts}
use Rattle.vrt_model.specs.declared.whole.Whole.{Whole}
use Rattle.channel_parts.specs.OneSolution.{AreDetermined}
use Rattle.whole_ranks.specs.WholeCells.{StandsFor}

-- The law: a whole instance of a circuit of the chain stands for its cell.
abbrev pub WholesStandForCells : Type 0
WholesStandForCells =
    (k : Comparison) (cut : Cut) (blif : Blif) (facts : List CellFacts) (i : ℕ) (p : NumberedPlace) (m phase n : ℕ) (c : Circuit) (w : Whole)
    → cut.top ≡ top_of k → IsChoiceByFacts cut blif facts → IsStep cut blif facts i p m → IsSupported cut.top.design blif cut.top.rules p.at.cell m
    → phase < length cut.top.rules.phases → IsCircuitWith (before cut n) blif facts c → Among c.wholes w → IsWholeAt (before cut n) blif facts p w
    → StandsFor (compared_at cut.top blif p m) phase c (is_observed (with_circuit k c) phase) (net_above cut.top p.at) w

-- The law: so each whole instance is determined.
abbrev pub WholesAreDetermined : Type 0
WholesAreDetermined =
    (k : Comparison) (cut : Cut) (blif : Blif) (facts : List CellFacts) (phase n : ℕ) (c : Circuit)
    → cut.top ≡ top_of k → IsChoiceByFacts cut blif facts → phase < length cut.top.rules.phases → IsCircuitWith (before cut n) blif facts c
    → AreDetermined c (phase_at cut.top.rules phase) (is_observed (with_circuit k c) phase)

-- a flat circuit that is well formed, of which instances are left whole: each of a cell that is well formed with its model, what is told of
-- how strongly their outputs drive is in range, and no end of a hold names an instance inside one
pub record IsFormedCut (cut : Cut) (blif : Blif) (facts : List CellFacts) : Type 0 where
  pub flat : IsCircuit (flat_circuit_of cut.top)
  pub cells :
      (p : NumberedPlace) → Among (whole_places cut) p
      → (m : ℕ) × (paired_model cut.top.design blif cut.top.rules p.at.cell ≡ Model m) × IsFormed (compared_at cut.top blif p m)
  pub drives : (p : NumberedPlace) (o : OutputAt) → Among (whole_places cut) p → Among (outputs_of_place cut.top blif facts p) o → IsDrive (flat_circuit_of cut.top) o.pin.drive
  pub ends : AreEndsShown cut

-- The law: then the numbers, levels and sizes of the circuit are in range.
abbrev pub CutsHaveRanges : Type 0
CutsHaveRanges = (cut : Cut) (blif : Blif) (facts : List CellFacts) (c : Circuit) → IsFormedCut cut blif facts → IsCircuitWith cut blif facts c → HasRanges c

-- The law: so are those of a circuit of the chain, where no end of a hold names an instance inside a whole one.
abbrev pub CircuitsHaveRanges : Type 0
CircuitsHaveRanges =
    (cut : Cut) (blif : Blif) (facts : List CellFacts) (n : ℕ) (c : Circuit)
    → IsChoiceByFacts cut blif facts → IsCircuit (flat_circuit_of cut.top) → AreEndsShown (before cut n) → IsCircuitWith (before cut n) blif facts c → HasRanges c

-- The law: so are those of the circuit of instances that are tried, whatever is told of drives, and their outputs are at plain nets.
abbrev pub TrialsAreWired : Type 0
TrialsAreWired =
    (cut : Cut) (blif : Blif) (facts : List CellFacts) (c : Circuit)
    → IsTrial cut blif facts → IsCircuit (flat_circuit_of cut.top) → IsCircuitWith cut blif facts c → IsWired c
