-- A whole instance that stands for a cell which was found equal: what is asked of the cell and of the instance, and that each output of
-- the instance follows from the observed inputs that are linked to it.
use Rattle.std.specs.Prelude.{◌≡◌, ℕ, ◌<◌, Bool, true, false, List, [], Some, map, length}
use Rattle.vrt_model.specs.Assignment.{Tied}
use Rattle.vrt_model.specs.CellRules.{is_observed_port}
use Rattle.vrt_model.specs.Comparison.{CellPort, Comparison, cell_at, is_observed, output_signal, phase_at, ports_of, tied_inputs}
use Rattle.vrt_model.specs.Constraints.{Meets}
use Rattle.vrt_model.specs.Determined.{IsDetermined, IsLinkedTo}
use Rattle.vrt_model.specs.Equal.{IsPhaseEqual}
use Rattle.vrt_model.specs.Held.{setting_of}
use Rattle.vrt_model.specs.Known.{IsPlain}
use Rattle.vrt_model.specs.Lists.{Among, At}
use Rattle.vrt_model.specs.Networks.{HasRanges}
use Rattle.vrt_model.specs.Path.{Joins}
use Rattle.vrt_model.specs.Reading.{bare, devices_of}
use Rattle.vrt_model.specs.WholeInstances.{CoverArc, IsChain}
use Rattle.vrt_model.specs.declared.circuit.Circuit.{Circuit}
use Rattle.vrt_model.specs.declared.circuit.Device.{Device}
use Rattle.vrt_model.specs.declared.circuit.FlatNet.{FlatNet}
use Rattle.vrt_model.specs.declared.circuit.NetKind.TheVariants.{Input}
use Rattle.vrt_model.specs.declared.whole.Whole.{Whole}
use Rattle.vrt_model.specs.declared.whole.WholePin.{WholePin}
use Rattle.whole_ranks.specs.Logic.{IsLogicModel, IsTied}

-- the net of a circuit is an input
abbrev pub IsInputNet : Circuit → ℕ → Type 0
IsInputNet c n = (net : FlatNet) × At c.nets n net × (net.kind ≡ Input)

-- whatever the bits of the inputs are, some valuation that meets the constraints of the phase has them
abbrev pub MeetsAllInputs : Comparison → ℕ → Type 0
MeetsAllInputs k phase =
    (inputs : ℕ → Bool)
    → (bits : List Bool) × Meets k phase bits × ((n : ℕ) → IsInputNet k.circuit n → (setting_of k phase bits).inputs n ≡ inputs n)

-- a port at a place is an output of the cell with this signal
abbrev pub IsOutputAt : Comparison → ℕ → CellPort → ℕ → Type 0
IsOutputAt k place port s = At (ports_of k) place port × (output_signal port.role ≡ Some s)

-- a cell without latches, holds, whole instances and don't-care bits that is equal in the phase; its inputs meet no channels, and its outputs are
-- observed and are no inputs
pub record IsLogicCell (k : Comparison) (phase : ℕ) : Type 0 where
  pub equal : IsPhaseEqual k phase
  pub logic : IsLogicModel k.model k.pairing.clocked (tied_inputs k)
  pub ranges : HasRanges k.circuit
  pub wholes : k.circuit.wholes ≡ []
  pub holds : k.circuit.holds ≡ []
  pub cared : k.model.dontcares ≡ []
  pub inputs : (t : Tied) → Among (tied_inputs k) t → IsInputNet k.circuit t.net
  pub free : (n m : ℕ) (d : Device) → IsInputNet k.circuit n → Among (devices_of bare k.circuit) d → ¬ Joins d n m
  pub outputs : (place : ℕ) (port : CellPort) (s : ℕ) → IsOutputAt k place port s → (s < length k.model.signals) × (¬ IsTied (tied_inputs k) s)
  pub seen :
      (place : ℕ) (port : CellPort) (s : ℕ) → IsOutputAt k place port s
      → is_observed_port k.rules (cell_at k.design k.cell).name port.name phase ≡ true

-- a tie that is moved to another net
abbrev pub moved_tie : (ℕ → ℕ) → Tied → Tied
moved_tie at t = record { net = at t.net; signal = t.signal }

-- The whole instance w of the circuit c stands for the cell of k, where the net n of the cell is at the net `at n` of the circuit: it has the
-- cell's model, its inputs are those of the cell, its outputs are outputs of the cell at plain nets, and a link leads to an output from
-- each input from which covers lead to it. An input of the cell whose net is not observed in the circuit is not observed in the
-- cell, which then has no constraints on its inputs.
pub record StandsFor (k : Comparison) (phase : ℕ) (c : Circuit) (observed : ℕ → Bool) (at : ℕ → ℕ) (w : Whole) : Type 0 where
  pub model : w.model ≡ k.model
  pub clocked : w.clocked ≡ k.pairing.clocked
  pub tied : map (λ (p : WholePin). let tied : Tied = record { net = p.net.0; signal = p.signal } in tied) w.inputs ≡ map (moved_tie at) (tied_inputs k)
  pub outputs : (pin : WholePin) → Among w.outputs pin → (place : ℕ) × (port : CellPort) × IsOutputAt k place port pin.signal
  pub plain : (pin : WholePin) → Among w.outputs pin → IsPlain c pin.net.0
  pub links :
      (input pin : WholePin) (i : ℕ) → Among w.inputs input → At w.outputs i pin → IsChain (CoverArc k.model) input.signal pin.signal
      → IsLinkedTo (phase_at k.rules phase) w input i
  pub quiet : (n : ℕ) → IsInputNet k.circuit n → observed (at n) ≡ false → (is_observed k phase n ≡ false) × MeetsAllInputs k phase

-- The law: such an instance is determined.
abbrev pub WholeCellsAreDetermined : Type 0
WholeCellsAreDetermined =
    (k : Comparison) (phase : ℕ) (c : Circuit) (observed : ℕ → Bool) (at : ℕ → ℕ) (w : Whole)
    → IsLogicCell k phase → StandsFor k phase c observed at w → IsDetermined c (phase_at k.rules phase) observed w
