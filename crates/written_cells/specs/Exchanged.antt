-- A comparison of a cell without state, with another model in the place of its own.
use Rattle.std.specs.Prelude.{◌≡◌, ℕ, ◌<◌, Bool, true, List, [], Some, length}
use Rattle.vrt_model.specs.Assignment.{Assignment}
use Rattle.vrt_model.specs.Comparison.{CellPort, Comparison, cell_at, output_signal, ports_of, tied_inputs}
use Rattle.vrt_model.specs.CellRules.{is_observed_port}
use Rattle.vrt_model.specs.Constraints.{Meets}
use Rattle.vrt_model.specs.Elements.{element_names}
use Rattle.vrt_model.specs.Equal.{IsEqual}
use Rattle.vrt_model.specs.Faults.{Assigns, Solves}
use Rattle.vrt_model.specs.Groups.{groups_of}
use Rattle.vrt_model.specs.Held.{setting_of}
use Rattle.vrt_model.specs.Lists.{Among}
use Rattle.vrt_model.specs.Reading.{Partial}
use Rattle.vrt_model.specs.declared.flat_model.FlatModel.{FlatModel}
use Rattle.whole_ranks.specs.Logic.{IsLogicModel}

-- the comparison with this model, which has this number
abbrev pub exchanged : Comparison → FlatModel → ℕ → Comparison
exchanged k flat number = record k { pairing = record k.pairing { model = number }; model = flat; groups = groups_of k.circuit flat }

-- neither the cell nor its model has state
pub record HasNoState (k : Comparison) : Type 0 where
  pub holds : k.circuit.holds ≡ []
  pub groups : k.groups ≡ groups_of k.circuit k.model
  pub elements : element_names k.model ≡ []

-- an output port of the cell, with its signal, that is observed in a phase
pub record IsSeen (k : Comparison) (phase : ℕ) (port : CellPort) (signal : ℕ) : Type 0 where
  pub there : Among (ports_of k) port
  pub output : output_signal port.role ≡ Some signal
  pub observed : is_observed_port k.rules (cell_at k.design k.cell).name port.name phase ≡ true

-- in each phase, at each valuation that meets its constraints, the model gives the signal of each observed output the bit of the solution
abbrev pub GivesOutputs : Comparison → Type 0
GivesOutputs k =
    (phase : ℕ) (bits : List Bool) (a : Partial) (g : Assignment) (port : CellPort) (signal : ℕ)
    → phase < length k.rules.phases → Meets k phase bits → Solves k phase (setting_of k phase bits) a → Assigns k phase (setting_of k phase bits) g
    → IsSeen k phase port signal → a port.net ≡ Some (g.signal signal)

-- The law: an equal cell without state is equal to another model without latches and cycles, where that gives its outputs.
abbrev pub ModelsAreExchanged : Type 0
ModelsAreExchanged =
    (k : Comparison) (flat : FlatModel) (number : ℕ)
    → HasNoState k → IsLogicModel flat k.pairing.clocked (tied_inputs k) → IsEqual k → GivesOutputs (exchanged k flat number) → IsEqual (exchanged k flat number)
