-- The functions of a cell's outputs, over all phases, and a written model of them.
use Rattle.std.specs.Prelude.{◌≡◌, ◌↔◌, ℕ, ◌<◌, Bool, true, List, Some, length, map}
use Rattle.plain_models.specs.Flat.{flat_form, number_in}
use Rattle.same_phases.specs.Phases.{IsStateless, IsUnclocked}
use Rattle.vrt_model.specs.Assignment.{Tied}
use Rattle.vrt_model.specs.Comparison.{CellPort, Comparison, output_signal, ports_of, tied_inputs}
use Rattle.vrt_model.specs.Constraints.{Meets}
use Rattle.vrt_model.specs.Equal.{IsEqual}
use Rattle.vrt_model.specs.Faults.{Solves}
use Rattle.vrt_model.specs.Held.{IsValuation, setting_of}
use Rattle.vrt_model.specs.Lists.{Among, At}
use Rattle.vrt_model.specs.Reading.{Partial}
use Rattle.written_cells.specs.Exchanged.{GivesOutputs, HasNoState, IsSeen, exchanged}
use Rattle.written_models.specs.Functions.{Function}
use Rattle.written_models.specs.Written.{Logic, written_model}

-- ---- functions

-- some phase that observes an output port has its constraints met at a valuation, and the solution there gives the port 1
pub record GivesOne (k : Comparison) (port : CellPort) (signal : ℕ) (bits : List Bool) : Type 0 where
  pub phase : ℕ
  pub within : phase < length k.rules.phases
  pub seen : IsSeen k phase port signal
  pub meets : Meets k phase bits
  pub solution : Partial
  pub solves : Solves k phase (setting_of k phase bits) solution
  pub one : solution port.net ≡ Some true

-- the function of an output port: 1 at exactly these valuations
abbrev pub IsFunctionOf : Comparison → CellPort → ℕ → Function → Type 0
IsFunctionOf k port signal f = (phase : ℕ) (bits : List Bool) → IsValuation k phase bits → (f bits ≡ true) ↔ GivesOne k port signal bits

-- The law: in each phase that observes the port the solution has the bit of its function there.
abbrev pub FunctionsAreShown : Type 0
FunctionsAreShown =
    (k : Comparison) (port : CellPort) (signal : ℕ) (f : Function) → IsUnclocked k.circuit → IsStateless k → IsEqual k → IsFunctionOf k port signal f
    → (phase : ℕ) (bits : List Bool) (a : Partial) → phase < length k.rules.phases → Meets k phase bits → Solves k phase (setting_of k phase bits) a
    → IsSeen k phase port signal → a port.net ≡ Some (f bits)

-- ---- written models

-- what is written of a cell: the variables are the signals of its input ports, in port order, and a valuation has their bits in this order; and the
-- signal of each output port is that of an output with the port's function
pub record IsWrittenOf (k : Comparison) (l : Logic) : Type 0 where
  pub variables : map (number_in (written_model l)) l.variables ≡ map (λ (t : Tied). t.signal) (tied_inputs k)
  pub valuations : (phase : ℕ) (bits : List Bool) → IsValuation k phase bits → map (λ (t : Tied). (setting_of k phase bits).inputs t.net) (tied_inputs k) ≡ bits
  pub outputs :
      (port : CellPort) (signal : ℕ) → Among (ports_of k) port → output_signal port.role ≡ Some signal
      → (i : ℕ) × (name : List ℕ) × (f : Function) × At l.outputs i name × At l.functions i f × (signal ≡ number_in (written_model l) name) × IsFunctionOf k port signal f

-- The law: the written model gives its outputs.
abbrev pub OutputsAreShown : Type 0
OutputsAreShown =
    (k : Comparison) (l : Logic) (number : ℕ)
    → IsUnclocked k.circuit → HasNoState k → IsEqual k → IsWrittenOf k l → GivesOutputs (exchanged k (flat_form (written_model l)) number)
