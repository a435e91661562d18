-- What is written of a cell without state: the interface of its model, and the functions of its outputs.
use Rattle.std.specs.Prelude.{◌≡◌, ℕ, true, List, [], Some, length, map}
use Rattle.std.specs.List.{list_all}
use Rattle.vrt_model.specs.Assignment.{Tied}
use Rattle.vrt_model.specs.Comparison.{CellPort, Comparison, output_signal, ports_of, tied_inputs}
use Rattle.vrt_model.specs.Elements.{signal_name}
use Rattle.vrt_model.specs.Lists.{Among, At}
use Rattle.vrt_model.specs.declared.blif.BlifModel.{BlifModel}
use Rattle.vrt_model.specs.declared.pairing.PortRole.TheVariants.{Clock}
use Rattle.vrt_model.specs.declared.rules.ClockRef.{ClockRef}
use Rattle.written_cells.specs.Outputs.{IsFunctionOf}
use Rattle.written_models.specs.Functions.{Function}
use Rattle.written_models.specs.Written.{Logic, is_free_name, other_clocks}

-- ---- the cell

-- no net is held, and no port carries a clock
pub record IsCombinational (k : Comparison) : Type 0 where
  pub holds : k.circuit.holds ≡ []
  pub clocks : (port : CellPort) (clock : ClockRef) → Among (ports_of k) port → ¬ (port.role ≡ Clock clock)

-- ---- what is written of it

-- the signals of its input ports, in port order
abbrev pub input_names : Comparison → List (List ℕ)
input_names k = map (λ (t : Tied). signal_name k.model t.signal) (tied_inputs k)

-- an output port that pairs with a signal of this name
pub record PairsWith (k : Comparison) (name : List ℕ) (port : CellPort) (signal : ℕ) : Type 0 where
  pub there : Among (ports_of k) port
  pub output : output_signal port.role ≡ Some signal
  pub named : signal_name k.model signal ≡ name

-- the name and the interface of its model; the variables are its input ports, in port order; and there is a function for each output
pub record HasInterface (k : Comparison) (b : BlifModel) (l : Logic) : Type 0 where
  pub name : l.name ≡ b.name
  pub inputs : l.inputs ≡ b.inputs
  pub clocks : l.clocks ≡ b.clocks
  pub outputs : l.outputs ≡ b.outputs
  pub variables : l.variables ≡ input_names k
  pub count : length l.functions ≡ length l.outputs

-- and each output has the function of its port
pub record IsLogicOf (k : Comparison) (b : BlifModel) (l : Logic) : Type 0 where
  pub interface : HasInterface k b l
  pub functions :
      (i : ℕ) (name : List ℕ) (f : Function) (port : CellPort) (signal : ℕ) → At l.outputs i name → At l.functions i f → PairsWith k name port signal
      → IsFunctionOf k port signal f

-- ---- what may be written

-- its names are free
pub record HasFreeNames (l : Logic) : Type 0 where
  pub name : is_free_name l.name ≡ true
  pub inputs : list_all is_free_name l.inputs ≡ true
  pub clocks : list_all is_free_name (other_clocks l) ≡ true
  pub outputs : list_all is_free_name l.outputs ≡ true
