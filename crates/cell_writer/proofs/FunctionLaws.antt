-- What is written of a cell whose functions are joined over all its phases.
use Rattle.std.proofs.Common.{◌≡◌, ℕ, ◌-◌, Bool, false, List, Some, arith, ap, length, map, refl, sym, ◌∙◌}
use Rattle.std.proofs.Math.Path.{fun_ext}
use Rattle.std.proofs.lemmas.Option.{unwrap_or-slice_get}
use Rattle.std.proofs.lemmas.Simd.{map-map}
use Rattle.bdd_core.specs.Diagram.{Valuation}
use Rattle.bdd_core.specs.Store.{Diagrams, function_of}
use Rattle.bdd_core.specs.declared.handle.H.{H}
use Rattle.bdd_ops.specs.Ops.{bits_of}
use Rattle.cell_writer.proofs.RefusedLaws.{free_names}
use Rattle.cell_writer.specs.Refused.{MayBeWritten}
use Rattle.diagram_lists.specs.Listed.{bits_from, function_from, functions_of}
use Rattle.formed_cells.specs.Formed.{AreRead}
use Rattle.output_functions.specs.Phases.{AreJoined}
use Rattle.output_joins.specs.Joins.{handle_in, shown}
use Rattle.vrt_model.specs.Comparison.{CellPort, Comparison, output_signal, ports_of}
use Rattle.vrt_model.specs.FlatBlif.{model_at}
use Rattle.vrt_model.specs.Lists.{Among, bit_at}
use Rattle.vrt_model.specs.Unsupported.{IsSupported, comparison_of}
use Rattle.vrt_model.specs.declared.blif.Blif.{Blif}
use Rattle.vrt_model.specs.declared.design.Design.{Design}
use Rattle.vrt_model.specs.declared.rules.Rules.{Rules}
use Rattle.written_cells.specs.Outputs.{GivesOne, IsFunctionOf}
use Rattle.written_logic.proofs.MadeLogics.{made_logic}
use Rattle.written_logic.specs.Logics.{HasInterface, IsLogicOf, input_names}
use Rattle.written_models.specs.Functions.{Function}
use Rattle.written_models.specs.Written.{Logic}

-- the bits of all variables
all_bits : (bits : List Bool) → bits_from 0 bits ≡ bits_of bits
all_bits bits = fun_ext (λ x. ap (bit_at bits) (let same : x - 0 ≡ x = omega arith in same) ∙ unwrap_or-slice_get bits x false)

-- the function of a signal
abbrev pub function_at : Diagrams → List H → ℕ → Function
function_at d handles s = function_from d 0 (handle_in handles s)

-- over all phases it is that of the port
pub function_is : (k : Comparison) (handles : List H) (d : Diagrams) → AreJoined k (length k.rules.phases) handles d → (port : CellPort) (signal : ℕ) → Among (ports_of k) port
    → output_signal port.role ≡ Some signal → IsFunctionOf k port signal (function_at d handles signal)
function_is k handles d joined port signal there role phase bits valuation =
    let both = joined.is port signal there role phase bits valuation in
    let same : function_at d handles signal bits ≡ shown d handles signal (bits_of bits) = ap (λ (v : Valuation). function_of d (handle_in handles signal) v) (all_bits bits) in
    (λ t. (both.0 (sym same ∙ t)).0, λ (one : GivesOne k port signal bits). same ∙ both.1 (one, one.within))

module _ (design : Design) (blif : Blif) (rules : Rules) (cell m : ℕ) (handles : List H) (d : Diagrams) (read : AreRead blif rules) (supported : IsSupported design blif rules cell m)
    (may : MayBeWritten (comparison_of design blif rules cell m) (model_at blif m))
    (joined : AreJoined (comparison_of design blif rules cell m) (length rules.phases) handles d) where
  -- what is written
  abbrev pub logic_by : Logic
  logic_by = record {
    name = (model_at blif m).name;
    inputs = (model_at blif m).inputs;
    clocks = (model_at blif m).clocks;
    outputs = (model_at blif m).outputs;
    variables = input_names (comparison_of design blif rules cell m);
    functions = functions_of d (map (handle_in handles) (comparison_of design blif rules cell m).model.outputs);
  }

  interface_by : length logic_by.functions ≡ length logic_by.outputs → HasInterface (comparison_of design blif rules cell m) (model_at blif m) logic_by
  interface_by count = record { name = refl; inputs = refl; clocks = refl; outputs = refl; variables = refl; count = count }

  -- it is what is to be written
  pub logic_of_cell : length logic_by.functions ≡ length logic_by.outputs → IsLogicOf (comparison_of design blif rules cell m) (model_at blif m) logic_by
  logic_of_cell count =
      let k = comparison_of design blif rules cell m in
      let interface = interface_by count in
      made_logic design blif rules cell m logic_by read supported interface (free_names k (model_at blif m) logic_by may interface) (function_at d handles)
      (map-map (function_from d 0) (handle_in handles) k.model.outputs)
      (λ port signal there role. function_is k handles d joined port signal there role)
