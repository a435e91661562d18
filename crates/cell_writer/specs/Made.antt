-- The text of functions by handles, as an answer for a cell.
use Rattle.std.specs.Prelude.{◌≡◌, ℕ, ◌<◌, ◌≤◌, List, length, map, Result, Ok, Err}
use Rattle.cell_writer.specs.declared.refusal.WriteRefusal.{WriteRefusal}
use Rattle.cell_writer.specs.declared.refusal.WriteRefusal.TheVariants.{Hold, Clock, Name, Budget, Large, Long, NoMemory}
use Rattle.diagram_lists.specs.Listed.{functions_of}
use Rattle.diagram_text.specs.Texts.{most_bytes}
use Rattle.diagram_text.specs.declared.text.Interface.{Interface}
use Rattle.diagram_text.specs.declared.text.TextRefusal.{TextRefusal}
use Rattle.diagram_text.specs.declared.text.TextRefusal.TheVariants.{Large as IsLarge, Long as IsLong, NoMemory as IsNoMemory}
use Rattle.model_writer.specs.Counts.{signal_count}
use Rattle.output_functions.specs.declared.functions.Functions.{Functions}
use Rattle.output_joins.specs.Joins.{handle_in}
use Rattle.vrt_model.specs.Limits.{most_signals}
use Rattle.vrt_model.specs.declared.blif.BlifModel.{BlifModel}
use Rattle.written_models.specs.Written.{Logic, other_clocks, written_text}

-- the refusal of a cell for that of its text
abbrev pub refusal_of : TextRefusal → WriteRefusal
refusal_of (IsLarge count) = Large count
refusal_of (IsLong bytes) = Long bytes
refusal_of IsNoMemory = NoMemory

-- the interface of a model, with these clocks and variables
pub record HasNames (b : BlifModel) (clocks variables : List (List ℕ)) (interface : Interface) : Type 0 where
  pub name : interface.name.now ≡ b.name
  pub inputs : interface.inputs.now ≡ b.inputs
  pub clocks_are : interface.clocks.now ≡ clocks
  pub outputs : interface.outputs.now ≡ b.outputs
  pub variables_are : interface.variables.now ≡ variables

-- what is written: this interface, and the functions of the outputs' handles
pub record IsLogicBy (f : Functions) (outputs : List ℕ) (b : BlifModel) (clocks variables : List (List ℕ)) (l : Logic) : Type 0 where
  pub name : l.name ≡ b.name
  pub inputs : l.inputs ≡ b.inputs
  pub clocks_are : other_clocks l ≡ clocks
  pub outputs_are : l.outputs ≡ b.outputs
  pub variables_are : l.variables ≡ variables
  pub functions : l.functions ≡ functions_of f.store (map (handle_in f.handles.items) outputs)

-- its text; or the count of signals or of bytes, exactly where that is too large
abbrev pub LogicGives : Logic → Result (List ℕ) WriteRefusal → Type 0
LogicGives l (Ok text) = (signal_count l ≤ most_signals) × (length (written_text l) ≤ most_bytes) × (text ≡ written_text l)
LogicGives l (Err (Hold net)) = ⊥
LogicGives l (Err (Clock port)) = ⊥
LogicGives l (Err (Name name)) = ⊥
LogicGives l (Err (Budget nodes)) = ⊥
LogicGives l (Err (Large count)) = (count ≡ signal_count l) × (most_signals < count)
LogicGives l (Err (Long bytes)) = (signal_count l ≤ most_signals) × (bytes ≡ length (written_text l)) × (most_bytes < bytes)
LogicGives l (Err NoMemory) = Unit {0}
