-- The text of functions, or why there is none.
use Rattle.std.specs.Prelude.{◌≡◌, ℕ, ◌<◌, ◌≤◌, List, length, Result, Ok, Err}
use Rattle.bdd_core.specs.Store.{Diagrams}
use Rattle.bdd_core.specs.declared.handle.H.{H}
use Rattle.diagram_lists.specs.Listed.{functions_of}
use Rattle.diagram_text.specs.declared.text.Interface.{Interface}
use Rattle.diagram_text.specs.declared.text.TextRefusal.{TextRefusal}
use Rattle.diagram_text.specs.declared.text.TextRefusal.TheVariants.{Large, Long, NoMemory}
use Rattle.model_writer.specs.Counts.{signal_count}
use Rattle.model_writer.specs.Shapes.{shaped_model, shaped_signals}
use Rattle.model_writer.specs.declared.model.ModelLines.{ModelLines}
use Rattle.model_writer.specs.declared.model.NodeLine.{NodeLine}
use Rattle.plain_models.specs.Texts.{PlainModel, model_text}
use Rattle.vrt_model.specs.Limits.{most_signals}
use Rattle.written_models.specs.Written.{Logic, other_clocks, written_model}

-- the most bytes that a text may have
abbrev pub most_bytes : ℕ
most_bytes = 16777216

-- ---- of functions

-- what is written: this interface, and the functions of the handles
pub record IsLogicIn (d : Diagrams) (handles : List H) (interface : Interface) (l : Logic) : Type 0 where
  pub name : l.name ≡ interface.name.now
  pub inputs : l.inputs ≡ interface.inputs.now
  pub clocks : other_clocks l ≡ interface.clocks.now
  pub outputs : l.outputs ≡ interface.outputs.now
  pub variables : l.variables ≡ interface.variables.now
  pub functions : l.functions ≡ functions_of d handles

-- the text of a model with so many signals; or their count, which is too large; or the count of bytes, of few signals
abbrev pub ModelGives : ℕ → PlainModel → Result (List ℕ) TextRefusal → Type 0
ModelGives signals m (Ok text) = (signals ≤ most_signals) × (length (model_text m) ≤ most_bytes) × (text ≡ model_text m)
ModelGives signals m (Err (Large count)) = (count ≡ signals) × (most_signals < count)
ModelGives signals m (Err (Long bytes)) = (signals ≤ most_signals) × (bytes ≡ length (model_text m)) × (most_bytes < bytes)
ModelGives signals m (Err NoMemory) = Unit {0}

-- that of the written model
abbrev pub TextGives : Logic → Result (List ℕ) TextRefusal → Type 0
TextGives l result = ModelGives (signal_count l) (written_model l) result

-- ---- of numbers

-- lines with this interface, these nodes and these roots
pub record HasLines (interface : Interface) (nodes : List NodeLine) (roots : List ℕ) (m : ModelLines) : Type 0 where
  pub name : m.name.now ≡ interface.name.now
  pub inputs : m.inputs.now ≡ interface.inputs.now
  pub clocks : m.clocks.now ≡ interface.clocks.now
  pub outputs : m.outputs.now ≡ interface.outputs.now
  pub variables : m.variables.now ≡ interface.variables.now
  pub nodes_are : m.nodes.now ≡ nodes
  pub roots_are : m.roots.now ≡ roots

-- that of the model that they are
abbrev pub ShapedGives : ModelLines → Result (List ℕ) TextRefusal → Type 0
ShapedGives m result = ModelGives (shaped_signals m) (shaped_model m) result
