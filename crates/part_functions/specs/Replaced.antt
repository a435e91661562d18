-- The handles at the gates of a part, replaced by those of variables, and what is then found of its nets.
use Rattle.std.specs.Prelude.{◌≡◌, ◌≢◌, ℕ, ◌<◌, ◌⊎◌, ◌↔◌, Bool, true, length, slice_index}
use Rattle.node_pool.specs.declared.region.Span.{Span}
use Rattle.bdd_core.specs.Diagram.{IsWithin, Valuation, meaning}
use Rattle.bdd_core.specs.Store.{Diagrams}
use Rattle.bdd_core.specs.Words.{word_at}
use Rattle.channel_parts.specs.declared.part.Part.{Part}
use Rattle.path_fixpoint.specs.Parts.{IsPlace}
use Rattle.path_fixpoint.specs.Reaching.{slot_of}
use Rattle.path_fixpoint.specs.Solved.{network_at}
use Rattle.path_fixpoint.specs.Strengths.{strong}
use Rattle.path_fixpoint.specs.declared.words.NetWords.{NetWords}
use Rattle.vrt_model.specs.Response.{Reaches}
use Rattle.vrt_model.specs.declared.circuit.Circuit.{Circuit}
use Rattle.vrt_model.specs.declared.circuit.Device.{Device}
use Rattle.part_functions.specs.Inner.{inner}
use Rattle.part_functions.specs.Small.{IsDeviceAt}
use Rattle.part_functions.specs.declared.few.PartFunctions.{PartFunctions}
use Rattle.part_functions.specs.declared.replaced.GateHandles.{GateHandles}

-- the handle for the gate of the device at a place
abbrev pub gate_handle : GateHandles → ℕ → ℕ
gate_handle g i = slice_index g.handles i

-- these are the handles at the gates of a part
abbrev pub AreGates : Circuit → Part → Span → Diagrams → GateHandles → Type 0
AreGates c part gates d g = (i : ℕ) (dev : Device) → IsDeviceAt c part i dev → gate_handle g i ≡ word_at d gates dev.gate.0

-- they are live
abbrev pub AreLiveGates : Diagrams → GateHandles → Type 0
AreLiveGates d g = (i : ℕ) → gate_handle g i < length d.nodes

-- of the net n: a device at a place has its gate there, and the word is the handle for that place; or none has, and the word stays
abbrev pub IsWritten : Circuit → Part → Span → GateHandles → ℕ → Diagrams → Diagrams → ℕ → Type 0
IsWritten c part gates g upto old new n =
    ((i : ℕ) × (dev : Device) × (i < upto) × IsDeviceAt c part i dev × (dev.gate.0 ≡ n) × (word_at new gates n ≡ gate_handle g i))
    ⊎ (((i : ℕ) (dev : Device) → i < upto → IsDeviceAt c part i dev → dev.gate.0 ≢ n) × (word_at new gates n ≡ word_at old gates n))

-- s reads only the variables that stand for functions, and with these it is h
pub record StandsFor (f : PartFunctions) (d : Diagrams) (h s : ℕ) : Type 0 where
  pub live : s < length d.nodes
  pub same : (v : Valuation) → meaning d.nodes s (inner f d v) ≡ meaning d.nodes h v
  pub within : IsWithin f.count (meaning d.nodes s)

-- with the functions in place of the variables, the words of the values say which of them reach the nets of the part
abbrev pub TellsInner : PartFunctions → Circuit → Part → Span → Span → NetWords → Diagrams → Diagrams → Type 0
TellsInner f c part gates roots out old new =
    (v : Valuation) (i n : ℕ) (value : Bool) → IsPlace part i n
    → (strong new out (slot_of out value) i (inner f old v) ≡ true) ↔ Reaches (network_at old c part gates roots v) n value

-- and they read only the variables that stand for functions
abbrev pub AreInner : PartFunctions → Part → NetWords → Diagrams → Type 0
AreInner f part out d = (i n : ℕ) (value : Bool) → IsPlace part i n → IsWithin f.count (λ v. strong d out (slot_of out value) i v)
