-- Parts that may be solved over the functions that they read.
use Rattle.std.specs.Prelude.{◌≡◌, ℕ, ◌<◌, ◌≤◌, ◌⊎◌, List, length}
use Rattle.node_pool.specs.declared.region.Span.{Span}
use Rattle.bdd_core.specs.Store.{Diagrams}
use Rattle.bdd_core.specs.Words.{word_at}
use Rattle.channel_parts.specs.declared.part.Part.{Part}
use Rattle.path_fixpoint.specs.Parts.{IsGiven, IsPlace, part_devices, pins_of}
use Rattle.vrt_model.specs.Lists.{Among, At}
use Rattle.vrt_model.specs.declared.circuit.Circuit.{Circuit}
use Rattle.vrt_model.specs.declared.circuit.Device.{Device}
use Rattle.vrt_model.specs.declared.circuit.Hold.{Hold}
use Rattle.vrt_model.specs.declared.whole.WholePin.{WholePin}
use Rattle.vrt_model.specs.declared.ids.Dev.{Dev}
use Rattle.vrt_model.specs.declared.ids.Net.{Net}
use Rattle.part_functions.specs.Inner.{AreWithin, HasHandle, IsList, handle_at}
use Rattle.part_functions.specs.declared.few.PartFunctions.{PartFunctions}

-- the device of a part at a place
abbrev pub IsDeviceAt : Circuit → Part → ℕ → Device → Type 0
IsDeviceAt c part i d = (dev : Dev) × At part.devices i dev × At c.devices dev.0 d

-- a given net at the channel of a device of the part
abbrev pub IsEnd : Circuit → Part → ℕ → Type 0
IsEnd c part n = (d : Device) × Among (part_devices c part) d × ((d.left.0 ≡ n) ⊎ (d.right.0 ≡ n)) × IsGiven c n

-- the net is one of the part
abbrev pub IsInside : Part → ℕ → Type 0
IsInside part n = (i : ℕ) × IsPlace part i n

-- none of these stands at a net of the part
abbrev pub AreOutside : {A : Type 0} → Part → (A → Net) → List A → Type 0
AreOutside {A} part net_of xs = (x : A) → Among xs x → ¬ IsInside part (net_of x).0

-- no root stands at a net of the part: no given value, no hold and no output of a whole instance
pub record IsRootless (c : Circuit) (part : Part) : Type 0 where
  pub given : (n : ℕ) → IsInside part n → ¬ IsGiven c n
  pub holds : AreOutside part (λ (hold : Hold). hold.net) c.holds
  pub pins : AreOutside part (λ (pin : WholePin). pin.net) (pins_of c)

-- the handles at the gates of a part are those of constants, or of a few functions, no more than its devices, and those of its ends of
-- constants
pub record ReadsFew (f : PartFunctions) (c : Circuit) (part : Part) (gates roots : Span) (d : Diagrams) : Type 0 where
  pub list : IsList f
  pub no_more : f.count ≤ length part.devices
  pub at_gates : (dev : Device) → Among (part_devices c part) dev → HasHandle f (word_at d gates dev.gate.0)
  pub ends : (n : ℕ) → IsEnd c part n → word_at d roots n < 2
  -- each function stands at a gate
  pub from : (x : ℕ) → (handle_at f x < 2) ⊎ ((n : ℕ) × (n < gates.len) × (handle_at f x ≡ word_at d gates n))

-- such a part has few devices, and no root at its nets; and the functions read more variables than there are functions
pub record IsSmall (f : PartFunctions) (c : Circuit) (part : Part) (gates roots : Span) (d : Diagrams) : Type 0 where
  pub reads : ReadsFew f c part gates roots d
  pub rootless : IsRootless c part
  pub few : length part.devices ≤ 24
  pub some : 1 ≤ length part.nets
  pub many : (u : ℕ) → AreWithin u f d → f.count < u
