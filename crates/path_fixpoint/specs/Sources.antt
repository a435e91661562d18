-- Which roots of a value mark a net.
use Rattle.std.specs.Prelude.{◌≡◌, ℕ, ◌+◌, ◌<◌, ◌≤◌, ◌⊎◌, Bool, true, false, List}
use Rattle.node_pool.specs.declared.region.Span.{Span}
use Rattle.bdd_core.specs.Diagram.{Valuation}
use Rattle.bdd_core.specs.Store.{Diagrams}
use Rattle.vrt_model.specs.Levels.{source_level}
use Rattle.vrt_model.specs.Lists.{At}
use Rattle.vrt_model.specs.Path.{level_of_drive}
use Rattle.vrt_model.specs.declared.circuit.Circuit.{Circuit}
use Rattle.vrt_model.specs.declared.circuit.Hold.{Hold}
use Rattle.vrt_model.specs.declared.whole.WholePin.{WholePin}
use Rattle.channel_parts.specs.declared.part.Part.{Part}
use Rattle.path_fixpoint.specs.declared.words.NetWords.{NetWords}
use Rattle.path_fixpoint.specs.Parts.{IsGiven, IsPlace}
use Rattle.path_fixpoint.specs.Reaching.{slot_of}
use Rattle.path_fixpoint.specs.Strengths.{StrongGrows, strong, word_of}
use Rattle.bdd_core.specs.Words.{shows}

-- at v the root whose handle stands at that place has the value, and the net at place i is no stronger than the root
abbrev pub IsOpen : Span → NetWords → Bool → ℕ → ℕ → Diagrams → ℕ → Valuation → Type 0
IsOpen roots out value at size d i v = (shows d roots at v ≡ value) × (size < out.source → strong d out (size + 1) i v ≡ false)

-- the roots, by net, place of the handle and level, mark the nets where they are open, and no others are marked
pub record AddsRoots (part : Part) (roots : Span) (out : NetWords) (value : Bool) (IsSource : ℕ → ℕ → ℕ → Type 0) (old new : Diagrams) : Type 0 where
  pub grown : StrongGrows out (slot_of out value) old new
  pub marked : (n at size : ℕ) → IsSource n at size → (i : ℕ) → IsPlace part i n → (v : Valuation) → IsOpen roots out value at size old i v → strong new out (slot_of out value) i v ≡ true
  pub only : (i : ℕ) → word_of out (slot_of out value) i < out.span.len → (v : Valuation) → strong new out (slot_of out value) i v ≡ true
      → (strong old out (slot_of out value) i v ≡ true)
      ⊎ ((n : ℕ) × (at : ℕ) × (size : ℕ) × IsSource n at size × IsPlace part i n × IsOpen roots out value at size old i v)

-- a given net of the part
abbrev pub IsGivenSource : Circuit → Part → ℕ → ℕ → ℕ → Type 0
IsGivenSource c part n at size = ((i : ℕ) × IsPlace part i n) × IsGiven c n × (at ≡ n) × (size ≡ source_level c)

-- a hold
abbrev pub IsHoldSource : Circuit → ℕ → ℕ → ℕ → Type 0
IsHoldSource c n at size = (k : ℕ) × (hold : Hold) × At c.holds k hold × (hold.net.0 ≡ n) × (at ≡ n) × (hold.size ≡ size)

-- the level of an output pin is one of roots, where a soft one has the source level
abbrev pub HasDriveLevel : ℕ → WholePin → Type 0
HasDriveLevel source pin = (1 ≤ level_of_drive source pin.drive) × (level_of_drive source pin.drive ≤ source)

-- one of these output pins, whose handles stand one behind the other from a place on
abbrev pub IsPinSource : ℕ → List WholePin → ℕ → ℕ → ℕ → ℕ → Type 0
IsPinSource source pins first n at size = (k : ℕ) × (pin : WholePin) × At pins k pin × (pin.net.0 ≡ n) × (at ≡ first + k) × (level_of_drive source pin.drive ≡ size)
