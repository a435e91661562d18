-- Where the marks of a level begin: at the marks of the level above, and at the roots.
use Rattle.std.specs.Prelude.{◌≡◌, ◌≢◌, ℕ, ◌+◌, ◌<◌, ◌≤◌, ◌⊎◌, List}
use Rattle.bdd_core.specs.Store.{Diagrams}
use Rattle.vrt_model.specs.Levels.{source_level}
use Rattle.vrt_model.specs.Lists.{At, Among}
use Rattle.vrt_model.specs.Path.{level_of_drive}
use Rattle.vrt_model.specs.declared.circuit.Circuit.{Circuit}
use Rattle.vrt_model.specs.declared.circuit.Device.{Device}
use Rattle.vrt_model.specs.declared.circuit.Hold.{Hold}
use Rattle.vrt_model.specs.declared.whole.WholePin.{WholePin}
use Rattle.channel_parts.specs.declared.part.Part.{Part}
use Rattle.path_fixpoint.specs.declared.words.NetWords.{NetWords}
use Rattle.path_fixpoint.specs.Parts.{IsGiven, IsPlace, part_devices, pins_of}
use Rattle.path_fixpoint.specs.Strengths.{word_of}
use Rattle.bdd_core.specs.Words.{word_at}

-- the word of the net at place i for a level
abbrev pub mark_of : Diagrams → NetWords → ℕ → ℕ → ℕ
mark_of d out level i = word_at d out.span (word_of out level i)

-- the words of a level are those of the level above, and 0 at the source level
abbrev pub TakesAbove : NetWords → ℕ → Diagrams → Diagrams → ℕ → Type 0
TakesAbove out level old new i = (level < out.source → mark_of new out level i ≡ mark_of old out (level + 1) i) × (level ≡ out.source → mark_of new out level i ≡ 0)

-- each mark is as before, or the constant 1 by a cause
abbrev pub OnlyBy : NetWords → ℕ → (ℕ → Type 0) → Diagrams → Diagrams → Type 0
OnlyBy out level IsCause old new = (i : ℕ) → (mark_of new out level i ≡ mark_of old out level i) ⊎ ((mark_of new out level i ≡ 1) × IsCause i)

-- a hold of at least this level at place i
abbrev pub IsHoldAt : Circuit → Part → ℕ → ℕ → Type 0
IsHoldAt c part level i = (at : ℕ) × (hold : Hold) × At c.holds at hold × (level ≤ hold.size) × IsPlace part i hold.net.0

-- one of these output pins of at least this level at place i, where a soft one has the source level
abbrev pub IsPinAt : ℕ → Part → List WholePin → ℕ → ℕ → Type 0
IsPinAt source part pins level i = (pin : WholePin) × Among pins pin × (level ≤ level_of_drive source pin.drive) × IsPlace part i pin.net.0

-- a net with a given value at place i
abbrev pub IsGivenAt : Circuit → Part → ℕ → Type 0
IsGivenAt c part i = (n : ℕ) × IsPlace part i n × IsGiven c n

-- no device of the part has exactly this level
abbrev pub NoDeviceHas : Circuit → Part → ℕ → Type 0
NoDeviceHas c part level = (d : Device) → Among (part_devices c part) d → d.level ≢ level

-- no hold has exactly this level
abbrev pub NoHoldHas : Circuit → ℕ → Type 0
NoHoldHas c level = (at : ℕ) (hold : Hold) → At c.holds at hold → hold.size ≢ level

-- none of these output pins has exactly this level, where a soft one has the source level
abbrev pub NoPinHas : ℕ → List WholePin → ℕ → Type 0
NoPinHas source pins level = (pin : WholePin) → Among pins pin → level_of_drive source pin.drive ≢ level

-- a level below the source level that no device of the part, no hold and no output pin has
abbrev pub IsUnused : Circuit → Part → ℕ → Type 0
IsUnused c part level = (level < source_level c) × NoDeviceHas c part level × NoHoldHas c level × NoPinHas (source_level c) (pins_of c) level
