-- The devices of a circuit by net: those whose channels end there, and those that the net gates; and the nets with holds or
-- outputs of whole instances.
use Rattle.std.specs.Prelude.{◌≡◌, ℕ, ◌<◌, ◌⊎◌, ◌↔◌, Bool, true, List, None, Option, Some, length}
use Rattle.graphs.specs.Graphs.{ArcIn}
use Rattle.known_nets.specs.declared.incidence.Incidence.{Incidence}
use Rattle.vrt_model.specs.Known.{IsDriven, IsHeld}
use Rattle.vrt_model.specs.Lists.{At, mark_at}
use Rattle.vrt_model.specs.Path.{Joins}
use Rattle.vrt_model.specs.declared.circuit.Circuit.{Circuit}
use Rattle.vrt_model.specs.declared.circuit.Device.{Device}

-- the numbers of the devices before a place, at each net of their channels
abbrev pub HasEnds : Circuit → ℕ → List (List ℕ) → Type 0
HasEnds c bound ends = (k : ℕ) (d : Device) → k < bound → At c.devices k d → (m n : ℕ) → Joins d m n → n < length ends → ArcIn ends k n

-- the numbers of the devices before a place, at the nets that gate them
abbrev pub HasGates : Circuit → ℕ → List (List ℕ) → Type 0
HasGates c bound gates = (k : ℕ) (d : Device) → k < bound → At c.devices k d → d.gate.0 < length gates → ArcIn gates k d.gate.0

-- the marks are at exactly the nets with holds
abbrev pub AreHeldMarks : Circuit → List Bool → Type 0
AreHeldMarks c held = (n : ℕ) → (mark_at held n ≡ true) ↔ IsHeld c n

-- the marks are at exactly the nets with holds and those with outputs of whole instances
abbrev pub AreRootMarks : Circuit → List Bool → Type 0
AreRootMarks c rooted = (n : ℕ) → (mark_at rooted n ≡ true) ↔ (IsHeld c n ⊎ IsDriven c n)

-- the net at the other end of the channel of a device, if it has the net at one
abbrev pub IsOtherEnd : Device → ℕ → Option ℕ → Type 0
IsOtherEnd d n None = (m : ℕ) → Joins d n m → ⊥
IsOtherEnd d n (Some end) = Joins d n end × ((m : ℕ) → Joins d n m → m ≡ end)

-- the devices of a circuit by net, and its nets with holds or outputs of whole instances
pub record IsIncidence (c : Circuit) (by : Incidence) : Type 0 where
  pub count : length by.ends.items ≡ length c.nets
  pub ends : HasEnds c (length c.devices) by.ends.items
  pub gate_count : length by.gates.items ≡ length c.nets
  pub gates : HasGates c (length c.devices) by.gates.items
  pub roots : AreRootMarks c by.rooted.items
