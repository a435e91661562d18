-- Where the values reach the nets of a part, and handles of functions over the variables that stand for what it reads.
use Rattle.std.specs.Prelude.{ℕ, ◌+◌, ◌-◌, ◌*◌, ◌^◌, ◌≤◌, ◌||◌, Bool, not, Option, Some, None, length}
use Rattle.bdd_core.specs.Diagram.{Function, IsWithin}
use Rattle.bdd_core.specs.Store.{Diagrams, IsLive, function_of}
use Rattle.bdd_core.specs.declared.handle.H.{H}
use Rattle.channel_parts.specs.declared.part.Part.{Part}
use Rattle.node_pool.specs.declared.region.Span.{Span}
use Rattle.part_functions.specs.Small.{IsSmall}
use Rattle.vrt_model.specs.declared.circuit.Circuit.{Circuit}
use Rattle.circuit_faults.specs.Scans.{Reach, reached}
use Rattle.part_functions.specs.Inner.{AreLive, AreWithin, composed_of}
use Rattle.part_functions.specs.declared.few.PartFunctions.{PartFunctions}
use Rattle.path_fixpoint.specs.Spending.{solving_operations}
use Rattle.path_fixpoint.specs.declared.words.NetWords.{NetWords}

abbrev pub nor_of : Function → Function → Function
nor_of f g = λ v. not (f v || g v)

-- a live handle of a function over the variables that stand for live functions, of which there are at most six
pub record IsInner (functions : PartFunctions) (d : Diagrams) (h : H) : Type 0 where
  pub live : IsLive d h
  pub within : IsWithin functions.count (function_of d h)
  pub few : functions.count ≤ 6
  pub there : AreLive functions d

-- where the values reach the nets: the words say it, or say it over the variables that stand for functions
abbrev pub reach_of : Option PartFunctions → Diagrams → NetWords → Reach
reach_of None d out value i = reached d out value i
reach_of (Some functions) d out value i = composed_of functions d (reached d out value i)

-- the words for the net at a place read only the variables that stand for functions
abbrev pub AreReady : Option PartFunctions → Diagrams → NetWords → ℕ → Type 0
AreReady None d out i = Unit {0}
AreReady (Some functions) d out i = (functions.count ≤ 6) × AreLive functions d × ((value : Bool) → IsWithin functions.count (reached d out value i))

-- the functions that stand behind variables read only the first u variables, and are at most as many
abbrev pub AreFewAt : ℕ → Option PartFunctions → Diagrams → Type 0
AreFewAt u None d = Unit {0}
AreFewAt u (Some functions) d = (functions.count ≤ u) × AreWithin u functions d

-- a part may be solved so
abbrev pub IsWay : Option PartFunctions → Circuit → Part → Span → Span → Diagrams → Type 0
IsWay None c part gates roots d = Unit {0}
IsWay (Some functions) c part gates roots d = IsSmall functions c part gates roots d

-- ---- operations

-- to solve it takes at most so many operations: over the variables that stand for functions, each has at most half as many nodes
abbrev pub IsSolvedBy : ℕ → Option PartFunctions → Circuit → Part → Type 0
IsSolvedBy operations None c part = solving_operations c part ≤ operations
IsSolvedBy operations (Some functions) c part = length part.devices + solving_operations c part ≤ 2 * operations

-- to find the first fault of a net
abbrev pub fault_operations : Option PartFunctions → ℕ
fault_operations None = 4
fault_operations (Some functions) = 2 * 2 ^ functions.count + 3

-- to find its bit
abbrev pub bit_operations : Option PartFunctions → ℕ
bit_operations None = 0
bit_operations (Some functions) = 2 ^ functions.count - 1

abbrev pub scan_operations : Option PartFunctions → ℕ
scan_operations way = fault_operations way + bit_operations way
