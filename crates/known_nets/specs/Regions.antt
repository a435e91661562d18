-- Regions: the plain nets that devices known to conduct join to a net. A region is shut where all gates at it are known,
-- it has no hold and no output of a whole instance, and no device joins it to an input.
use Rattle.std.specs.Prelude.{◌≡◌, ℕ, ◌⊎◌, ◌↔◌, nat_lt, Bool, true, false, List, [], length, None, Option, Some, slice_index, unwrap_or}
use Rattle.known_nets.specs.Conduction.{conduction_of, is_input_at}
use Rattle.known_nets.specs.KnownTables.{HasGateBits, known_at}
use Rattle.known_nets.specs.Spreads.{AreListed, AreNone, IsKnownOn, IsSpread}
use Rattle.known_nets.specs.declared.signals.Tables.{Tables}
use Rattle.known_nets.specs.declared.spread.Spread.TheVariants.{Strength, Value}
use Rattle.vrt_model.specs.Known.{IsDriven, IsHeld, IsPlain, IsShut}
use Rattle.vrt_model.specs.Lists.{At, Among, mark_at}
use Rattle.vrt_model.specs.Path.{Joins, Network}
use Rattle.vrt_model.specs.Reading.{IsReading, is_in}
use Rattle.vrt_model.specs.Response.{IsResponse, Shows}
use Rattle.vrt_model.specs.State.{network_of}
use Rattle.vrt_model.specs.declared.circuit.Circuit.{Circuit}
use Rattle.vrt_model.specs.declared.circuit.Device.{Device}
use Rattle.vrt_model.specs.declared.circuit.FlatNet.{FlatNet}
use Rattle.vrt_model.specs.declared.circuit.NetKind.TheVariants.{Input}
use Rattle.vrt_model.specs.declared.rules.Phase.{Phase}

-- whether a net has an amount
abbrev pub has_amount : List ℕ → ℕ → Bool
has_amount table n = nat_lt 0 (slice_index table n)

abbrev pub IsInput : Circuit → ℕ → Type 0
IsInput c n = (net : FlatNet) × At c.nets n net × (net.kind ≡ Input)

-- a set of plain nets that devices known to conduct join to no further plain net
pub record IsRegion (c : Circuit) (known : List (Option Bool)) (inside : ℕ → Bool) : Type 0 where
  pub plain : (n : ℕ) → inside n ≡ true → IsPlain c n
  pub closed : (m n : ℕ) (d : Device) → inside m ≡ true → IsKnownOn c known d → Joins d m n → IsPlain c n → inside n ≡ true

-- the net has no hold and no output of a whole instance, each gate at it is known, and what is known to conduct joins it to no input
pub record IsShutAt (c : Circuit) (known : List (Option Bool)) (n : ℕ) : Type 0 where
  pub free : ¬ IsHeld c n
  pub idle : ¬ IsDriven c n
  pub gates : (m : ℕ) (d : Device) → Among c.devices d → is_in true d ≡ true → Joins d n m → (on : Bool) × (conduction_of known d ≡ Some on)
  pub ends : (m : ℕ) (d : Device) → IsKnownOn c known d → Joins d n m → ¬ IsInput c m

-- a device at the net is known to conduct or not, and leads to no input where it does
abbrev pub KeepsShut : Circuit → List (Option Bool) → ℕ → Device → Type 0
KeepsShut c known n d =
    is_in true d ≡ true → (m : ℕ) → Joins d n m → ((conduction_of known d ≡ Some true) × (is_input_at c m ≡ false)) ⊎ (conduction_of known d ≡ Some false)

-- or else its gate is not known, or it conducts and leads to an input
abbrev pub KeepsOpen : Circuit → List (Option Bool) → ℕ → Device → Type 0
KeepsOpen c known n d =
    (is_in true d ≡ true) × ((m : ℕ) × Joins d n m × ((conduction_of known d ≡ None) ⊎ ((conduction_of known d ≡ Some true) × (is_input_at c m ≡ true))))

-- the set has both nets or neither, where it is shut and its gates are known
abbrev pub GoTogether : Circuit → Phase → List (Option Bool) → ℕ → ℕ → Type 0
GoTogether c phase known m n =
    (inside reading : ℕ → Bool) → IsShut c phase inside reading → HasGateBits c (known_at known) inside reading → (inside m ≡ true) ↔ (inside n ≡ true)

-- no shut set whose gates are known has the net
abbrev pub IsOpenAt : Circuit → Phase → List (Option Bool) → ℕ → Type 0
IsOpenAt c phase known n =
    (inside reading : ℕ → Bool) → IsShut c phase inside reading → HasGateBits c (known_at known) inside reading → ¬ (inside n ≡ true)

-- the known bits, and 0 at the other nets
abbrev pub reading_of : List (Option Bool) → ℕ → Bool
reading_of known n = unwrap_or (known_at known n) false

-- the bare circuit where the known nets have their bits
abbrev pub known_network : Circuit → List (Option Bool) → Network
known_network c known = network_of c true (λ k. false) (record { reading = reading_of known; driven = λ k. false })

-- each net that shows one bit in a shut set whose gates are known, and which has no marked net, is known
abbrev pub IsSettled : Circuit → Phase → List (Option Bool) → List Bool → Type 0
IsSettled c phase known pending =
    (inside reading held driven : ℕ → Bool) → IsShut c phase inside reading → IsReading c phase reading reading → HasGateBits c (known_at known) inside reading
    → ((n : ℕ) → inside n ≡ true → mark_at pending n ≡ false)
    → (n : ℕ) (v : Bool) → inside n ≡ true → IsResponse (network_of c true held (record { reading = reading; driven = driven })) n (Shows v)
    → known_at known n ≡ Some v

-- the ends of the devices that newly known nets gate are marked
abbrev pub HasMarkedEnds : Circuit → List (Option Bool) → List (Option Bool) → List Bool → Type 0
HasMarkedEnds c old new pending =
    (d : Device) (m n : ℕ) → Among c.devices d → Joins d m n → IsPlain c m → known_at old d.gate.0 ≡ None → (v : Bool) → known_at new d.gate.0 ≡ Some v → mark_at pending m ≡ true

-- no net has an amount in a table
pub record AreZero (count : ℕ) (tables : Tables) : Type 0 where
  pub levels : AreNone count tables.levels
  pub zeros : AreNone count tables.zeros
  pub ones : AreNone count tables.ones

-- each table has an entry for each net, and each net with an amount was met
pub record AreRaised (count : ℕ) (tables : Tables) : Type 0 where
  pub levels_size : length tables.levels.table.items ≡ count
  pub zeros_size : length tables.zeros.table.items ≡ count
  pub ones_size : length tables.ones.table.items ≡ count
  pub levels : AreListed tables.levels
  pub zeros : AreListed tables.zeros
  pub ones : AreListed tables.ones

-- what spreads over some nets: the strengths from given nets, and over these each value
pub record AreRegionSignals (c : Circuit) (known : List (Option Bool)) (nets : List ℕ) (tables : Tables) : Type 0 where
  pub strengths : IsSpread Strength c known [] nets tables.levels.table.items
  pub zeros : IsSpread (Value false) c known tables.levels.table.items nets tables.zeros.table.items
  pub ones : IsSpread (Value true) c known tables.levels.table.items nets tables.ones.table.items

-- the marks are those from before, but at the nets of a list
abbrev pub HasKept : List ℕ → List Bool → List Bool → Type 0
HasKept nets old new = (n : ℕ) → mark_at old n ≡ true → (mark_at new n ≡ true) ⊎ Among nets n
