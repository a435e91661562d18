-- A cell that stands in a circuit, at one reading: two networks, that of the cell alone and that of the circuit with the cell
-- in it. The net n of the cell is the net `at n` of the circuit. An output is exposed where it meets more than gates outside.
use Rattle.std.specs.Prelude.{◌≡◌, ℕ, ◌<◌, ◌≤◌, ◌⊎◌, ◌↔◌, Bool, true, false, List, [], ◌∷◌}
use Rattle.vrt_model.specs.Networks.{HasLevels, IsFinite}
use Rattle.vrt_model.specs.Path.{Hop, IsOn, IsPath, IsRoot, Network, Root, end_of, level_of}
use Rattle.vrt_model.specs.Response.{IsStrength, Reaches}
use Rattle.vrt_model.specs.declared.circuit.Device.{Device}

-- ---- what is inside and what is outside

-- the second device has the level of the first one, and its channel joins the nets that those of the first are in the circuit
abbrev pub IsCopy : (ℕ → ℕ) → Device → Device → Type 0
IsCopy at d e = (e.level ≡ d.level) × (e.left.0 ≡ at d.left.0) × (e.right.0 ≡ at d.right.0)

-- an end of the device's channel is at the net
abbrev pub Touches : Device → ℕ → Type 0
Touches d n = (d.left.0 ≡ n) ⊎ (d.right.0 ≡ n)

-- the net is a source of this value, and of no other
pub record IsSourceOf (w : Network) (n : ℕ) (v : Bool) : Type 0 where
  pub root : Root
  pub is : IsRoot w root
  pub net : root.net ≡ n
  pub level : root.level ≡ w.source
  pub value : root.value ≡ v
  pub only : (other : Root) → IsRoot w other → other.net ≡ n → other.level ≡ w.source → other.value ≡ v

-- a net that is a source of one and the same value in the cell alone and in the circuit, as a supply is
pub record IsShared (cell circuit : Network) (at : ℕ → ℕ) (n : ℕ) : Type 0 where
  pub value : Bool
  pub alone : IsSourceOf cell n value
  pub above : IsSourceOf circuit (at n) value

-- the device of the circuit is no copy of a conducting device of the cell
abbrev pub IsOutside : Network → (ℕ → ℕ) → Device → Type 0
IsOutside cell at e = (d : Device) → IsOn cell d → IsCopy at d e → ⊥

-- a path comes from outside where it is a root alone, or its last device is outside
abbrev pub ComesFromOutside : Network → (ℕ → ℕ) → List Hop → Type 0
ComesFromOutside cell at [] = Unit {0}
ComesFromOutside cell at (hop ∷ hops) = IsOutside cell at hop.device

-- how the cell stands in the circuit: its nets inside, which of these are exposed, and how strong the cell alone makes each
-- exposed one, which is its drive
pub record IsInside (cell circuit : Network) (at : ℕ → ℕ) (inside exposed : ℕ → Bool) (drive : ℕ → ℕ) : Type 0 where
  pub source : cell.source ≡ circuit.source
  -- no path of the cell begins inside, and its devices join nets inside and shared sources
  pub no_root : (root : Root) → IsRoot cell root → inside root.net ≡ true → ⊥
  pub bounded : (d : Device) (n : ℕ) → IsOn cell d → Touches d n → (inside n ≡ true) ⊎ IsShared cell circuit at n
  -- each device of the cell is in the circuit
  pub there : (d : Device) → IsOn cell d → (e : Device) × IsOn circuit e × IsCopy at d e
  -- devices and roots outside are at no nets inside but exposed ones
  pub exposed_inside : (n : ℕ) → exposed n ≡ true → inside n ≡ true
  pub devices : (e : Device) (n : ℕ) → IsOn circuit e → IsOutside cell at e → inside n ≡ true → Touches e (at n) → exposed n ≡ true
  pub roots : (root : Root) (n : ℕ) → IsRoot circuit root → inside n ≡ true → root.net ≡ at n → exposed n ≡ true
  -- two nets are one in the circuit only where both are exposed, with the same drive
  pub apart :
      (d : Device) (m n : ℕ) → IsOn cell d → Touches d m → inside n ≡ true → at m ≡ at n
      → (m ≡ n) ⊎ ((exposed m ≡ true) × (exposed n ≡ true) × (drive m ≡ drive n))
  -- the drive of an exposed net is its strength in the cell alone, and no path from outside comes to it above that
  pub drives : (n : ℕ) → exposed n ≡ true → IsStrength cell n (drive n) × (0 < drive n)
  pub not_above :
      (root : Root) (hops : List Hop) (n : ℕ) → IsPath circuit root hops → ComesFromOutside cell at hops → exposed n ≡ true
      → end_of root hops ≡ at n → level_of root hops ≤ drive n

-- ---- what is compared

-- both values reach some exposed net
abbrev pub HasFight : Network → (ℕ → ℕ) → (ℕ → Bool) → Type 0
HasFight circuit at exposed = (n : ℕ) × (exposed n ≡ true) × Reaches circuit (at n) true × Reaches circuit (at n) false

-- each net of a set has the same strength in both networks
abbrev pub HasSameStrengths : Network → Network → (ℕ → ℕ) → (ℕ → Bool) → Type 0
HasSameStrengths w x at set = (n s : ℕ) → set n ≡ true → IsStrength w n s ↔ IsStrength x (at n) s

-- what reaches a net of the set in the first network reaches it in the second
abbrev pub KeepsReaches : Network → Network → (ℕ → ℕ) → (ℕ → Bool) → Type 0
KeepsReaches w x at set = (n : ℕ) (v : Bool) → set n ≡ true → Reaches w n v → Reaches x (at n) v

-- exactly the same values reach each net of the set in both
abbrev pub HasSameReaches : Network → Network → (ℕ → ℕ) → (ℕ → Bool) → Type 0
HasSameReaches w x at set = (n : ℕ) (v : Bool) → set n ≡ true → Reaches w n v ↔ Reaches x (at n) v

-- The law: what comes from outside changes no strength inside, and takes away nothing that reaches a net inside; and nothing
-- else reaches one, unless both values reach some exposed output.
abbrev pub OutsideChangesNothing : Type 0
OutsideChangesNothing =
    (cell circuit : Network) (at : ℕ → ℕ) (inside exposed : ℕ → Bool) (drive : ℕ → ℕ) (nets all_nets : ℕ)
    → HasLevels cell → HasLevels circuit → IsFinite cell nets cell.source → IsFinite circuit all_nets circuit.source
    → ((n : ℕ) → exposed n ≡ true → n < nets)
    → IsInside cell circuit at inside exposed drive
    → HasSameStrengths cell circuit at inside × KeepsReaches cell circuit at inside × (HasFight circuit at exposed ⊎ HasSameReaches cell circuit at inside)
