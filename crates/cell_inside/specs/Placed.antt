-- The flat circuit of a cell that stands in another circuit: its nets and devices are there, and the circuit's other devices
-- and the output pins of whole instances are at its exposed nets alone, and not above the drives of these.
use Rattle.std.specs.Prelude.{◌≡◌, ℕ, ◌<◌, ◌≤◌, ◌⊎◌, Bool, true, false, []}
use Rattle.cell_inside.specs.Inside.{HasFight, HasSameReaches, HasSameStrengths, KeepsReaches, Touches}
use Rattle.vrt_model.specs.Levels.{source_level}
use Rattle.vrt_model.specs.Known.{IsHeld, IsPlain, is_plain_at}
use Rattle.vrt_model.specs.Lists.{Among, At}
use Rattle.vrt_model.specs.Networks.{HasRanges}
use Rattle.vrt_model.specs.Path.{Network, level_of_drive}
use Rattle.vrt_model.specs.Reading.{IsReading}
use Rattle.vrt_model.specs.Response.{IsStrength}
use Rattle.vrt_model.specs.State.{OutputPin, State, network_of, output_pins}
use Rattle.vrt_model.specs.declared.circuit.Circuit.{Circuit}
use Rattle.vrt_model.specs.declared.circuit.Device.{Device}
use Rattle.vrt_model.specs.declared.circuit.FlatNet.{FlatNet}
use Rattle.vrt_model.specs.declared.circuit.NetKind.TheVariants.{Supply}
use Rattle.vrt_model.specs.declared.rules.Phase.{Phase}

-- the net is a supply with this bit
abbrev pub IsSupply : Circuit → ℕ → Bool → Type 0
IsSupply c n value = (net : FlatNet) × At c.nets n net × (net.kind ≡ Supply value)

-- the second device is the first one in the circuit: gate and channel are at the nets that those of the first are there
pub record IsImage (at : ℕ → ℕ) (d e : Device) : Type 0 where
  pub kind : e.kind ≡ d.kind
  pub gate : e.gate.0 ≡ at d.gate.0
  pub left : e.left.0 ≡ at d.left.0
  pub right : e.right.0 ≡ at d.right.0
  pub level : e.level ≡ d.level
  pub keeper : e.keeper ≡ d.keeper

-- the cell stands in the circuit c, its net n at `at n`; its exposed nets meet more than gates outside, and each has a drive
pub record IsPlaced (cell c : Circuit) (at : ℕ → ℕ) (exposed : ℕ → Bool) (drive : ℕ → ℕ) : Type 0 where
  -- both have one source level
  pub source : source_level cell ≡ source_level c
  -- the cell has no hold and no whole instance
  pub no_holds : cell.holds ≡ []
  pub no_wholes : cell.wholes ≡ []
  -- its channels are at plain nets and at supplies, which are such in the circuit too
  pub channels : (d : Device) (n : ℕ) → Among cell.devices d → Touches d n → IsPlain cell n ⊎ ((value : Bool) × IsSupply cell n value)
  pub supplies : (n : ℕ) (value : Bool) → IsSupply cell n value → IsSupply c (at n) value
  pub plain : (n : ℕ) → IsPlain cell n → IsPlain c (at n)
  pub exposed_plain : (n : ℕ) → exposed n ≡ true → IsPlain cell n
  -- its devices are there; another device whose channel is at one of its nets is at an exposed one, and not above its drive
  pub there : (d : Device) → Among cell.devices d → (e : Device) × Among c.devices e × IsImage at d e
  pub others :
      (e : Device) (n : ℕ) → Among c.devices e → IsPlain cell n → Touches e (at n)
      → ((d : Device) × Among cell.devices d × IsImage at d e) ⊎ ((exposed n ≡ true) × (e.level ≤ drive n))
  -- no hold is at its plain nets, and output pins are at exposed ones alone, and not above their drives
  pub unheld : (n : ℕ) → IsPlain cell n → ¬ (IsHeld c (at n))
  pub pins :
      (out : OutputPin) (n : ℕ) → Among (output_pins c) out → IsPlain cell n → out.pin.net.0 ≡ at n
      → (exposed n ≡ true) × (level_of_drive (source_level c) out.pin.drive ≤ drive n)
  pub pins_plain : (out : OutputPin) → Among (output_pins c) out → IsPlain c out.pin.net.0
  -- two plain nets are one in the circuit only where both are exposed, with the same drive
  pub apart : (m n : ℕ) → IsPlain cell m → IsPlain cell n → at m ≡ at n → (m ≡ n) ⊎ ((exposed m ≡ true) × (exposed n ≡ true) × (drive m ≡ drive n))

-- the network of the cell alone, its gates with the bits that a state of the circuit gives them
abbrev pub alone : Circuit → Bool → (ℕ → ℕ) → State → Network
alone cell bare at s = network_of cell bare (λ place. false) (record { reading = λ n. s.reading (at n); driven = λ place. false })

-- The law: in each state of the circuit each plain net of the cell has the strength that it has in the cell alone, what
-- reaches it there reaches it in the circuit, and nothing else does, unless some exposed net fights.
abbrev pub PlacedCellStandsAlone : Type 0
PlacedCellStandsAlone =
    (cell c : Circuit) (at : ℕ → ℕ) (exposed : ℕ → Bool) (drive : ℕ → ℕ) (phase : Phase) (inputs held : ℕ → Bool) (bare : Bool) (s : State)
    → HasRanges cell → HasRanges c → IsPlaced cell c at exposed drive → IsReading c phase inputs s.reading
    → ((n : ℕ) → exposed n ≡ true → IsStrength (alone cell bare at s) n (drive n) × (0 < drive n))
    → HasSameStrengths (alone cell bare at s) (network_of c bare held s) at (is_plain_at cell)
    × KeepsReaches (alone cell bare at s) (network_of c bare held s) at (is_plain_at cell)
    × (HasFight (network_of c bare held s) at exposed ⊎ HasSameReaches (alone cell bare at s) (network_of c bare held s) at (is_plain_at cell))
