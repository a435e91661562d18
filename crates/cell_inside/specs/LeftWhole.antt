-- A circuit with a cell in it, and the circuit in which this instance is left whole, in states that correspond.
use Rattle.std.specs.Prelude.{◌≡◌, ℕ, ◌<◌, ◌⊎◌, Bool, true}
use Rattle.cell_inside.specs.Inside.{HasSameReaches, HasSameStrengths, Touches}
use Rattle.cell_inside.specs.Placed.{IsImage, IsPlaced, alone}
use Rattle.cell_inside.specs.Replaced.{AreUnjoined, FightsBeside}
use Rattle.vrt_model.specs.Levels.{source_level}
use Rattle.vrt_model.specs.Known.{IsPlain, is_plain_at}
use Rattle.vrt_model.specs.Lists.{Among, At}
use Rattle.vrt_model.specs.Networks.{HasRanges}
use Rattle.vrt_model.specs.Path.{level_of_drive}
use Rattle.vrt_model.specs.Reading.{IsReading}
use Rattle.vrt_model.specs.Response.{IsStrength, Reaches}
use Rattle.vrt_model.specs.State.{OutputPin, State, network_of, output_pins}
use Rattle.vrt_model.specs.declared.circuit.Circuit.{Circuit}
use Rattle.vrt_model.specs.declared.circuit.Device.{Device}
use Rattle.vrt_model.specs.declared.circuit.FlatNet.{FlatNet}
use Rattle.vrt_model.specs.declared.circuit.Hold.{Hold}
use Rattle.vrt_model.specs.declared.rules.Phase.{Phase}

-- ---- what stays

-- a device that stays: its gate is at a net that remains, and its channel is at compared nets
pub record IsLeftDevice (moved : ℕ → ℕ) (remaining compared : ℕ → Bool) (d e : Device) : Type 0 where
  pub image : IsImage moved d e
  pub gate : remaining d.gate.0 ≡ true
  pub channels : (k : ℕ) → Touches d k → compared k ≡ true

-- a hold that stays, with its size, at a net that remains
pub record IsLeftHold (moved : ℕ → ℕ) (remaining : ℕ → Bool) (h g : Hold) : Type 0 where
  pub net : g.net.0 ≡ moved h.net.0
  pub size : g.size ≡ h.size
  pub stays : remaining h.net.0 ≡ true

-- an output pin of another whole instance, which stays with its drive
pub record IsLeftPin (moved : ℕ → ℕ) (remaining : ℕ → Bool) (out pin : OutputPin) : Type 0 where
  pub net : pin.pin.net.0 ≡ moved out.pin.net.0
  pub drive : pin.pin.drive ≡ out.pin.drive
  pub stays : remaining out.pin.net.0 ≡ true

-- an output pin of the cell itself, now whole, at a plain net of the cell; where that is exposed, the pin has its drive
pub record IsFreshPin (source : ℕ) (cell : Circuit) (at moved : ℕ → ℕ) (remaining exposed : ℕ → Bool) (drive : ℕ → ℕ) (n : ℕ) (pin : OutputPin) : Type 0 where
  pub plain : IsPlain cell n
  pub net : pin.pin.net.0 ≡ moved (at n)
  pub stays : remaining (at n) ≡ true
  pub level : exposed n ≡ true → level_of_drive source pin.pin.drive ≡ drive n

-- `whole_circuit` is the circuit c with the cell whole: which nets of c remain, the number `moved` of each there, and which of
-- them are compared (all but outputs of the cell that meet gates alone); the place of each output pin of c among the pins
-- there, and the place `fresh` of the pin of each exposed net of the cell
pub record IsLeftWhole (cell c whole_circuit : Circuit) (at moved place fresh : ℕ → ℕ) (remaining compared exposed : ℕ → Bool) (drive : ℕ → ℕ) : Type 0 where
  -- both have one source level
  pub source : source_level c ≡ source_level whole_circuit
  -- the nets that remain, with their kinds
  pub nets :
      (k : ℕ) (net : FlatNet) → remaining k ≡ true → At c.nets k net
      → (other : FlatNet) × At whole_circuit.nets (moved k) other × (other.kind ≡ net.kind)
  pub nets_back :
      (k : ℕ) (other : FlatNet) → remaining k ≡ true → At whole_circuit.nets (moved k) other
      → (net : FlatNet) × At c.nets k net × (net.kind ≡ other.kind)
  pub moved_apart : (k l : ℕ) → remaining k ≡ true → remaining l ≡ true → moved k ≡ moved l → k ≡ l
  -- compared nets remain; of the cell's plain nets exactly the exposed ones are compared
  pub compared_remaining : (k : ℕ) → compared k ≡ true → remaining k ≡ true
  pub exposed_compared : (n : ℕ) → exposed n ≡ true → compared (at n) ≡ true
  pub inside_compared : (n : ℕ) → IsPlain cell n → compared (at n) ≡ true → exposed n ≡ true
  -- each device is the cell's, or stays; and no other devices are there
  pub devices :
      (e : Device) → Among c.devices e
      → ((d : Device) × Among cell.devices d × IsImage at d e) ⊎ ((f : Device) × Among whole_circuit.devices f × IsLeftDevice moved remaining compared e f)
  pub devices_back : (f : Device) → Among whole_circuit.devices f → (e : Device) × Among c.devices e × IsLeftDevice moved remaining compared e f
  -- the holds stay, with their places
  pub holds : (i : ℕ) (h : Hold) → At c.holds i h → (g : Hold) × At whole_circuit.holds i g × IsLeftHold moved remaining h g
  pub holds_back : (i : ℕ) (g : Hold) → At whole_circuit.holds i g → (h : Hold) × At c.holds i h × IsLeftHold moved remaining h g
  -- the output pins stay, and those of the cell's exposed nets are new
  pub pins :
      (i : ℕ) (out : OutputPin) → At (output_pins c) i out
      → (pin : OutputPin) × At (output_pins whole_circuit) (place i) pin × IsLeftPin moved remaining out pin
  pub fresh_pins :
      (n : ℕ) → exposed n ≡ true
      → (pin : OutputPin) × At (output_pins whole_circuit) (fresh n) pin × IsFreshPin (source_level whole_circuit) cell at moved remaining exposed drive n pin
  pub pins_back :
      (j : ℕ) (pin : OutputPin) → At (output_pins whole_circuit) j pin
      → ((i : ℕ) × (out : OutputPin) × At (output_pins c) i out × (place i ≡ j) × IsLeftPin moved remaining out pin)
      ⊎ ((n : ℕ) × (fresh n ≡ j) × IsFreshPin (source_level whole_circuit) cell at moved remaining exposed drive n pin)

-- ---- states

-- a state of the circuit and one with the cell whole say the same of what stays, and the latter drives the cell's exposed
-- outputs with these values
pub record Correspond (c : Circuit) (moved place fresh : ℕ → ℕ) (remaining exposed : ℕ → Bool) (value : ℕ → Bool) (s r : State) : Type 0 where
  pub reading : (k : ℕ) → remaining k ≡ true → r.reading (moved k) ≡ s.reading k
  pub driven : (i : ℕ) (out : OutputPin) → At (output_pins c) i out → r.driven (place i) ≡ s.driven i
  pub fresh_driven : (n : ℕ) → exposed n ≡ true → r.driven (fresh n) ≡ value n

-- with the bits that a state of the circuit gives its gates, the cell alone gives each exposed output its drive and one value
pub record HasOutputs (cell : Circuit) (bare : Bool) (at : ℕ → ℕ) (s : State) (exposed : ℕ → Bool) (drive : ℕ → ℕ) (value : ℕ → Bool) : Type 0 where
  pub drives : (n : ℕ) → exposed n ≡ true → IsStrength (alone cell bare at s) n (drive n) × (0 < drive n)
  pub values :
      (n : ℕ) → exposed n ≡ true
      → Reaches (alone cell bare at s) n (value n) × ((u : Bool) → Reaches (alone cell bare at s) n u → u ≡ value n)

-- The law: in states that correspond, where the cell joins no two exposed outputs, each compared net has the same strength,
-- and exactly the same values reach it, with the cell whole as with the cell in the circuit, bare or kept. What reaches a net
-- inside reaches it in the cell alone, or an output that is joined to it fights.
abbrev pub LeftWholeIsSame : Type 0
LeftWholeIsSame =
    (cell c whole_circuit : Circuit) (at moved place fresh : ℕ → ℕ) (remaining compared exposed : ℕ → Bool) (drive : ℕ → ℕ) (value : ℕ → Bool)
    (phase : Phase) (inputs held : ℕ → Bool) (bare : Bool) (s r : State)
    → HasRanges cell → HasRanges c → HasRanges whole_circuit
    → IsPlaced cell c at exposed drive → IsLeftWhole cell c whole_circuit at moved place fresh remaining compared exposed drive
    → IsReading c phase inputs s.reading → Correspond c moved place fresh remaining exposed value s r → HasOutputs cell bare at s exposed drive value
    → AreUnjoined (alone cell bare at s) at (is_plain_at cell) exposed
    → HasSameStrengths (network_of c bare held s) (network_of whole_circuit bare held r) moved compared
    × HasSameReaches (network_of c bare held s) (network_of whole_circuit bare held r) moved compared
    × ((n : ℕ) (u : Bool) → is_plain_at cell n ≡ true → Reaches (network_of c bare held s) (at n) u
    → Reaches (alone cell bare at s) n u ⊎ FightsBeside (alone cell bare at s) (network_of whole_circuit bare held r) (λ m. moved (at m)) (is_plain_at cell) exposed n)
