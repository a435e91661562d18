-- What a channel-connected part is in its circuit.
use Rattle.std.specs.Prelude.{◌≡◌, ℕ, ◌-◌, ◌<◌, ◌⊎◌, ◌==◌, Bool, IsTrue, true, cond, List, Option, is_none, is_some, length, slice_get, filter_map, map, sum_by, All}
use Rattle.std.specs.List.{list_any}
use Rattle.vrt_model.specs.Circuits.{IsNet}
use Rattle.vrt_model.specs.Networks.{HasRanges}
use Rattle.vrt_model.specs.Lists.{At, Among}
use Rattle.vrt_model.specs.Reading.{is_given}
use Rattle.vrt_model.specs.State.{OutputPin, output_pins}
use Rattle.vrt_model.specs.declared.circuit.Circuit.{Circuit}
use Rattle.vrt_model.specs.declared.circuit.Device.{Device}
use Rattle.vrt_model.specs.declared.circuit.FlatNet.{FlatNet}
use Rattle.vrt_model.specs.declared.ids.Dev.{Dev}
use Rattle.vrt_model.specs.declared.ids.Net.{Net}
use Rattle.vrt_model.specs.declared.whole.Drive.TheVariants.{Soft}
use Rattle.vrt_model.specs.declared.whole.WholePin.{WholePin}
use Rattle.channel_parts.specs.declared.part.Part.{Part}
use Rattle.path_fixpoint.specs.declared.direction.Direction.{Direction}
use Rattle.path_fixpoint.specs.declared.direction.Direction.TheVariants.{Backward, Forward}
use Rattle.path_fixpoint.specs.declared.side.Side.{Side}
use Rattle.path_fixpoint.specs.declared.side.Side.TheVariants.{Inside, Outside}

-- the devices of a part
abbrev pub part_devices : Circuit → Part → List Device
part_devices c part = filter_map (λ (d : Dev). slice_get c.devices d.0) part.devices

-- the place that a round over so many places visits at a step: from the first one on, or back from the last one
abbrev pub visited_place : Direction → ℕ → ℕ → ℕ
visited_place Forward count step = step
visited_place Backward count step = count - 1 - step

-- the device of a part that a round visits at a step
abbrev pub IsVisited : Circuit → Part → Direction → ℕ → Device → Type 0
IsVisited c part direction step d = (dev : Dev) × At part.devices (visited_place direction (length part.devices) step) dev × At c.devices dev.0 d

-- the net n stands at place i of a part
abbrev pub IsPlace : Part → ℕ → ℕ → Type 0
IsPlace part i n = (net : Net) × At part.nets i net × (net.0 ≡ n)

-- a net of the part has this number
abbrev pub has_net : Part → ℕ → Bool
has_net part n = list_any (λ (net : Net). net.0 == n) part.nets

-- the output pins of the whole instances of a circuit, in their order
abbrev pub pins_of : Circuit → List WholePin
pins_of c = map (λ (out : OutputPin). out.pin) (output_pins c)

-- how many of these pins stand at nets of a part
abbrev pub pins_at : Part → List WholePin → ℕ
pins_at part pins = sum_by (λ (pin : WholePin). cond (has_net part pin.net.0) 1 0) pins

-- the net n is in the part, or outside it
abbrev pub IsOnSide : Part → Side → ℕ → Type 0
IsOnSide part Inside n = (i : ℕ) × IsPlace part i n
IsOnSide part Outside n = (i : ℕ) → IsPlace part i n → ⊥

-- whether the end of a channel is on a side, by its place in the part
abbrev pub is_on_side : Side → Option ℕ → Bool
is_on_side Inside place = is_some place
is_on_side Outside place = is_none place

-- a supply, an input or a clock port
abbrev pub IsGiven : Circuit → ℕ → Type 0
IsGiven c n = (net : FlatNet) × At c.nets n net × (is_given net.kind ≡ true)

-- a soft output of a whole instance, whose root is as strong as that of a given net, stands at no given net outside the part
abbrev pub AreSoftInside : Circuit → Part → Type 0
AreSoftInside c part = (pin : WholePin) → Among (pins_of c) pin → pin.drive ≡ Soft → IsGiven c pin.net.0 → IsOnSide part Inside pin.net.0

-- neither end of a device's channel has a given value
abbrev pub IsWithoutGivenEnd : Circuit → Device → Type 0
IsWithoutGivenEnd c d = (IsGiven c d.left.0 → ⊥) × (IsGiven c d.right.0 → ⊥)

-- a part of a circuit: a set of nets, and devices whose channel nets are among these or have given values
pub record IsPart (c : Circuit) (part : Part) : Type 0 where
  pub nets : All (IsNet c) part.nets
  -- no net stands twice
  pub once : (i j n : ℕ) → IsPlace part i n → IsPlace part j n → i ≡ j
  pub devices : All (λ (d : Dev). d.0 < length c.devices) part.devices
  pub left : (d : Device) → Among (part_devices c part) d → Among part.nets d.left ⊎ IsGiven c d.left.0
  pub right : (d : Device) → Among (part_devices c part) d → Among part.nets d.right ⊎ IsGiven c d.right.0

-- the nets of a part rise by number
abbrev pub Rises : Part → Type 0
Rises part = (i j m n : ℕ) → IsPlace part i m → IsPlace part j n → i < j → m < n

-- a device of the circuit whose channel nets are in the part or have given values
pub record IsPartDevice (c : Circuit) (part : Part) (dev : Dev) : Type 0 where
  pub inside : dev.0 < length c.devices
  pub left : (d : Device) → At c.devices dev.0 d → Among part.nets d.left ⊎ IsGiven c d.left.0
  pub right : (d : Device) → At c.devices dev.0 d → Among part.nets d.right ⊎ IsGiven c d.right.0

-- a part of a circuit whose numbers are in range; its nets rise where this says so
abbrev pub IsPartOf : Circuit → Part → Bool → Type 0
IsPartOf c part rising = HasRanges c × IsPart c part × (IsTrue rising → Rises part)
