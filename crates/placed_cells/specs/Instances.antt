-- The flat circuit of an instance's cell, in the flat circuit of the cell around it.
use Rattle.std.specs.Prelude.{◌≡◌, ℕ, suc, ◌<◌, ◌≤◌, ◌⊎◌, Bool, true, List, [], ◌++◌, None, length}
use Rattle.cell_inside.specs.Inside.{Touches}
use Rattle.cell_inside.specs.Placed.{IsImage, IsPlaced, IsSupply}
use Rattle.cell_inside.specs.Shifted.{NamesNoGlobal}
use Rattle.placed_cells.specs.Above.{net_above, place_alone}
use Rattle.placed_cells.specs.Splits.{IsSplit}
use Rattle.vrt_model.specs.Comparison.{cell_at}
use Rattle.vrt_model.specs.FlatCircuit.{flat_circuit, flat_circuit_of, flat_device, flat_devices, flat_nets}
use Rattle.vrt_model.specs.Hierarchy.{IsOrdered}
use Rattle.vrt_model.specs.Inputs.{IsDesign}
use Rattle.vrt_model.specs.Known.{IsHeld, IsPlain}
use Rattle.vrt_model.specs.Levels.{source_level, source_of}
use Rattle.vrt_model.specs.Lists.{Among}
use Rattle.vrt_model.specs.PairedPorts.{HasRoles}
use Rattle.vrt_model.specs.Path.{level_of_drive}
use Rattle.vrt_model.specs.State.{OutputPin, output_pins}
use Rattle.vrt_model.specs.Unrolled.{Place, Top, deepest, places_in}
use Rattle.vrt_model.specs.Unsupported.{supply_tie}
use Rattle.vrt_model.specs.declared.circuit.Circuit.{Circuit}
use Rattle.vrt_model.specs.declared.circuit.Device.{Device}
use Rattle.vrt_model.specs.declared.design.DeviceCard.{DeviceCard}
use Rattle.vrt_model.specs.declared.pairing.Pairing.{Pairing}

-- a circuit over the flat nets shows a place, and all places in it: their devices are there. It has none but those of the flat
-- circuit, and no hold at another net; output pins of whole instances are at ports of other places, which stand before these or behind them;
-- and its sources have the level of the rules.
pub record ShowsInside (t : Top) (p : Place) (depth : ℕ) (before behind : List Place) (c : Circuit) : Type 0 where
  pub nets : c.nets ≡ flat_nets t
  pub there : (r : Place) (card : DeviceCard) → Among (places_in t depth p) r → Among (cell_at t.design r.cell).devices card → Among c.devices (flat_device t r card)
  pub devices : (e : Device) → Among c.devices e → Among (flat_devices t) e
  pub holds : (n : ℕ) → IsHeld c n → IsHeld (flat_circuit_of t) n
  pub pins : (out : OutputPin) → Among (output_pins c) out → (r : Place) × Among (before ++ behind) r × Among r.ports out.pin.net.0
  pub source : c.source ≡ source_of t.rules

-- what is asked of a cell in a circuit, its net n at `at n`, at its supplies and ports, which are its nets below a number
pub record HasPlacedPorts (cell c : Circuit) (at : ℕ → ℕ) (base : ℕ) (exposed : ℕ → Bool) (drive : ℕ → ℕ) : Type 0 where
  -- only plain nets are exposed
  pub exposed_plain : (n : ℕ) → exposed n ≡ true → IsPlain cell n
  -- no channel of the cell is at an input or a clock port
  pub channels : (d : Device) (n : ℕ) → Among cell.devices d → Touches d n → n < base → IsPlain cell n ⊎ ((value : Bool) × IsSupply cell n value)
  -- the other ports are tied to plain nets
  pub plain : (n : ℕ) → n < base → IsPlain cell n → IsPlain c (at n)
  -- another device whose channel is at such a net is at an exposed one, and not above its drive
  pub others :
      (e : Device) (n : ℕ) → n < base → Among c.devices e → IsPlain cell n → Touches e (at n)
      → ((d : Device) × Among cell.devices d × IsImage at d e) ⊎ ((exposed n ≡ true) × (e.level ≤ drive n))
  -- so is an output pin of a whole instance, and all of these are at plain nets
  pub pins :
      (out : OutputPin) (n : ℕ) → n < base → Among (output_pins c) out → IsPlain cell n → out.pin.net.0 ≡ at n
      → (exposed n ≡ true) × (level_of_drive (source_level c) out.pin.drive ≤ drive n)
  pub pins_plain : (out : OutputPin) → Among (output_pins c) out → IsPlain c out.pin.net.0
  -- no hold is at one of them
  pub unheld : (n : ℕ) → n < base → IsPlain cell n → ¬ (IsHeld c (at n))
  -- two of them are one net above only where both are exposed, with the same drive
  pub apart :
      (m n : ℕ) → m < base → n < base → IsPlain cell m → IsPlain cell n → at m ≡ at n
      → (m ≡ n) ⊎ ((exposed m ≡ true) × (exposed n ≡ true) × (drive m ≡ drive n))

-- The law: the flat circuit of an instance's cell stands in a circuit that shows the instance, where the cell has no hold and
-- names no global net, and its ports are as asked. Of its own nets nothing is asked.
abbrev pub InstanceIsPlaced : Type 0
InstanceIsPlaced =
    (t : Top) (pairing : Pairing) (i : ℕ) (p : Place) (depth : ℕ) (before behind : List Place) (c : Circuit) (exposed : ℕ → Bool) (drive : ℕ → ℕ)
    → IsDesign t.design → IsOrdered t.design t.rules → t.cell < length t.design.cells → supply_tie t ≡ None → IsSplit t (suc i) p depth before behind
    → NamesNoGlobal t deepest p.cell → HasRoles t.rules (cell_at t.design p.cell) pairing
    → (flat_circuit t.design t.rules p.cell pairing).holds ≡ [] → ShowsInside t p depth before behind c
    → HasPlacedPorts (flat_circuit t.design t.rules p.cell pairing) c (net_above t p) (place_alone t p).base exposed drive
    → IsPlaced (flat_circuit t.design t.rules p.cell pairing) c (net_above t p) exposed drive

-- The law: the flat circuit shows each place.
abbrev pub FlatCircuitShowsInside : Type 0
FlatCircuitShowsInside =
    (t : Top) (number : ℕ) (p : Place) (depth : ℕ) (before behind : List Place)
    → IsSplit t number p depth before behind → ShowsInside t p depth before behind (flat_circuit_of t)
