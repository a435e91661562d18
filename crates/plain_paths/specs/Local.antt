-- Networks with some of the devices of a circuit alone, and tables of their signals.
use Rattle.std.specs.Prelude.{◌≡◌, ℕ, Bool, true, false, List, [], None, Option, slice_get, slice_index, unwrap_or, vec_len}
use Rattle.std.specs.List.{filter_map}
use Rattle.vrt_model.specs.Levels.{source_level}
use Rattle.vrt_model.specs.Lists.{bit_at, mark_at}
use Rattle.vrt_model.specs.Path.{Network}
use Rattle.vrt_model.specs.Signals.{AreSignals}
use Rattle.vrt_model.specs.declared.circuit.Circuit.{Circuit}
use Rattle.vrt_model.specs.declared.circuit.Device.{Device}
use Rattle.vrt_model.specs.declared.ids.Dev.{Dev}
use Rattle.plain_paths.specs.declared.signals.Signals.{Signals}

-- the devices of these numbers
abbrev pub devices_at : Circuit → List Dev → List Device
devices_at c numbers = filter_map (λ (k : Dev). slice_get c.devices k.0) numbers

-- a reading: the bits that there are, and else 0
abbrev pub filled_at : List (Option Bool) → ℕ → Bool
filled_at bits n = unwrap_or (unwrap_or (slice_get bits n) None) false

-- the roots of a network alone
abbrev pub roots_alone : Network → Network
roots_alone w = record w { devices = [] }

-- a circuit without output pins with these devices alone, at the bits of its gates, of its given nets and of its holds
abbrev pub network_with : Circuit → (ℕ → Bool) → (ℕ → Bool) → (ℕ → Bool) → List Device → Network
network_with c reading given held devices = record {
  nets = c.nets;
  holds = c.holds;
  outputs = [];
  devices = devices;
  source = source_level c;
  reading = reading;
  given = given;
  held = held;
  driven = λ n. false;
}

-- tables have the signals of a network
abbrev pub Shows : Network → Signals → Type 0
Shows w t = AreSignals w t.strengths.items t.zeros.items t.ones.items

-- tables have the signals of the roots of a circuit alone
abbrev pub ShowsRoots : Circuit → (ℕ → Bool) → (ℕ → Bool) → Signals → Type 0
ShowsRoots c given held t = (reading : ℕ → Bool) → Shows (network_with c reading given held []) t

-- tables have a place for each net
pub record HasPlaces (count : ℕ) (t : Signals) : Type 0 where
  pub strengths : vec_len t.strengths ≡ count
  pub zeros : vec_len t.zeros ≡ count
  pub ones : vec_len t.ones ≡ count

-- two tables say the same of a net
abbrev pub AgreeAt : Signals → Signals → ℕ → Type 0
AgreeAt t u n =
    (slice_index t.strengths.items n ≡ slice_index u.strengths.items n) × (bit_at t.zeros.items n ≡ bit_at u.zeros.items n)
    × (bit_at t.ones.items n ≡ bit_at u.ones.items n)

-- two tables say the same of both nets of a device
abbrev pub AgreeAtEnds : Signals → Signals → Device → Type 0
AgreeAtEnds t u d = AgreeAt t u d.left.0 × AgreeAt t u d.right.0

-- a mark at the net stands only where its strength is that of its roots alone
abbrev pub IsFit : List ℕ → List ℕ → List Bool → ℕ → Type 0
IsFit levels strengths marks n = mark_at marks n ≡ true → slice_index strengths n ≡ slice_index levels n
