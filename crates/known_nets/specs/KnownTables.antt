-- Tables of known nets, as turns over the circuit fill them.
use Rattle.std.specs.Prelude.{◌≡◌, ℕ, ◌↔◌, Bool, true, List, None, Option, Some, slice_get, unwrap_or}
use Rattle.vrt_model.specs.Known.{IsFixed, IsKnown, IsShut}
use Rattle.vrt_model.specs.Lists.{Among}
use Rattle.vrt_model.specs.Path.{Joins}
use Rattle.vrt_model.specs.Reading.{IsReading, clock_bit, devices_of}
use Rattle.vrt_model.specs.Response.{IsResponse, Shows}
use Rattle.vrt_model.specs.State.{network_of}
use Rattle.vrt_model.specs.declared.circuit.Circuit.{Circuit}
use Rattle.vrt_model.specs.declared.circuit.Device.{Device}
use Rattle.vrt_model.specs.declared.circuit.NetKind.{NetKind}
use Rattle.vrt_model.specs.declared.circuit.NetKind.TheVariants.{Supply, Clock, Input, Plain}
use Rattle.vrt_model.specs.declared.rules.Phase.{Phase}

-- the bit that a table has of a net, if any
abbrev pub known_at : List (Option Bool) → ℕ → Option Bool
known_at known n = unwrap_or (slice_get known n) None

-- the bit of a supply or of a clock port, if the net is one
abbrev pub fixed_bit_of : Phase → NetKind → Option Bool
fixed_bit_of phase (Supply value) = Some value
fixed_bit_of phase (Clock clock) = Some (clock_bit phase clock)
fixed_bit_of phase Input = None
fixed_bit_of phase Plain = None

-- a table has the supplies and the clock ports
abbrev pub HasFixedNets : Circuit → Phase → (ℕ → Option Bool) → Type 0
HasFixedNets c phase known = (n : ℕ) (v : Bool) → IsFixed c phase n v → known n ≡ Some v

-- a table has known nets alone
abbrev pub AreKnown : Circuit → Phase → (ℕ → Option Bool) → Type 0
AreKnown c phase known = (n : ℕ) (v : Bool) → known n ≡ Some v → IsKnown c phase n v

-- a table has the bits of a reading at the gates of the devices at a set of nets
abbrev pub HasGateBits : Circuit → (ℕ → Option Bool) → (ℕ → Bool) → (ℕ → Bool) → Type 0
HasGateBits c known inside reading =
    (m l : ℕ) (d : Device) → inside m ≡ true → Among (devices_of true c) d → Joins d m l → known d.gate.0 ≡ Some (reading d.gate.0)

-- a table has each net that shows one bit in a shut set whose gates it has
abbrev pub IsClosedTable : Circuit → Phase → (ℕ → Option Bool) → Type 0
IsClosedTable c phase known =
    (inside reading held driven : ℕ → Bool) → IsShut c phase inside reading → IsReading c phase reading reading → HasGateBits c known inside reading
    → (n : ℕ) (v : Bool) → inside n ≡ true → IsResponse (network_of c true held (record { reading = reading; driven = driven })) n (Shows v)
    → known n ≡ Some v

-- a table has exactly the known nets, with their bits
abbrev pub IsKnownTable : Circuit → Phase → (ℕ → Option Bool) → Type 0
IsKnownTable c phase known = (n : ℕ) (v : Bool) → (known n ≡ Some v) ↔ IsKnown c phase n v
