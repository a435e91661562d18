-- The channel-connected parts of a circuit in a phase, in their order.
use Rattle.std.specs.Prelude.{◌≡◌, ℕ, ◌<◌, ◌⊎◌, ◌↔◌, Bool, true, false, List, length, map, slice_get, slice_index, Result, Ok, Err, Some}
use Rattle.channel_parts.specs.Orders.{IsSolvedOnce}
use Rattle.channel_parts.specs.Ranks.{IsAcyclicArcs}
use Rattle.channel_parts.specs.declared.part.Part.{Part}
use Rattle.channel_parts.specs.declared.part.PartFault.{PartFault}
use Rattle.channel_parts.specs.declared.part.PartFault.TheVariants.{Cycle, NoMemory}
use Rattle.channel_parts.specs.declared.part.Parts.{Parts}
use Rattle.known_nets.specs.KnownTables.{IsKnownTable, known_at}
use Rattle.vrt_model.specs.Known.{HasArc, IsFirstCycle, IsInPart, IsPlain, IsRanking, IsTogether}
use Rattle.vrt_model.specs.Lists.{At, Among}
use Rattle.vrt_model.specs.declared.circuit.Circuit.{Circuit}
use Rattle.vrt_model.specs.declared.circuit.Device.{Device}
use Rattle.vrt_model.specs.declared.ids.Dev.{Dev}
use Rattle.vrt_model.specs.declared.ids.Net.{Net}
use Rattle.vrt_model.specs.declared.rules.Phase.{Phase}

-- ---- one part

abbrev pub net_numbers : List Net → List ℕ
net_numbers nets = map (λ (net : Net). net.0) nets

abbrev pub device_numbers : List Dev → List ℕ
device_numbers devices = map (λ (device : Dev). device.0) devices

-- each number is above those before it
abbrev pub IsRising : List ℕ → Type 0
IsRising xs = (i j a b : ℕ) → At xs i a → At xs j b → i < j → a < b

-- the least net of a part is its first
abbrev pub least_of : Part → ℕ
least_of part = slice_index (net_numbers part.nets) 0

-- A part has exactly the nets that channels join to its least net, by number, and exactly the devices of the bare or the
-- kept circuit that no known gate keeps from conducting and that meet a net of the part, by number; its rank is that of
-- its nets.
pub record IsPartOf (c : Circuit) (phase : Phase) (bare : Bool) (rank : ℕ → ℕ) (part : Part) : Type 0 where
  pub first : slice_get (net_numbers part.nets) 0 ≡ Some (least_of part)
  pub nets : (n : ℕ) → Among (net_numbers part.nets) n ↔ IsTogether c phase bare (least_of part) n
  pub net_order : IsRising (net_numbers part.nets)
  pub devices : (k : ℕ) → Among (device_numbers part.devices) k ↔ ((d : Device) × At c.devices k d × IsInPart c phase bare (least_of part) d)
  pub device_order : IsRising (device_numbers part.devices)
  pub ranked : (n : ℕ) → Among (net_numbers part.nets) n → part.rank ≡ rank n

-- ---- all parts

-- by rank, in a rank by least net
abbrev pub IsBefore : Part → Part → Type 0
IsBefore p q = (p.rank < q.rank) ⊎ ((p.rank ≡ q.rank) × (least_of p < least_of q))

-- the known nets of the bare circuit, by net, and the parts of the plain nets, in their order
pub record AreParts (c : Circuit) (phase : Phase) (bare : Bool) (rank : ℕ → ℕ) (parts : Parts) : Type 0 where
  pub count : length parts.known ≡ length c.nets
  pub known : IsKnownTable c phase (known_at parts.known)
  pub each : (part : Part) → Among parts.list part → IsPartOf c phase bare rank part
  pub all : (n : ℕ) → IsPlain c n → (part : Part) × Among parts.list part × Among (net_numbers part.nets) n
  pub sorted : (i j : ℕ) (p q : Part) → At parts.list i p → At parts.list j q → i < j → IsBefore p q

-- the parts, with their ranks where keepers are left out, and else all with rank 0
abbrev pub IsPartList : Circuit → Phase → Bool → Parts → Type 0
IsPartList c phase true parts =
    (rank : ℕ → ℕ) × AreParts c phase true rank parts × IsRanking c phase rank × IsAcyclicArcs c phase × IsSolvedOnce c phase
IsPartList c phase false parts = AreParts c phase false (λ n. 0) parts

-- The parts of the bare or of the kept circuit; or the first cycle of arcs, where keepers are left out and the arcs have
-- one. Want of memory may come in any place.
abbrev pub PartsGive : Circuit → Phase → Bool → Result Parts PartFault → Type 0
PartsGive c phase bare (Ok parts) = IsPartList c phase bare parts
PartsGive c phase bare (Err (Cycle nets)) = (bare ≡ true) × IsFirstCycle (HasArc c phase) (net_numbers nets)
PartsGive c phase bare (Err NoMemory) = Unit {0}
