-- The parts from which arcs that count for ranks lead to a part, by the least nets of parts.
use Rattle.std.specs.Prelude.{◌≡◌, ℕ, ◌<◌, ◌⊎◌, Bool, true, cond, bytes_eq, List, None, Option, Some, length}
use Rattle.channel_parts.specs.Groups.{device_owner, net_owner}
use Rattle.channel_parts.specs.Links.{is_counted, link_target}
use Rattle.channel_parts.specs.NetGraphs.{ArcsBelow}
use Rattle.channel_parts.specs.Ranks.{has_unknown_gate}
use Rattle.graphs.specs.Graphs.{ArcIn}
use Rattle.vrt_model.specs.declared.circuit.Circuit.{Circuit}
use Rattle.vrt_model.specs.declared.circuit.Device.{Device}
use Rattle.vrt_model.specs.declared.rules.Phase.{Phase}
use Rattle.vrt_model.specs.declared.whole.Link.{Link}
use Rattle.vrt_model.specs.declared.whole.Whole.{Whole}

-- an arc from the one part to the other, where both are there
abbrev pub IsFromTo : Option ℕ → Option ℕ → ℕ → ℕ → Type 0
IsFromTo source owner from to = (source ≡ Some from) × (owner ≡ Some to)

-- the part of the gate of a device, where the gate is plain and not known
abbrev pub device_source : Circuit → List (Option Bool) → List ℕ → Device → Option ℕ
device_source c known least d = cond (has_unknown_gate known d) (net_owner c least d.gate.0) None

-- a device leads from one part to another
abbrev pub IsBetween : Circuit → List (Option Bool) → List ℕ → Device → ℕ → ℕ → Type 0
IsBetween c known least d from to = IsFromTo (device_source c known least d) (device_owner c known least true d) from to

-- a link that counts in the phase leads from one part to another
pub record IsLinkBetween (c : Circuit) (phase : Phase) (known : List (Option Bool)) (least : List ℕ) (w : Whole) (link : Link) (from to : ℕ) : Type 0 where
  pub stands : bytes_eq link.phase phase.name ≡ true
  pub counted : is_counted known link ≡ true
  pub between : IsFromTo (net_owner c least link.from.0) (link_target c least w link) from to

-- a link of a whole instance does
abbrev pub IsWholeBetween : Circuit → Phase → List (Option Bool) → List ℕ → Whole → ℕ → ℕ → Type 0
IsWholeBetween c phase known least w from to = ArcsBelow w.links (IsLinkBetween c phase known least w) (length w.links) from to

-- a device or a link does
abbrev pub IsSource : Circuit → Phase → List (Option Bool) → List ℕ → ℕ → ℕ → Type 0
IsSource c phase known least from to =
    ArcsBelow c.devices (IsBetween c known least) (length c.devices) from to
    ⊎ ArcsBelow c.wholes (IsWholeBetween c phase known least) (length c.wholes) from to

-- the sources of each part
pub record AreSources (c : Circuit) (phase : Phase) (known : List (Option Bool)) (least : List ℕ) (table : List (List ℕ)) : Type 0 where
  pub count : length table ≡ length least
  pub only : (from to : ℕ) → ArcIn table from to → IsSource c phase known least from to
  pub all : (from to : ℕ) → IsSource c phase known least from to → to < length table → ArcIn table from to
