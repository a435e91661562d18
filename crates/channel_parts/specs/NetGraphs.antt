-- A graph of nets and parts: an arc leads to each plain net from its part, to each part from the gates of its devices that are not
-- known, and to the part of an output of a whole instance from the nets that are linked to it. The numbers of the nets come first,
-- and behind them, in their order, the parts by their least nets.
use Rattle.std.specs.Prelude.{◌≡◌, ℕ, ◌+◌, ◌<◌, ◌⊎◌, Bool, true, bytes_eq, List, Option, Some, length, slice_index}
use Rattle.channel_parts.specs.Groups.{device_owner}
use Rattle.channel_parts.specs.Links.{link_target}
use Rattle.channel_parts.specs.Ranks.{has_unknown_gate}
use Rattle.graphs.specs.Graphs.{ArcIn}
use Rattle.known_nets.specs.Conduction.{is_plain_at}
use Rattle.vrt_model.specs.Lists.{At}
use Rattle.vrt_model.specs.declared.circuit.Circuit.{Circuit}
use Rattle.vrt_model.specs.declared.circuit.Device.{Device}
use Rattle.vrt_model.specs.declared.rules.Phase.{Phase}
use Rattle.vrt_model.specs.declared.whole.Link.{Link}
use Rattle.vrt_model.specs.declared.whole.Whole.{Whole}

-- an arc by one of the items of a list before a place
abbrev pub ArcsBelow : {X : Type 0} → List X → (X → ℕ → ℕ → Type 0) → ℕ → ℕ → ℕ → Type 0
ArcsBelow {X} xs Arc bound from to = (i : ℕ) × (x : X) × (i < bound) × At xs i x × Arc x from to

-- the arc to a plain net from its part
pub record IsNetArc (c : Circuit) (least : List ℕ) (from to : ℕ) : Type 0 where
  pub plain : is_plain_at c to ≡ true
  pub part : from ≡ length least + slice_index least to

abbrev pub IsOneNetArc : Circuit → List ℕ → ℕ → ℕ → ℕ → Type 0
IsOneNetArc c least net from to = (to ≡ net) × IsNetArc c least from to

abbrev pub IsNetArcBelow : Circuit → List ℕ → ℕ → ℕ → ℕ → Type 0
IsNetArcBelow c least bound from to = (to < bound) × IsNetArc c least from to

-- the arc to the part of a device from its gate, where that is not known
pub record IsDeviceArc (c : Circuit) (known : List (Option Bool)) (least : List ℕ) (d : Device) (from to : ℕ) : Type 0 where
  pub unknown : has_unknown_gate known d ≡ true
  pub gate : d.gate.0 ≡ from
  pub owner : ℕ
  pub owned : device_owner c known least true d ≡ Some owner
  pub part : to ≡ length least + owner

abbrev pub IsDeviceArcBelow : Circuit → List (Option Bool) → List ℕ → ℕ → ℕ → ℕ → Type 0
IsDeviceArcBelow c known least bound from to = ArcsBelow c.devices (IsDeviceArc c known least) bound from to

-- the arc to the part of an output from the net of a link of the phase
pub record IsLinkArc (c : Circuit) (phase : Phase) (least : List ℕ) (w : Whole) (link : Link) (from to : ℕ) : Type 0 where
  pub stands : bytes_eq link.phase phase.name ≡ true
  pub net : link.from.0 ≡ from
  pub owner : ℕ
  pub owned : link_target c least w link ≡ Some owner
  pub part : to ≡ length least + owner

abbrev pub IsWholeArc : Circuit → Phase → List ℕ → Whole → ℕ → ℕ → Type 0
IsWholeArc c phase least w from to = ArcsBelow w.links (IsLinkArc c phase least w) (length w.links) from to

abbrev pub IsWholeArcBelow : Circuit → Phase → List ℕ → ℕ → ℕ → ℕ → Type 0
IsWholeArcBelow c phase least bound from to = ArcsBelow c.wholes (IsWholeArc c phase least) bound from to

pub record IsNetGraph (c : Circuit) (phase : Phase) (known : List (Option Bool)) (least : List ℕ) (graph : List (List ℕ)) : Type 0 where
  pub size : length graph ≡ length least + length least
  pub only :
      (from to : ℕ) → ArcIn graph from to
      → IsNetArcBelow c least (length least) from to ⊎ (IsDeviceArcBelow c known least (length c.devices) from to ⊎ IsWholeArcBelow c phase least (length c.wholes) from to)
  pub nets : (from to : ℕ) → IsNetArcBelow c least (length least) from to → ArcIn graph from to
  pub devices : (from to : ℕ) → IsDeviceArcBelow c known least (length c.devices) from to → to < length graph → ArcIn graph from to
  pub wholes : (from to : ℕ) → IsWholeArcBelow c phase least (length c.wholes) from to → to < length graph → ArcIn graph from to
