-- Numbers in groups by their owners: the nets and the devices of each part, at the least net of the part.
use Rattle.std.specs.Prelude.{◌≡◌, ℕ, ◌<◌, ◌↔◌, ◌&&◌, Bool, cond, List, None, Option, Some, length, option_map, slice_get, slice_index, unwrap_or, ◌==◌}
use Rattle.channel_parts.specs.Labels.{may_conduct}
use Rattle.channel_parts.specs.PartLists.{IsRising, device_numbers, net_numbers}
use Rattle.channel_parts.specs.declared.part.Part.{Part}
use Rattle.known_nets.specs.Conduction.{conduction_of, is_plain_at}
use Rattle.vrt_model.specs.Lists.{At, Among}
use Rattle.vrt_model.specs.Reading.{is_in}
use Rattle.vrt_model.specs.declared.circuit.Circuit.{Circuit}
use Rattle.vrt_model.specs.declared.circuit.Device.{Device}

-- ---- owners

-- a plain net belongs to the least net of its part
abbrev pub net_owner : Circuit → List ℕ → ℕ → Option ℕ
net_owner c least n = cond (is_plain_at c n) (Some (slice_index least n)) None

-- a device that is in the circuit and may conduct belongs to the part of a net at its channel, if one is plain
abbrev pub device_owner : Circuit → List (Option Bool) → List ℕ → Bool → Device → Option ℕ
device_owner c known least bare d =
    cond (is_in bare d && may_conduct (conduction_of known d)) (cond (is_plain_at c d.left.0) (net_owner c least d.left.0) (net_owner c least d.right.0)) None

abbrev pub device_owner_at : Circuit → List (Option Bool) → List ℕ → Bool → ℕ → Option ℕ
device_owner_at c known least bare k = unwrap_or (option_map (device_owner c known least bare) (slice_get c.devices k)) None

-- ---- groups

-- the numbers below a bound that one owner has, rising
pub record IsGroup (owner : ℕ → Option ℕ) (bound k : ℕ) (group : List ℕ) : Type 0 where
  pub rising : IsRising group
  pub own : (n : ℕ) → Among group n ↔ ((n < bound) × (owner n ≡ Some k))

abbrev pub AreGroups : (ℕ → Option ℕ) → ℕ → List (List ℕ) → Type 0
AreGroups owner bound groups = (k : ℕ) (group : List ℕ) → At groups k group → IsGroup owner bound k group

-- ---- parts of groups

-- whether a plain net is the least of its part
abbrev pub is_head : (ℕ × ℕ) × ℕ → Bool
is_head p = p.0.1 == p.1

-- a part with the rank and the groups of a least net
pub record IsMade (nets devices : List (List ℕ)) (head : (ℕ × ℕ) × ℕ) (part : Part) : Type 0 where
  pub ranked : part.rank ≡ head.0.0
  pub joined : At nets head.1 (net_numbers part.nets)
  pub joining : At devices head.1 (device_numbers part.devices)

-- a part for each least net, in their order
pub record AreMade (nets devices : List (List ℕ)) (heads : List ((ℕ × ℕ) × ℕ)) (list : List Part) : Type 0 where
  pub count : length list ≡ length heads
  pub each : (i : ℕ) (part : Part) → At list i part → (head : (ℕ × ℕ) × ℕ) × At heads i head × IsMade nets devices head part
