-- Groups of holds: what the call that makes them says, and the steps in which they are made.
use Rattle.std.specs.Prelude.{◌≡◌, ℕ, ◌+◌, ◌-◌, ◌<◌, ◌≤◌, cond, List, [], ◌∷◌, ◌++◌, map, filter_map, length, set, sum_by, Option, Some, None, Result, Ok, Err, ◌==◌}
use Rattle.std.specs.Int.{to_le_bytes, w32}
use Rattle.vrt_model.specs.Comparison.{cell_at}
use Rattle.vrt_model.specs.Groups.{Placed, groups_of, holds_by_net, leaders, same_end}
use Rattle.vrt_model.specs.Lists.{At, place_of}
use Rattle.vrt_model.specs.Unsupported.{unmatched}
use Rattle.vrt_model.specs.declared.circuit.Circuit.{Circuit}
use Rattle.vrt_model.specs.declared.circuit.Hold.{Hold}
use Rattle.vrt_model.specs.declared.circuit.HoldEnd.{HoldEnd}
use Rattle.vrt_model.specs.declared.circuit.HoldEnd.TheVariants.{Own, Latch}
use Rattle.vrt_model.specs.declared.design.Design.{Design}
use Rattle.vrt_model.specs.declared.flat_model.FlatModel.{FlatModel}
use Rattle.vrt_model.specs.declared.groups.Group.{Group}
use Rattle.vrt_model.specs.declared.groups.Member.{Member}
use Rattle.vrt_model.specs.declared.rules.Rules.{Rules}
use Rattle.hold_groups.specs.declared.faults.MatchFault.{MatchFault}
use Rattle.hold_groups.specs.declared.faults.MatchFault.TheVariants.{Unmatched, NoMemory}

-- ---- what is asked of groups

-- a hold has a place in the members of a group
pub record IsMemberAt (groups : List Group) (g m hold : ℕ) : Type 0 where
  pub group : Group
  pub member : Member
  pub there : At groups g group
  pub joined : At group.members m member
  pub is : member.hold ≡ hold

-- each hold stands at exactly one place
pub record AreGroups (c : Circuit) (groups : List Group) : Type 0 where
  pub some : (hold : ℕ) → hold < length c.holds → (g : ℕ) × (m : ℕ) × IsMemberAt groups g m hold
  pub once : (g h m n hold : ℕ) → IsMemberAt groups g m hold → IsMemberAt groups h n hold → (g ≡ h) × (m ≡ n)
  pub count : sum_by (λ (g : Group). length g.members) groups ≤ length c.holds

-- ---- what the call says

abbrev pub GroupsGive : Design → Circuit → FlatModel → Rules → ℕ → Result (List Group) MatchFault → Type 0
GroupsGive design c flat rules cell (Ok groups) =
    (groups ≡ groups_of c flat) × AreGroups c groups × (unmatched rules (cell_at design cell).name flat groups ≡ None)
GroupsGive design c flat rules cell (Err (Unmatched name)) = unmatched rules (cell_at design cell).name flat (groups_of c flat) ≡ Some name
GroupsGive design c flat rules cell (Err NoMemory) = Unit {0}

-- ---- holds in net order

-- the place of the first hold of a net, from 1, and 0 where there is none; the holds are numbered from a number on
abbrev pub first_from : ℕ → List Hold → ℕ → ℕ
first_from k [] n = 0
first_from k (h ∷ hs) n = cond (h.net.0 == n) (k + 1) (first_from (k + 1) hs n)

-- what is there, or else another number
abbrev pub filled : ℕ → ℕ → ℕ
filled k other = cond (k == 0) other k

-- the places that are noted, without those of nets that have no hold
abbrev pub noted_place : ℕ → Option ℕ
noted_place k = cond (k == 0) None (Some (k - 1))

abbrev pub noted_places : List ℕ → List ℕ
noted_places table = filter_map noted_place table

-- the places of the holds in net order
abbrev pub places_by_net : Circuit → List ℕ
places_by_net c = map (λ (h : Placed). h.place) (holds_by_net c)

-- ---- keys of ends

abbrev pub end_kind : HoldEnd → ℕ
end_kind (Own net) = 0
end_kind (Latch None element) = 1
end_kind (Latch (Some instance) element) = 2

abbrev pub end_number : HoldEnd → ℕ
end_number (Own net) = net.0
end_number (Latch None element) = 0
end_number (Latch (Some instance) element) = instance

abbrev pub end_name : HoldEnd → List ℕ
end_name (Own net) = []
end_name (Latch instance element) = element

-- a byte for the kind, four for the net or the instance, and the name of the element
abbrev pub key_of : HoldEnd → List ℕ
key_of end = (end_kind end ∷ []) ++ to_le_bytes w32 (end_number end) ++ end_name end

-- ---- groups of some holds

abbrev pub member_of : Placed → Member
member_of h = let one : Member = record { hold = h.place; inverted = h.hold.inverted } in one

abbrev pub members_in : List Placed → HoldEnd → List Member
members_in hs end = filter_map (λ (h : Placed). cond (same_end h.hold.end end) (Some (member_of h)) None) hs

-- the place of the element of the checked cell's model that an end is, by the names of its elements
abbrev pub element_in : List (List ℕ) → HoldEnd → Option ℕ
element_in elements (Own net) = None
element_in elements (Latch None name) = place_of elements name
element_in elements (Latch (Some instance) name) = None

abbrev pub group_in : List (List ℕ) → List Placed → HoldEnd → Group
group_in elements hs end = record { members = members_in hs end; element = element_in elements end }

-- the groups of some holds, and the keys of their ends
abbrev pub groups_in : List (List ℕ) → List Placed → List Group
groups_in elements hs = map (λ (h : Placed). group_in elements hs h.hold.end) (leaders hs)

abbrev pub keys_in : List Placed → List (List ℕ)
keys_in hs = map (λ (h : Placed). key_of h.hold.end) (leaders hs)

-- ---- one hold more

abbrev pub with_member : Group → Member → Group
with_member group member = record { members = group.members ++ member ∷ []; element = group.element }

abbrev pub new_group : List (List ℕ) → Member → HoldEnd → Group
new_group elements member end = record { members = member ∷ []; element = element_in elements end }

-- the group of a number has one member more, or there is one group more
pub record Joins (elements : List (List ℕ)) (number : ℕ) (member : Member) (end : HoldEnd) (old new : List Group) : Type 0 where
  pub one_more : (group : Group) → At old number group → new ≡ set old number (with_member group member)
  pub one_new : length old ≤ number → new ≡ old ++ new_group elements member end ∷ []
