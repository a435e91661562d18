-- What the groups of a circuit's holds are: their members are holds, each has one, and each hold is a member.
use Rattle.std.proofs.Common.{◌≡◌, ℕ, zero, suc, ◌<◌, ◌∷◌, [], Bool, true, false, cond, List, Option, Some, None, length, arith, ap, sym, subst, ◌∙◌}
use Rattle.std.specs.Prelude.{bytes_eq}
use Rattle.std.proofs.lemmas.List.Quantifiers.{position-Some}
use Rattle.std.proofs.lemmas.Option.{cond_some, none-some, slice_get_within}
use Rattle.hold_groups.proofs.GivenGroups.{given_groups, groups_are}
use Rattle.hold_groups.proofs.KeyLaws.{same_itself}
use Rattle.hold_groups.proofs.PlacedLaws.{hold_there}
use Rattle.hold_groups.specs.Grouped.{IsMemberAt}
use Rattle.run_laws.specs.WellFormed.{IsWellFormed}
use Rattle.vrt_model.proofs.Lists.{among_filter_map, at_map, at_there, filter_map_among}
use Rattle.vrt_model.proofs.Members.{among_filter, among_later}
use Rattle.vrt_model.specs.Comparison.{Comparison}
use Rattle.vrt_model.specs.Elements.{element_names}
use Rattle.vrt_model.specs.Groups.{Placed, element_of, group_of, groups_of, holds_by_net, leaders, same_end}
use Rattle.vrt_model.specs.Lists.{Among, At}
use Rattle.vrt_model.specs.declared.circuit.Circuit.{Circuit}
use Rattle.vrt_model.specs.declared.circuit.Hold.{Hold}
use Rattle.vrt_model.specs.declared.circuit.HoldEnd.{HoldEnd}
use Rattle.vrt_model.specs.declared.circuit.HoldEnd.TheVariants.{Own, Latch}
use Rattle.vrt_model.specs.declared.flat_model.FlatModel.{FlatModel}
use Rattle.vrt_model.specs.declared.groups.Group.{Group}
use Rattle.vrt_model.specs.declared.groups.Member.{Member}

-- a leader is one of the holds
leader_among : (hs : List Placed) (x : Placed) → Among (leaders hs) x → Among hs x
leader_among [] x m = m
leader_among (h ∷ hs) x (zero, e) = (zero, e)
leader_among (h ∷ hs) x (suc i, e) =
    among_later h hs x (leader_among hs x (among_filter (λ (other : Placed). cond (same_end h.hold.end other.hold.end) false true) (leaders hs) x (i, e)))

element_low : (flat : FlatModel) (end : HoldEnd) (e : ℕ) → element_of flat end ≡ Some e → e < length (element_names flat)
element_low flat (Own net) e is = absurd (none-some e is)
element_low flat (Latch (Some i) name) e is = absurd (none-some e is)
element_low flat (Latch None name) e is = (position-Some (bytes_eq name) (element_names flat) e [] is).0

module _ (c : Circuit) (flat : FlatModel) where
  abbrev member_in : HoldEnd → Placed → Option Member
  member_in end h = cond (same_end h.hold.end end) (let one : Member = record { hold = h.place; inverted = h.hold.inverted } in Some one) None

  -- a group is that of the end of a hold
  leader_of : (at : ℕ) (group : Group) → At (groups_of c flat) at group → (h : Placed) × Among (holds_by_net c) h × (group_of c flat h.hold.end ≡ group)
  unfolding groups_of
  leader_of at group there =
      let h = at_map (λ (h : Placed). group_of c flat h.hold.end) (leaders (holds_by_net c)) at group there in
      (h.0, leader_among (holds_by_net c) h.0 (at, h.1), h.2)

  member_is_hold : (at : ℕ) (group : Group) (one : Member) → At (groups_of c flat) at group → Among group.members one → (h : Hold) × At c.holds one.hold h
  member_is_hold at group one there among =
      let lead = leader_of at group there in
      let listed = subst (λ (g : Group). Among g.members one) (sym lead.2) among in
      let from = among_filter_map (member_in lead.0.hold.end) (holds_by_net c) one listed in
      let h : Placed = from.0 in
      let made : Member = record { hold = h.place; inverted = h.hold.inverted } in
      let is = (cond_some (same_end h.hold.end lead.0.hold.end) made one from.2).1 in
      (h.hold, subst (λ (m : Member). At c.holds m.hold h.hold) is (hold_there c h from.1))

  has_first : (at : ℕ) (group : Group) → At (groups_of c flat) at group → (one : Member) × At group.members 0 one
  has_first at group there =
      let lead = leader_of at group there in
      let h : Placed = lead.0 in
      let made : Member = record { hold = h.place; inverted = h.hold.inverted } in
      let listed = filter_map_among (member_in h.hold.end) (holds_by_net c) lead.1.0 h made lead.1.1 (ap (λ (b : Bool). cond b (Some made) None) (same_itself h.hold.end)) in
      let some = slice_get_within (group_of c flat h.hold.end).members listed.0 made listed.1 in
      subst (λ (g : Group). (one : Member) × At g.members 0 one) lead.2 (at_there (group_of c flat h.hold.end).members 0 (omega (arith, some)))

  element_there : (at : ℕ) (group : Group) (e : ℕ) → At (groups_of c flat) at group → group.element ≡ Some e → e < length (element_names flat)
  element_there at group e there is =
      let lead = leader_of at group there in element_low flat lead.0.hold.end e (ap (λ (g : Group). g.element) lead.2 ∙ is)

module _ (k : Comparison) (good : IsWellFormed k) where
  as_made : (at : ℕ) (group : Group) → At k.groups at group → At (groups_of k.circuit k.model) at group
  as_made at group there = subst (λ (groups : List Group). At groups at group) good.groups there

  pub member_hold : (at : ℕ) (group : Group) (one : Member) → At k.groups at group → Among group.members one → (h : Hold) × At k.circuit.holds one.hold h
  member_hold at group one there among = member_is_hold k.circuit k.model at group one (as_made at group there) among

  pub first_member : (at : ℕ) (group : Group) → At k.groups at group → (one : Member) × At group.members 0 one
  first_member at group there = has_first k.circuit k.model at group (as_made at group there)

  pub group_element : (at : ℕ) (group : Group) (e : ℕ) → At k.groups at group → group.element ≡ Some e → e < length (element_names k.model)
  group_element at group e there is = element_there k.circuit k.model at group e (as_made at group there) is

  -- each hold is a member of a group
  pub hold_member : (place : ℕ) → place < length k.circuit.holds → (g : ℕ) × (at : ℕ) × IsMemberAt k.groups g at place
  hold_member place lt = (given_groups k.circuit k.model good.circuit k.groups (good.groups ∙ sym (groups_are k.circuit k.model))).1.some place lt
