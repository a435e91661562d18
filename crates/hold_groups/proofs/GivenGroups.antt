-- The groups as they are made are those of the definition.
use Rattle.std.proofs.Common.{◌≡◌, ℕ, List, None, Some, Option, map, ap, refl, subst, sym, ◌∙◌}
use mathlib.Core.Path.{fun_ext}
use Rattle.vrt_model.specs.Circuits.{IsCircuit}
use Rattle.vrt_model.specs.Elements.{element_names}
use Rattle.vrt_model.specs.Groups.{Placed, element_of, groups_of, holds_by_net, leaders}
use Rattle.vrt_model.specs.Unsupported.{unmatched}
use Rattle.vrt_model.specs.declared.circuit.Circuit.{Circuit}
use Rattle.vrt_model.specs.declared.circuit.HoldEnd.{HoldEnd}
use Rattle.vrt_model.specs.declared.circuit.HoldEnd.TheVariants.{Own, Latch}
use Rattle.vrt_model.specs.declared.flat_model.FlatModel.{FlatModel}
use Rattle.vrt_model.specs.declared.groups.Group.{Group}
use Rattle.vrt_model.specs.declared.rules.Rules.{Rules}
use Rattle.hold_groups.proofs.GroupLaws.{are_groups}
use Rattle.hold_groups.proofs.LineLaws.{unmatched_are}
use Rattle.hold_groups.specs.Grouped.{AreGroups, element_in, groups_in, members_in}
use Rattle.hold_groups.specs.Steps.{unmatched_in}

element_is : (flat : FlatModel) (end : HoldEnd) → element_in (element_names flat) end ≡ element_of flat end
element_is flat (Own net) = refl
element_is flat (Latch None name) = refl
element_is flat (Latch (Some i) name) = refl

module _ (c : Circuit) (flat : FlatModel) where
  abbrev with_element : HoldEnd → Option ℕ → Group
  with_element end element = record { members = members_in (holds_by_net c) end; element = element }

  pub groups_are : groups_in (element_names flat) (holds_by_net c) ≡ groups_of c flat
  unfolding groups_of
  groups_are = ap (λ (f : Placed → Group). map f (leaders (holds_by_net c))) (fun_ext (λ (h : Placed). ap (with_element h.hold.end) (element_is flat h.hold.end)))

  pub given_groups : IsCircuit c → (groups : List Group) → groups ≡ groups_in (element_names flat) (holds_by_net c) → (groups ≡ groups_of c flat) × AreGroups c groups
  given_groups circuit groups e = (e ∙ groups_are, subst (AreGroups c) (sym e) (are_groups (element_names flat) c circuit))

  -- what is not matched, by the groups as they are made
  pub given_unmatched : (rules : Rules) (cell : List ℕ) (elements : List (List ℕ)) (groups : List Group) (name : Option (List ℕ)) → elements ≡ element_names flat
      → groups ≡ groups_in (element_names flat) (holds_by_net c) → name ≡ unmatched_in elements rules cell groups → unmatched rules cell flat (groups_of c flat) ≡ name
  given_unmatched rules cell elements groups name es gs e =
      ap (unmatched rules cell flat) (sym (gs ∙ groups_are)) ∙ sym (e ∙ ap (λ (names : List (List ℕ)). unmatched_in names rules cell groups) es ∙ unmatched_are flat rules cell groups)
