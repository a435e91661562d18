-- The held value of a hold, where all members of groups have the bits that a memory has.
use Rattle.std.proofs.Common.{◌≡◌, ℕ, zero, suc, ◌+◌, ◌∷◌, [], Bool, List, Option, Some, None, arith, ap, refl, sym, subst, ◌∙◌}
use Rattle.std.specs.Prelude.{◌==◌}
use Rattle.std.proofs.lemmas.Bool.{true≢false}
use Rattle.std.proofs.lemmas.Bool.Decides.{Decides-eqb}
use Rattle.std.proofs.lemmas.Option.{none-some, same_Some}
use Rattle.vrt_model.proofs.Members.{find_among, find_none}
use Rattle.vrt_model.specs.Held.{group_bit, held_by, held_in, member_of}
use Rattle.vrt_model.specs.Lists.{Among, At, differ}
use Rattle.vrt_model.specs.declared.circuit.Circuit.{Circuit}
use Rattle.vrt_model.specs.declared.groups.Group.{Group}
use Rattle.vrt_model.specs.declared.groups.Member.{Member}
use Rattle.vrt_model.specs.declared.groups.Source.{Source}

module _ (c : Circuit) (phase : ℕ) (sources : List Source) (bits : List Bool) (held : ℕ → Bool) where
  -- each member of each group has the bit of the memory, where the groups are numbered from a number on
  abbrev pub HasBits : ℕ → List Group → Type 0
  HasBits number groups =
      (at : ℕ) (group : Group) (one : Member) → At groups at group → Among group.members one
      → differ one.inverted (group_bit c phase sources bits (number + at) group) ≡ held one.hold

  first_has : (number : ℕ) (x : Group) (xs : List Group) → HasBits number (x ∷ xs) → (one : Member) → Among x.members one → differ one.inverted (group_bit c phase sources bits number x) ≡ held one.hold
  first_has number x xs each one among =
      ap (λ (n : ℕ). differ one.inverted (group_bit c phase sources bits n x)) (let e : number ≡ number + 0 = omega arith in e) ∙ each 0 x one refl among

  rest_have : (number : ℕ) (x : Group) (xs : List Group) → HasBits number (x ∷ xs) → HasBits (suc number) xs
  rest_have number x xs each at group one there among =
      ap (λ (n : ℕ). differ one.inverted (group_bit c phase sources bits n group)) (let e : suc number + at ≡ number + suc at = omega arith in e) ∙ each (suc at) group one there among

  -- so does a hold that is a member
  pub held_is : (number : ℕ) (groups : List Group) → HasBits number groups → (place at : ℕ) (group : Group) (one : Member) → At groups at group → Among group.members one → one.hold ≡ place
      → held_in c phase sources bits number groups place ≡ held place
  held_is number [] each place at group one there among is = absurd (none-some group there)
  held_is number (x ∷ xs) each place at group one there among is =
      by_found (member_of place x) refl at there (λ j e. held_is (suc number) xs (rest_have number x xs each) place j group one e among is)
    where
      by_found : (o : Option Member) → member_of place x ≡ o → (j : ℕ) → At (x ∷ xs) j group
          → ((j : ℕ) → At xs j group → held_in c phase sources bits (suc number) xs place ≡ held place)
          → held_by o (group_bit c phase sources bits number x) (held_in c phase sources bits (suc number) xs place) ≡ held place
      by_found (Some y) e j at_j rest =
          let found = find_among (λ (m : Member). m.hold == place) x.members y e in
          first_has number x xs each y found.0 ∙ ap held ((Decides-eqb y.hold place).0 found.1)
      by_found None e zero at_j rest =
          let here : Among x.members one = subst (λ (g : Group). Among g.members one) (sym (same_Some x group at_j)) among in
          absurd (true≢false (sym ((Decides-eqb one.hold place).1 is) ∙ find_none (λ (m : Member). m.hold == place) x.members one e here))
      by_found None e (suc j) at_j rest = rest j at_j
