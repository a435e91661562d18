-- Numbers are put into groups in order, so that each group rises and has exactly the numbers of its owner.
use Rattle.std.proofs.Common.{◌≡◌, ℕ, zero, suc, ◌+◌, ◌<◌, ◌⊎◌, Bool, List, [], ◌∷◌, ◌++◌, None, Option, Some, arith, ap, subst, sym, inl, inr}
use Rattle.std.proofs.lemmas.Bool.{cases_eq}
use Rattle.std.specs.Prelude.{option_map, unwrap_or}
use Rattle.std.proofs.lemmas.Option.{none-some, same_Some, slice_get_within}
use Rattle.channel_parts.specs.Groups.{AreGroups, IsGroup, device_owner, device_owner_at}
use Rattle.channel_parts.specs.PartLists.{IsRising}
use Rattle.known_nets.proofs.PlaceLaws.{below_or_at}
use Rattle.known_nets.specs.Placed.{IsPlaced}
use Rattle.vrt_model.proofs.Lists.{at_split}
use Rattle.vrt_model.proofs.Members.{among_either, among_left, among_right}
use Rattle.vrt_model.specs.Lists.{At, Among}
use Rattle.vrt_model.specs.declared.circuit.Circuit.{Circuit}
use Rattle.vrt_model.specs.declared.circuit.Device.{Device}

-- ---- one more at the end

rising_more : (xs : List ℕ) (n : ℕ) → IsRising xs → ((x : ℕ) → Among xs x → x < n) → IsRising (xs ++ n ∷ [])
rising_more xs n up low i j a b p q lt =
    elim (at_split xs n j b q) [
      | inl before ↦
          elim (at_split xs n i a p) [
            | inl first ↦ up i j a b first before lt
            | inr last ↦ (let inside = slice_get_within xs j b before in let place = last.0 in absurd (omega (arith, place, inside, lt)))
          ]
      | inr last ↦
          elim (at_split xs n i a p) [
            | inl first ↦ (let below = low a (i, first) in let same = last.1 in omega (arith, below, same))
            | inr also ↦ (let left = also.0 in let right = last.0 in absurd (omega (arith, left, right, lt)))
          ]
    ]

-- ---- groups

-- to begin with there is no number
pub none_grouped : (owner : ℕ → Option ℕ) (groups : List (List ℕ)) → ((k : ℕ) (group : List ℕ) → At groups k group → group ≡ []) → AreGroups owner 0 groups
none_grouped owner groups empty k group at =
    subst (IsGroup owner 0 k) (sym (empty k group at)) (record {
      rising = λ i j a b p q lt. absurd (none-some a p);
      own = λ n. (λ a. absurd (none-some n a.1), λ h. (let lt = h.0 in absurd (omega (arith, lt))));
    })

pub owned : (o : Option ℕ) (k : ℕ) → (o ≡ Some k) ⊎ (o ≡ Some k → ⊥)
owned None k = inr (λ e. none-some k e)
owned (Some m) k = elim (cases_eq m k) [ inl e ↦ inl (ap Some e) | inr ne ↦ inr (λ e. ne (same_Some m k e)) ]

the_one : (n m : ℕ) → Among (n ∷ []) m → n ≡ m
the_one n m (zero, q) = same_Some n m q
the_one n m (suc i, q) = absurd (none-some m q)

own_group : (owner : ℕ → Option ℕ) (n k : ℕ) (before : List ℕ) → owner n ≡ Some k → IsGroup owner n k before → IsGroup owner (n + 1) k (before ++ n ∷ [])
own_group owner n k before e g = record {
  rising = rising_more before n g.rising (λ x a. ((g.own x).0 a).0);
  own = λ m. (there m, back m);
}
  where
    there : (m : ℕ) → Among (before ++ n ∷ []) m → (m < n + 1) × (owner m ≡ Some k)
    there m a =
        elim (among_either before (n ∷ []) m a) [
          | inl h ↦ (let was = (g.own m).0 h in let lt = was.0 in (omega (arith, lt), was.1))
          | inr h ↦ (let same = the_one n m h in (omega (arith, same), subst (λ (x : ℕ). owner x ≡ Some k) same e))
        ]

    back : (m : ℕ) → (m < n + 1) × (owner m ≡ Some k) → Among (before ++ n ∷ []) m
    back m h =
        elim (below_or_at n m h.0) [
          | inl low ↦ among_left before (n ∷ []) m ((g.own m).1 (low, h.1))
          | inr same ↦ among_right before (n ∷ []) m (zero, ap Some (sym same))
        ]

other_group : (owner : ℕ → Option ℕ) (n k : ℕ) (group : List ℕ) → (owner n ≡ Some k → ⊥) → IsGroup owner n k group → IsGroup owner (n + 1) k group
other_group owner n k group ne g = record {
  rising = g.rising;
  own = λ m. (
    λ a. (let was = (g.own m).0 a in let lt = was.0 in (omega (arith, lt), was.1)),
    λ h. elim (below_or_at n m h.0) [ inl low ↦ (g.own m).1 (low, h.1) | inr same ↦ absurd (ne (subst (λ (x : ℕ). owner x ≡ Some k) same h.1)) ],
  );
}

-- and one more is put into its group
pub more_grouped : (owner : ℕ → Option ℕ) (n : ℕ) (old new : List (List ℕ)) → IsPlaced (owner n) n old new → AreGroups owner n old → AreGroups owner (n + 1) new
more_grouped owner n old new placed groups k group at =
    elim (owned (owner n) k) [
      | inl e ↦ (let before = placed.own k group at e in subst (IsGroup owner (n + 1) k) (sym before.2) (own_group owner n k before.0 e (groups k before.0 before.1)))
      | inr ne ↦ other_group owner n k group ne (groups k group (placed.others k group at ne))
    ]

-- ---- the owner of a device by its number

pub device_placed : (c : Circuit) (known : List (Option Bool)) (least : List ℕ) (bare : Bool) (k : ℕ) (d : Device) → At c.devices k d → device_owner c known least bare d ≡ device_owner_at c known least bare k
device_placed c known least bare k d at = sym (ap (λ (o : Option Device). unwrap_or (option_map (device_owner c known least bare) o) None) at)

pub placed_as : (o q : Option ℕ) (n m : ℕ) (old new : List (List ℕ)) → o ≡ q → n ≡ m → IsPlaced o n old new → IsPlaced q m old new
placed_as o q n m old new e f placed = subst (λ (x : Option ℕ). IsPlaced x m old new) e (subst (λ (k : ℕ). IsPlaced o k old new) f placed)
