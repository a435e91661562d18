-- What is put into a table by net, one after the other.
use Rattle.std.proofs.Common.{◌≡◌, ℕ, zero, suc, ◌+◌, ◌<◌, ◌≤◌, ◌⊎◌, Bool, List, ◌∷◌, Option, Some, length, arith, refl, sym, subst, ◌∙◌, inl, inr}
use Rattle.std.proofs.lemmas.Bool.{cases_eq}
use Rattle.std.proofs.lemmas.Option.{same_Some, slice_get_within}
use Rattle.phase_wishes.specs.Held.{IsOfEnter, IsOfEnters, IsOfGroup, IsOfMember, IsOfMembers, Puts, alone, base_of}
use Rattle.phase_wishes.specs.declared.bases.Stored.{Stored}
use Rattle.vrt_model.specs.declared.groups.Group.{Group}
use Rattle.vrt_model.specs.declared.groups.Member.{Member}
use Rattle.phase_wishes.specs.declared.wishes.Wanted.{Wanted}
use Rattle.phase_wishes.specs.declared.wishes.Wanted.TheVariants.{Constant}
use Rattle.vrt_model.proofs.Members.{among_later}
use Rattle.vrt_model.specs.Lists.{Among}
use Rattle.vrt_model.specs.Variables.{enter_of}
use Rattle.vrt_model.specs.declared.circuit.Circuit.{Circuit}

pub puts_as : (P Q : ℕ → Wanted → Type 0) (a b : List (Option Wanted)) → ((n : ℕ) (w : Wanted) → P n w → Q n w) → ((n : ℕ) (w : Wanted) → Q n w → P n w) → Puts P a b → Puts Q a b
puts_as P Q a b to from p = record {
  len = p.len;
  kept = λ n w e. elim (p.kept n w e) [ inl old ↦ inl old | inr is ↦ inr (to n w is) ];
  there = λ n w q lt. p.there n w (from n w q) lt;
  stay = p.stay;
}

pub puts_then : (P Q R : ℕ → Wanted → Type 0) (a b c : List (Option Wanted)) → ((n : ℕ) (w : Wanted) → P n w ⊎ Q n w → R n w) → ((n : ℕ) (w : Wanted) → R n w → P n w ⊎ Q n w)
    → Puts P a b → Puts Q b c → Puts R a c
puts_then P Q R a b c to from p q = record {
  len = q.len ∙ p.len;
  kept = λ n w e.
      elim (q.kept n w e) [
        | inl mid ↦ elim (p.kept n w mid) [ inl old ↦ inl old | inr is ↦ inr (to n w (inl is)) ]
        | inr is ↦ inr (to n w (inr is))
      ];
  there = λ n w r lt.
      elim (from n w r) [
        | inl is ↦ (let mid = p.there n w is lt in q.stay n mid.0 mid.1)
        | inr is ↦ q.there n w is (let len = p.len in omega (arith, len, lt))
      ];
  stay = λ n w e. (let mid = p.stay n w e in q.stay n mid.0 mid.1);
}

-- ---- item by item

module _ (X : Type 0) (Each : X → ℕ → Wanted → Type 0) where
  -- those of one of some items
  abbrev IsOfAny : List X → ℕ → Wanted → Type 0
  IsOfAny xs n w = (x : X) × Among xs x × Each x n w

  pub puts_more : (x : X) (xs : List X) (a b c : List (Option Wanted)) → Puts (Each x) a b → Puts (IsOfAny xs) b c → Puts (IsOfAny (x ∷ xs)) a c
  puts_more x xs a b c p q = puts_then (Each x) (IsOfAny xs) (IsOfAny (x ∷ xs)) a b c to from p q
    where
      to : (n : ℕ) (w : Wanted) → Each x n w ⊎ IsOfAny xs n w → IsOfAny (x ∷ xs) n w
      to n w (inl is) = (x, (zero, refl), is)
      to n w (inr is) = (is.0, among_later x xs is.0 is.1, is.2)

      from : (n : ℕ) (w : Wanted) → IsOfAny (x ∷ xs) n w → Each x n w ⊎ IsOfAny xs n w
      from n w (y, (zero, e), is) = inl (subst (λ (z : X). Each z n w) (sym (same_Some x y e)) is)
      from n w (y, (suc i, e), is) = inr (y, (i, e), is)

  -- what a loop over a list has still to put
  abbrev pub IsPutting : List X → List (Option Wanted) → List X → List (Option Wanted) → Type 0
  IsPutting all first rest t = (last : List (Option Wanted)) → Puts (IsOfAny rest) t last → Puts (IsOfAny all) first last

  pub putting_step : (all rest : List X) (x : X) (behind : List X) (first t u : List (Option Wanted)) → rest ≡ x ∷ behind → IsPutting all first rest t → Puts (Each x) t u → IsPutting all first behind u
  putting_step all rest x behind first t u e putting p last q =
      putting last (subst (λ (ys : List X). Puts (IsOfAny ys) t last) (sym e) (puts_more x behind t u last p q))

-- ---- `enter` lines

module _ (c : Circuit) (phase : ℕ) where
  -- those of the holds before a place
  abbrev pub IsOfEntersTo : ℕ → ℕ → Wanted → Type 0
  IsOfEntersTo count n w = (place : ℕ) × (place < count) × IsOfEnter c phase place n w

  pub enter_is : (place : ℕ) (v : Bool) (a b : List (Option Wanted)) → enter_of c phase place ≡ Some v → Puts (IsOfMember c (Constant v) (alone place)) a b → Puts (IsOfEnter c phase place) a b
  enter_is place v a b e p =
      puts_as (IsOfMember c (Constant v) (alone place)) (IsOfEnter c phase place) a b (λ n w is. (v, e, is))
      (λ n w is. subst (λ (x : Bool). IsOfMember c (Constant x) (alone place) n w) (sym (same_Some v is.0 (sym e ∙ is.1))) is.2) p

  pub enters_more : (place : ℕ) (first t u : List (Option Wanted)) → Puts (IsOfEntersTo place) first t → Puts (IsOfEnter c phase place) t u → Puts (IsOfEntersTo (place + 1)) first u
  enters_more place first t u p q =
      puts_then (IsOfEntersTo place) (IsOfEnter c phase place) (IsOfEntersTo (place + 1)) first t u to from p q
    where
      to : (n : ℕ) (w : Wanted) → IsOfEntersTo place n w ⊎ IsOfEnter c phase place n w → IsOfEntersTo (place + 1) n w
      to n w (inl is) = (is.0, (let lt = is.1 in omega (arith, lt)), is.2)
      to n w (inr is) = (place, omega arith, is)

      from : (n : ℕ) (w : Wanted) → IsOfEntersTo (place + 1) n w → IsOfEntersTo place n w ⊎ IsOfEnter c phase place n w
      from n w is =
          elim (cases_eq is.0 place) [
            | inl e ↦ inr (subst (λ (p : ℕ). IsOfEnter c phase p n w) e is.2)
            | inr ne ↦ inl (is.0, (let lt = is.1 in omega (arith, lt, ne)), is.2)
          ]

  pub enters_done : (count : ℕ) (first t : List (Option Wanted)) → length c.holds ≤ count → Puts (IsOfEntersTo count) first t → Puts (IsOfEnters c phase) first t
  enters_done count first t high p =
      puts_as (IsOfEntersTo count) (IsOfEnters c phase) first t (λ n w is. (is.0, is.2))
      (λ n w is. (is.0, (let within = slice_get_within c.holds is.0 is.1.2.0 is.1.2.1 in omega (arith, within, high)), is.1)) p

-- ---- a group

pub group_is : (c : Circuit) (stored : Stored) (group : Group) (base : Wanted) (members : List Member) (a b : List (Option Wanted)) → base_of c stored group ≡ Some base → members ≡ group.members
    → Puts (IsOfMembers c base members) a b → Puts (IsOfGroup c stored group) a b
group_is c stored group base members a b e listed p =
    puts_as (IsOfMembers c base group.members) (IsOfGroup c stored group) a b (λ n w is. (base, e, is))
    (λ n w is. subst (λ (x : Wanted). IsOfMembers c x group.members n w) (sym (same_Some base is.0 (sym e ∙ is.1))) is.2)
    (subst (λ (ms : List Member). Puts (IsOfMembers c base ms) a b) listed p)
