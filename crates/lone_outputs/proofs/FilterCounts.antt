-- How many items of a list pass a test, by what stands at its places.
use Rattle.std.proofs.Common.{◌≡◌, ◌≢◌, ℕ, zero, suc, ◌+◌, ◌<◌, ◌≤◌, Bool, true, false, cond, List, [], ◌∷◌, Some, length, arith, ap, refl, ◌∙◌, inl, inr}
use Rattle.std.specs.Prelude.{filter}
use Rattle.std.proofs.lemmas.Bool.{cases_Bool}
use Rattle.std.proofs.lemmas.Option.{none-some, same_Some}
use Rattle.vrt_model.specs.Lists.{At}

-- one item more counts where it passes
head_counts : {X : Type 0} (b : Bool) (z : X) (rest : List X) → length (cond b (z ∷ rest) rest) ≡ cond b 1 0 + length rest
head_counts true z rest = omega arith
head_counts false z rest = omega arith

head_passes : {X : Type 0} (p : X → Bool) (z x : X) (rest : List X) → Some z ≡ Some x → p x ≡ true → length (cond (p z) (z ∷ rest) rest) ≡ suc (length rest)
head_passes p z x rest e pass = ap (λ b. length (cond b (z ∷ rest) rest)) (ap p (same_Some z x e) ∙ pass)

head_more : {X : Type 0} (b : Bool) (z : X) (rest : List X) → length rest ≤ length (cond b (z ∷ rest) rest)
head_more true z rest = omega arith
head_more false z rest = omega arith

-- what passes counts
pub one_counts : {X : Type 0} (p : X → Bool) (xs : List X) (i : ℕ) (x : X) → At xs i x → p x ≡ true → 0 < length (filter p xs)
one_counts p [] i x e pass = absurd (none-some x e)
one_counts p (z ∷ zs) zero x e pass = (let is = head_passes p z x (filter p zs) e pass in omega (arith, is))
one_counts p (z ∷ zs) (suc i) x e pass =
    (let below = one_counts p zs i x e pass in let more = head_more (p z) z (filter p zs) in omega (arith, below, more))

-- two that pass count twice
pub two_count : {X : Type 0} (p : X → Bool) (xs : List X) (i j : ℕ) (x y : X) → At xs i x → At xs j y → p x ≡ true → p y ≡ true → i ≢ j → 1 < length (filter p xs)
two_count p [] i j x y at other px py apart = absurd (none-some x at)
two_count p (z ∷ zs) zero zero x y at other px py apart = absurd (apart refl)
two_count p (z ∷ zs) zero (suc j) x y at other px py apart =
    (let is = head_passes p z x (filter p zs) at px in let below = one_counts p zs j y other py in omega (arith, is, below))
two_count p (z ∷ zs) (suc i) zero x y at other px py apart =
    (let is = head_passes p z y (filter p zs) other py in let below = one_counts p zs i x at px in omega (arith, is, below))
two_count p (z ∷ zs) (suc i) (suc j) x y at other px py apart =
    (let below = two_count p zs i j x y at other px py (λ e. apart (ap suc e)) in let more = head_more (p z) z (filter p zs) in omega (arith, below, more))

-- an item that passes
pub record Passes {X : Type 0} (p : X → Bool) (xs : List X) : Type 0 where
  pub place : ℕ
  pub item : X
  pub there : At xs place item
  pub passes : p item ≡ true

abbrev later_passes : {X : Type 0} (p : X → Bool) (z : X) (zs : List X) → Passes p zs → Passes p (z ∷ zs)
later_passes p z zs q = record { place = suc q.place; item = q.item; there = q.there; passes = q.passes }

-- where some count, one passes
pub some_passes : {X : Type 0} (p : X → Bool) (xs : List X) → 0 < length (filter p xs) → Passes p xs
some_passes p [] some = absurd (omega (arith, some))
some_passes p (z ∷ zs) some =
    elim (cases_Bool (p z)) [
      | inl pass ↦ record { place = 0; item = z; there = refl; passes = pass }
      | inr fails ↦
          let is = ap (λ b. length (cond b (z ∷ filter p zs) (filter p zs))) fails in
          later_passes p z zs (some_passes p zs (omega (arith, is, some)))
    ]

-- places apart
first_apart : (i : ℕ) → suc i ≢ zero
first_apart i e = omega (arith, e)

later_first : (j : ℕ) → zero ≢ suc j
later_first j e = omega (arith, e)

later_apart : (i j : ℕ) → i ≢ j → suc i ≢ suc j
later_apart i j apart e = apart (omega (arith, e))

-- an item that passes at another place
pub record PassesBeside {X : Type 0} (p : X → Bool) (xs : List X) (j : ℕ) : Type 0 where
  pub of : Passes p xs
  pub beside : of.place ≢ j

-- where more than one count, one passes at another place than this
pub other_passes : {X : Type 0} (p : X → Bool) (xs : List X) (j : ℕ) → 1 < length (filter p xs) → PassesBeside p xs j
other_passes p [] j more = absurd (omega (arith, more))
other_passes p (z ∷ zs) zero more =
    let is = head_counts (p z) z (filter p zs) in
    let some : 0 < length (filter p zs) = by_head (p z) is in
    let found = some_passes p zs some in
    record { of = later_passes p z zs found; beside = first_apart found.place }
  where
    by_head : (b : Bool) → length (filter p (z ∷ zs)) ≡ cond b 1 0 + length (filter p zs) → 0 < length (filter p zs)
    by_head true is = omega (arith, is, more)
    by_head false is = omega (arith, is, more)
other_passes p (z ∷ zs) (suc j) more =
    elim (cases_Bool (p z)) [
      | inl pass ↦ record { of = record { place = 0; item = z; there = refl; passes = pass }; beside = later_first j }
      | inr fails ↦
          let is = ap (λ b. length (cond b (z ∷ filter p zs) (filter p zs))) fails in
          let below = other_passes p zs j (omega (arith, is, more)) in
          record { of = later_passes p z zs below.of; beside = later_apart below.of.place j below.beside }
    ]
