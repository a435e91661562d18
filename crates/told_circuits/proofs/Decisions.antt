-- What can be decided: what is made of decided statements, and whether something of a list, or of the two ends of a device, is so.
use Rattle.std.proofs.Common.{◌≡◌, ℕ, ◌⊎◌, Bool, true, false, List, [], ◌∷◌, zero, suc, None, Option, Some, slice_get, refl, subst, sym, ◌∙◌, inl, inr}
use Rattle.std.specs.Prelude.{◌↔◌, bytes_eq}
use Rattle.std.proofs.lemmas.Bool.{cases_eq, false≢true}
use Rattle.std.proofs.lemmas.Option.{none-some, same_Some}
use Rattle.std.proofs.lemmas.Slice.Eq.{bytes_eq-Decides}
use Rattle.told_circuits.specs.Told.{HasTest}
use Rattle.vrt_model.proofs.Members.{among_later, at_none}
use Rattle.vrt_model.specs.Lists.{At, Among}
use Rattle.vrt_model.specs.Path.{Joins}
use Rattle.vrt_model.specs.declared.circuit.Device.{Device}

-- a statement holds, or it does not
abbrev pub IsDecided : Type 0 → Type 0
IsDecided P = P ⊎ (¬ P)

-- ---- what is made of decided statements

pub decided_by : (P : Type 0) (test : Bool) → ((test ≡ true) ↔ P) → IsDecided P
decided_by P true is = inl (is.0 refl)
decided_by P false is = inr (λ p. false≢true (is.1 p))

pub as_decided : (P Q : Type 0) → (P → Q) → (Q → P) → IsDecided P → IsDecided Q
as_decided P Q forth back (inl p) = inl (forth p)
as_decided P Q forth back (inr none) = inr (λ q. none (back q))

pub both_decided : (P Q : Type 0) → IsDecided P → IsDecided Q → IsDecided (P × Q)
both_decided P Q (inl p) (inl q) = inl (p, q)
both_decided P Q (inl p) (inr none) = inr (λ h. none h.1)
both_decided P Q (inr none) q = inr (λ h. none h.0)

pub either_decided : (P Q : Type 0) → IsDecided P → IsDecided Q → IsDecided (P ⊎ Q)
either_decided P Q (inl p) q = inl (inl p)
either_decided P Q (inr none) (inl q) = inl (inr q)
either_decided P Q (inr none) (inr other) = inr (λ h. elim h [ inl p ↦ none p | inr q ↦ other q ])

pub not_decided : (P : Type 0) → IsDecided P → IsDecided (¬ P)
not_decided P (inl p) = inr (λ none. none p)
not_decided P (inr none) = inl none

-- ---- numbers, names and what a list has

pub same_number : (m n : ℕ) → IsDecided (m ≡ n)
same_number m n = cases_eq m n

pub none_decided : {X : Type 0} (o : Option X) → IsDecided (o ≡ None)
none_decided None = inl refl
none_decided (Some x) = inr (λ e. none-some x (sym e))

pub same_name : (a b : List ℕ) → IsDecided (a ≡ b)
same_name a b = decided_by (a ≡ b) (bytes_eq a b) (bytes_eq-Decides a b)

-- something of a list is so
pub some_in : {X : Type 0} (P : X → Type 0) → ((x : X) → IsDecided (P x)) → (xs : List X) → IsDecided ((x : X) × Among xs x × P x)
some_in P each [] = inr (λ h. at_none h.1.0 h.0 h.1.1)
some_in {X} P each (y ∷ ys) = by_first (each y) (some_in P each ys)
  where
    by_first : IsDecided (P y) → IsDecided ((x : X) × Among ys x × P x) → IsDecided ((x : X) × Among (y ∷ ys) x × P x)
    by_first (inl p) later = inl (y, (zero, refl), p)
    by_first (inr none) (inl h) = inl (h.0, among_later y ys h.0 h.1, h.2)
    by_first (inr none) (inr others) = inr (λ h. at_place h.0 h.1.0 h.1.1 h.2)
      where
        at_place : (x : X) (i : ℕ) → At (y ∷ ys) i x → P x → ⊥
        at_place x zero e p = none (subst P (sym (same_Some y x e)) p)
        at_place x (suc i) e p = others (x, (i, e), p)

-- a number is in a list
pub listed : (xs : List ℕ) (n : ℕ) → IsDecided (Among xs n)
listed xs n =
    as_decided ((x : ℕ) × Among xs x × (x ≡ n)) (Among xs n) (λ h. subst (Among xs) h.2 h.1) (λ m. (n, m, refl))
    (some_in (λ (x : ℕ). x ≡ n) (λ x. same_number x n) xs)

-- what stands at a place is so
pub some_at : {X : Type 0} (P : X → Type 0) → ((x : X) → IsDecided (P x)) → (xs : List X) (i : ℕ) → IsDecided ((x : X) × At xs i x × P x)
some_at {X} P each xs i = by_entry (slice_get xs i) refl
  where
    by_entry : (o : Option X) → slice_get xs i ≡ o → IsDecided ((x : X) × At xs i x × P x)
    by_entry None e = inr (λ h. none-some h.0 (sym e ∙ h.1))
    by_entry (Some x) e = as_decided (P x) ((y : X) × At xs i y × P y) (λ p. (x, e, p)) (λ h. subst P (same_Some h.0 x (sym h.1 ∙ e)) h.2) (each x)

-- ---- the ends of a device

-- what a device joins to a net is so
pub some_end : (P : ℕ → Type 0) → ((m : ℕ) → IsDecided (P m)) → (d : Device) (n : ℕ) → IsDecided ((m : ℕ) × Joins d n m × P m)
some_end P each d n =
    as_decided (((d.left.0 ≡ n) × P d.right.0) ⊎ ((d.right.0 ≡ n) × P d.left.0)) ((m : ℕ) × Joins d n m × P m)
    (λ h. elim h [ inl right ↦ (d.right.0, inl (right.0, refl), right.1) | inr left ↦ (d.left.0, inr (refl, left.0), left.1) ])
    (λ h. elim h.1 [ inl q ↦ inl (q.0, subst P (sym q.1) h.2) | inr q ↦ inr (q.1, subst P (sym q.0) h.2) ])
    (either_decided ((d.left.0 ≡ n) × P d.right.0) ((d.right.0 ≡ n) × P d.left.0)
    (both_decided (d.left.0 ≡ n) (P d.right.0) (same_number d.left.0 n) (each d.right.0))
    (both_decided (d.right.0 ≡ n) (P d.left.0) (same_number d.right.0 n) (each d.left.0)))

-- ---- tests

is_so : (P : Type 0) → IsDecided P → Bool
is_so P (inl p) = true
is_so P (inr none) = false

so_is : (P : Type 0) (d : IsDecided P) → (is_so P d ≡ true) ↔ P
unfolding is_so
so_is P (inl p) = (λ e. p, λ q. refl)
so_is P (inr none) = (λ e. absurd (false≢true e), λ q. absurd (none q))

-- a relation of numbers that is decided at each two has a test
pub has_test : (R : ℕ → ℕ → Type 0) → ((n m : ℕ) → IsDecided (R n m)) → HasTest R
has_test R each = (λ n m. is_so (R n m) (each n m), λ n m. so_is (R n m) (each n m))
