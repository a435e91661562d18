-- Models that end: below them stand no more models than so many levels deep.
use Rattle.std.proofs.Common.{◌≡◌, ◌<◌, ◌≤◌, ◌+◌, ◌∷◌, inl, inr, [], ℕ, zero, suc, List, Bool, true, false, cond, map, length, refl, ap, sym, ◌∙◌, subst, arith}
use Rattle.std.specs.Prelude.{◌==◌, ◌||◌}
use Rattle.std.proofs.lemmas.Bool.{cases_lt, eqb-true}
use Rattle.std.proofs.lemmas.Option.{same_Some}
use Rattle.vrt_model.specs.FlatBlif.{model_at, model_numbered}
use Rattle.vrt_model.specs.Lists.{Among, At, has_number}
use Rattle.vrt_model.specs.Models.{depth_of_model, models_within}
use Rattle.vrt_model.specs.Nesting.{ContainsItself, IsWithin, depth_in, directly, further, greatest}
use Rattle.vrt_model.specs.declared.blif.Blif.{Blif}
use Rattle.vrt_model.specs.declared.blif.SubLine.{SubLine}
use Rattle.vrt_model.proofs.Members.{any_among, at_none}
use Rattle.blif_checks.proofs.NestedLaws.{number_within}
use Rattle.blif_checks.proofs.NoteLaws.{eq_yes}

-- so many levels below one there is nothing
abbrev pub Ends : (ℕ → List ℕ) → ℕ → ℕ → Type 0
Ends inner zero n = (c : ℕ) → ¬ Among (inner n) c
Ends inner (suc d) n = (c : ℕ) → Among (inner n) c → Ends inner d c

ends_more : (inner : ℕ → List ℕ) (d n : ℕ) → Ends inner d n → Ends inner (suc d) n
ends_more inner zero n ends = λ c a. absurd (ends c a)
ends_more inner (suc d) n ends = λ c a. ends_more inner d c (ends c a)

ends_far : (inner : ℕ → List ℕ) (k d n : ℕ) → Ends inner d n → Ends inner (k + d) n
ends_far inner zero d n ends = subst (λ (j : ℕ). Ends inner j n) (plus d) ends where
  plus : (d : ℕ) → d ≡ 0 + d
  plus d = omega arith
ends_far inner (suc k) d n ends = subst (λ (j : ℕ). Ends inner j n) (plus k d) (ends_more inner (k + d) n (ends_far inner k d n ends)) where
  plus : (k d : ℕ) → suc (k + d) ≡ suc k + d
  plus k d = omega arith

pub ends_upto : (inner : ℕ → List ℕ) (d e n : ℕ) → d ≤ e → Ends inner d n → Ends inner e n
ends_upto inner zero e n le ends = subst (λ (j : ℕ). Ends inner j n) (plus e) (ends_far inner e 0 n ends) where
  plus : (e : ℕ) → e + 0 ≡ e
  plus e = omega arith
ends_upto inner (suc d) zero n le ends = absurd (omega (arith, le))
ends_upto inner (suc d) (suc e) n le ends = λ c a. ends_upto inner d e c (omega (arith, le)) (ends c a)

-- ---- by depths

at_greatest : (f : ℕ → ℕ) (xs : List ℕ) (i x : ℕ) → At xs i x → f x ≤ greatest (map f xs)
at_greatest f [] i x e = absurd (at_none i x e)
at_greatest f (y ∷ xs) zero x e = let same : f y ≡ f x = ap f (same_Some y x e) in omega (arith, same)
at_greatest f (y ∷ xs) (suc i) x e = let rest = at_greatest f xs i x e in omega (arith, rest)

greatest_more : (f g : ℕ → ℕ) → ((x : ℕ) → f x ≤ g x) → (xs : List ℕ) → greatest (map f xs) ≤ greatest (map g xs)
greatest_more f g more [] = omega arith
greatest_more f g more (x ∷ xs) = let here = more x in let rest = greatest_more f g more xs in omega (arith, here, rest)

some_depth : (inner : ℕ → List ℕ) (k n : ℕ) → 1 ≤ depth_in inner k n
some_depth inner zero n = omega arith
some_depth inner (suc k) n = omega arith

depth_more : (inner : ℕ → List ℕ) (k j n : ℕ) → k ≤ j → depth_in inner k n ≤ depth_in inner j n
depth_more inner zero j n le = some_depth inner j n
depth_more inner (suc k) zero n le = absurd (omega (arith, le))
depth_more inner (suc k) (suc j) n le =
    let rest = greatest_more (depth_in inner k) (depth_in inner j) (λ x. depth_more inner k j x (omega (arith, le))) (inner n) in omega (arith, rest)

ends_by_depth : (inner : ℕ → List ℕ) (d n : ℕ) → depth_in inner (suc d) n ≤ suc d → Ends inner d n
ends_by_depth inner zero n le = λ c a. let at = at_greatest (depth_in inner 0) (inner n) a.0 c a.1 in absurd (omega (arith, at, le))
ends_by_depth inner (suc d) n le =
    λ c a. let at = at_greatest (depth_in inner (suc d)) (inner n) a.0 c a.1 in ends_by_depth inner d c (omega (arith, at, le))

-- ---- by the count of models

-- how many numbers below a bound are not among these
abbrev free : List ℕ → ℕ → ℕ
free above zero = 0
free above (suc k) = cond (has_number above k) 0 1 + free above k

free_all : (count : ℕ) → free [] count ≤ count
free_all zero = omega arith
free_all (suc k) = let rest = free_all k in omega (arith, rest)

free_less : (n : ℕ) (above : List ℕ) (count : ℕ) → free (n ∷ above) count ≤ free above count
free_less n above zero = omega arith
free_less n above (suc k) = let rest = free_less n above k in let here = at (n == k) (has_number above k) in omega (arith, rest, here) where
  at : (a b : Bool) → cond (a || b) 0 1 ≤ cond b 0 1
  at true true = omega arith
  at true false = omega arith
  at false true = omega arith
  at false false = omega arith

-- a number more leaves fewer
free_fewer : (n : ℕ) (above : List ℕ) (count : ℕ) → n < count → has_number above n ≡ false → free (n ∷ above) count < free above count
free_fewer n above zero lt out = absurd (omega (arith, lt))
free_fewer n above (suc k) lt out = elim (cases_lt n k) [
  | inl below ↦
      let rest = free_fewer n above k below out in let here = at (n == k) (has_number above k) in omega (arith, rest, here)
  | inr le ↦
      let same : n ≡ k = omega (arith, lt, le) in
      let rest = free_less n above k in
      let hidden : cond ((n == k) || has_number above k) 0 1 ≡ (let none : ℕ = 0 in none) = ap (λ (b : Bool). cond (b || has_number above k) 0 1) (eq_yes n k same) in
      let shown : cond (has_number above k) 0 1 ≡ (let one : ℕ = 1 in one) = ap (λ (b : Bool). cond b 0 1) (ap (has_number above) (sym same) ∙ out) in
      omega (arith, rest, hidden, shown)
] where
  at : (a b : Bool) → cond (a || b) 0 1 ≤ cond b 0 1
  at true true = omega arith
  at true false = omega arith
  at false true = omega arith
  at false false = omega arith

-- where none contains itself, what stands above one is never met again below it
ends_by_count : (inner : ℕ → List ℕ) (count : ℕ) → ((n c : ℕ) → n < count → Among (inner n) c → c < count) → ((n : ℕ) → n < count → ¬ ContainsItself inner n)
    → (d n : ℕ) (above : List ℕ) → n < count → free above count ≤ d → ((a : ℕ) → Among above a → IsWithin inner n a) → Ends inner d n
ends_by_count inner count closed founded zero n above lt few within =
    let fewer = free_fewer n above count lt (unmet n above lt within) in absurd (omega (arith, fewer, few)) where
      unmet : (n : ℕ) (above : List ℕ) → n < count → ((a : ℕ) → Among above a → IsWithin inner n a) → has_number above n ≡ false
      unmet n above lt within = by_test (has_number above n) refl where
        by_test : (b : Bool) → has_number above n ≡ b → b ≡ false
        by_test true e =
            let a = any_among (λ x. x == n) above e in
            absurd (founded n lt (subst (λ (x : ℕ). IsWithin inner n x) (eqb-true a.0 n a.2) (within a.0 a.1)))
        by_test false e = refl
ends_by_count inner count closed founded (suc d) n above lt few within =
    λ c a.
    ends_by_count inner count closed founded d c (n ∷ above) (closed n c lt a)
    (let fewer = free_fewer n above count lt (unmet n above lt within) in omega (arith, fewer, few)) (λ x m. below c a x m.0 m.1) where
      unmet : (n : ℕ) (above : List ℕ) → n < count → ((a : ℕ) → Among above a → IsWithin inner n a) → has_number above n ≡ false
      unmet n above lt within = by_test (has_number above n) refl where
        by_test : (b : Bool) → has_number above n ≡ b → b ≡ false
        by_test true e =
            let a = any_among (λ x. x == n) above e in
            absurd (founded n lt (subst (λ (x : ℕ). IsWithin inner n x) (eqb-true a.0 n a.2) (within a.0 a.1)))
        by_test false e = refl

      deeper : (c x : ℕ) → Among (inner n) c → IsWithin inner n x → IsWithin inner c x
      deeper c x a (directly m) = further m (directly a)
      deeper c x a (further {l} m w) = further m (deeper c l a w)

      below : (c : ℕ) → Among (inner n) c → (x i : ℕ) → At (n ∷ above) i x → IsWithin inner c x
      below c a x zero e = subst (λ (y : ℕ). IsWithin inner c y) (same_Some n x e) (directly a)
      below c a x (suc i) e = deeper c x a (within x (i, e))

-- good models end after 32 levels
pub models_end : (blif : Blif) → ((n : ℕ) → n < length blif.models → ¬ ContainsItself (models_within blif) n) → ((n : ℕ) → n < length blif.models → depth_of_model blif n ≤ 32)
    → (n : ℕ) → n < length blif.models → Ends (models_within blif) 32 n
models_end blif founded shallow n lt = elim (cases_lt 32 (length blif.models)) [
  | inl many ↦
      let le = shallow n lt in
      let less = depth_more (models_within blif) 33 (length blif.models) n (omega (arith, many)) in
      ends_by_depth (models_within blif) 32 n (omega (arith, le, less))
  | inr few ↦
      ends_upto (models_within blif) (length blif.models) 32 n few
      (ends_by_count (models_within blif) (length blif.models) closed founded (length blif.models) n [] lt (free_all (length blif.models)) (λ a m. absurd (at_none m.0 a m.1)))
] where
  numbered : (subs : List SubLine) (i c : ℕ) → 0 < length blif.models → At (map (λ (s : SubLine). model_numbered blif s.model) subs) i c → c < length blif.models
  numbered [] i c some e = absurd (at_none i c e)
  numbered (s ∷ subs) zero c some e = subst (λ (k : ℕ). k < length blif.models) (same_Some (model_numbered blif s.model) c e) (number_within blif s.model some)
  numbered (s ∷ subs) (suc i) c some e = numbered subs i c some e

  closed : (n c : ℕ) → n < length blif.models → Among (models_within blif n) c → c < length blif.models
  closed n c lt a = numbered (model_at blif n).subs a.0 c (omega (arith, lt)) a.1
