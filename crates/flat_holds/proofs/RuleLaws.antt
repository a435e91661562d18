-- Of several things the first of the least depth.
use Rattle.std.proofs.Common.{◌≡◌, ◌<◌, ◌≤◌, ◌++◌, ◌∷◌, [], ℕ, zero, suc, Bool, true, false, not, cond, List, Option, Some, refl, ap, sym, subst, ◌∙◌, arith, inl, inr}
use Rattle.std.specs.Prelude.{find, nat_lt}
use Rattle.std.specs.List.{list_any}
use Rattle.std.proofs.lemmas.Bool.{cases_Bool, lt-ltb, ltb-false, ltb-true}
use Rattle.std.proofs.lemmas.Option.{same_Some}
use Rattle.flat_holds.specs.Falls.{closer_by}
use Rattle.line_laws.specs.Lines.{earliest}
use Rattle.vrt_model.proofs.Members.{among_any, among_either, among_right, any_among, at_none}
use Rattle.vrt_model.specs.Lists.{Among}

module _ {X : Type 0} (d : X → ℕ) where
  -- the first of the least depth
  abbrev pub least : List X → Option X
  least = earliest d

  -- those before it are deeper, and those behind it are not less deep
  record IsFirst (xs : List X) (b : X) : Type 0 where
    before : List X
    after : List X
    parts : xs ≡ before ++ b ∷ after
    deeper : (y : X) → Among before y → d b < d y
    others : (y : X) → Among after y → d b ≤ d y

  lead : (x : X) (xs : List X) → (b : X) × (least (x ∷ xs) ≡ Some b) × IsFirst (x ∷ xs) b
  lead x [] = (x, refl, record { before = []; after = []; parts = refl; deeper = λ y m. absurd (at_none m.0 y m.1); others = λ y m. absurd (at_none m.0 y m.1) })
  lead x (y ∷ ys) = by_bit (lead y ys) where
    closer_is : (b : X) → least (y ∷ ys) ≡ Some b → (t : Bool) → nat_lt (d b) (d x) ≡ t → least (x ∷ y ∷ ys) ≡ cond t (Some b) (Some x)
    closer_is b e t f = ap (closer_by d (Some x)) e ∙ ap (λ (z : Bool). cond z (Some b) (Some x)) f

    front : (b : X) (f : IsFirst (y ∷ ys) b) → nat_lt (d b) (d x) ≡ true → (z : X) → Among (x ∷ f.before) z → d b < d z
    front b f e z (zero, h) = subst (λ (w : X). d b < d w) (same_Some x z h) (ltb-true (d b) (d x) e)
    front b f e z (suc i, h) = f.deeper z (i, h)

    behind_b : (b : X) (f : IsFirst (y ∷ ys) b) → d x ≤ d b → (z : X) → Among (b ∷ f.after) z → d x ≤ d z
    behind_b b f le z (zero, h) = subst (λ (w : X). d x ≤ d w) (same_Some b z h) le
    behind_b b f le z (suc i, h) = let more = f.others z (i, h) in omega (arith, le, more)

    back : (b : X) (f : IsFirst (y ∷ ys) b) → d x ≤ d b → (z : X) → Among (y ∷ ys) z → d x ≤ d z
    back b f le z m =
        elim (among_either f.before (b ∷ f.after) z (subst (λ (zs : List X). Among zs z) f.parts m)) [
          | inl early ↦ (let more = f.deeper z early in omega (arith, le, more))
          | inr late ↦ behind_b b f le z late
        ]

    by_bit : (r : (b : X) × (least (y ∷ ys) ≡ Some b) × IsFirst (y ∷ ys) b) → (b : X) × (least (x ∷ y ∷ ys) ≡ Some b) × IsFirst (x ∷ y ∷ ys) b
    by_bit r =
        elim (cases_Bool (nat_lt (d r.0) (d x))) [
          | inl e ↦ (
            r.0,
            closer_is r.0 r.1 true e,
            record { before = x ∷ r.2.before; after = r.2.after; parts = ap (λ (zs : List X). x ∷ zs) r.2.parts; deeper = front r.0 r.2 e; others = r.2.others },
          )
          | inr e ↦ (
            x,
            closer_is r.0 r.1 false e,
            record { before = []; after = y ∷ ys; parts = refl; deeper = λ z m. absurd (at_none m.0 z m.1); others = back r.0 r.2 (ltb-false (d r.0) (d x) e) },
          )
        ]

  -- none is less deep
  abbrev pub is_outer : List X → X → Bool
  is_outer all x = not (list_any (λ (other : X). nat_lt (d other) (d x)) all)

  skip : (p : X → Bool) (before rest : List X) → ((y : X) → Among before y → p y ≡ false) → find p (before ++ rest) ≡ find p rest
  skip p [] rest fails = refl
  skip p (y ∷ ys) rest fails =
      ap (λ (b : Bool). cond b (Some y) (find p (ys ++ rest))) (fails y (0, refl)) ∙ skip p ys rest (λ z m. fails z (suc m.0, m.1))

  find_first : (xs : List X) (b : X) → IsFirst xs b → find (is_outer xs) xs ≡ Some b
  find_first xs b f =
      ap (find (is_outer xs)) f.parts
      ∙ skip (is_outer xs) f.before (b ∷ f.after)
      (λ y m. ap not (among_any (λ (other : X). nat_lt (d other) (d y)) xs b there (lt-ltb (d b) (d y) (f.deeper y m))))
      ∙ ap (λ (t : Bool). cond t (Some b) (find (is_outer xs) f.after)) (ap not none_less) where
        there : Among xs b
        there = subst (λ (zs : List X). Among zs b) (sym f.parts) (among_right f.before (b ∷ f.after) b (0, refl))

        behind : (y : X) → Among (b ∷ f.after) y → d b ≤ d y
        behind y (zero, h) = subst (λ (w : X). d b ≤ d w) (same_Some b y h) (let le : d b ≤ d b = omega arith in le)
        behind y (suc i, h) = f.others y (i, h)

        least_there : (y : X) → Among xs y → d b ≤ d y
        least_there y m =
            elim (among_either f.before (b ∷ f.after) y (subst (λ (zs : List X). Among zs y) f.parts m)) [
              | inl early ↦ (let more = f.deeper y early in omega (arith, more))
              | inr late ↦ behind y late
            ]

        none_less : list_any (λ (other : X). nat_lt (d other) (d b)) xs ≡ false
        none_less =
            elim (cases_Bool (list_any (λ (other : X). nat_lt (d other) (d b)) xs)) [
              | inl some ↦ (
                  let y = any_among (λ (other : X). nat_lt (d other) (d b)) xs some in
                  let less = ltb-true (d y.0) (d b) y.2 in
                  let more = least_there y.0 y.1 in absurd (omega (arith, less, more)))
              | inr none ↦ none
            ]

  -- so it is the one that a search for the outermost finds
  pub found : (xs : List X) → find (is_outer xs) xs ≡ least xs
  found [] = refl
  found (x ∷ xs) = let r = lead x xs in find_first (x ∷ xs) r.0 r.2 ∙ sym r.1
