-- Of two places of fights, floats and differences of outputs one comes before the other, or they are the same.
use Rattle.std.proofs.Common.{◌≡◌, ℕ, ◌<◌, ◌⊎◌, ◌&&◌, Bool, true, List, [], ◌∷◌, length, arith, ap, sym, refl, ◌∙◌, inl, inr}
use Rattle.std.specs.Prelude.{nat_eq, nat_lt}
use Rattle.std.proofs.lemmas.Bool.{and_from, cases_eq, cases_lt, eq-eqb, lt-ltb, or_left, or_right}
use Rattle.vrt_model.specs.Comparison.{Comparison}
use Rattle.vrt_model.specs.Places.{Finding, comes_before, standing}
use Rattle.vrt_model.specs.declared.verdict.FaultKind.{FaultKind}
use Rattle.vrt_model.specs.declared.verdict.FaultKind.TheVariants.{Fight, FightKept, Float, Unsettled, Constraint, Differs, Next, Apart, Enter}

-- ---- lists of numbers, compared from the left

tri_heads : (x y : ℕ) → (x < y) ⊎ ((x ≡ y) ⊎ (y < x))
tri_heads x y =
    elim (cases_lt x y) [
      | inl lt ↦ inl lt
      | inr ge ↦ elim (cases_eq x y) [ inl e ↦ inr (inl e) | inr ne ↦ inr (inr (omega arith)) ]
    ]

-- a lesser head decides
pub less_head : (x y : ℕ) (xs ys : List ℕ) → x < y → comes_before (x ∷ xs) (y ∷ ys) ≡ true
less_head x y xs ys lt = or_left (nat_lt x y) (nat_eq x y && comes_before xs ys) (lt-ltb x y lt)

same_head : (x y : ℕ) (xs ys : List ℕ) → x ≡ y → comes_before xs ys ≡ true → comes_before (x ∷ xs) (y ∷ ys) ≡ true
same_head x y xs ys e h = or_right (nat_lt x y) (nat_eq x y && comes_before xs ys) (and_from (nat_eq x y) (comes_before xs ys) (eq-eqb x y e) h)

-- of two lists of one length one comes before the other, or they are the same
pub tri_lists : (xs ys : List ℕ) → length xs ≡ length ys → (comes_before xs ys ≡ true) ⊎ ((xs ≡ ys) ⊎ (comes_before ys xs ≡ true))
tri_lists [] [] e = inr (inl refl)
tri_lists [] (y ∷ ys) e = absurd (omega (arith, e))
tri_lists (x ∷ xs) [] e = absurd (omega (arith, e))
tri_lists (x ∷ xs) (y ∷ ys) e =
    let rest : length xs ≡ length ys = omega (arith, e) in
    elim (tri_heads x y) [
      | inl lt ↦ inl (less_head x y xs ys lt)
      | inr other ↦ elim other [
        | inl same ↦ elim (tri_lists xs ys rest) [
          | inl before ↦ inl (same_head x y xs ys same before)
          | inr more ↦ elim more [
            | inl tails ↦ inr (inl (ap (λ (z : ℕ). z ∷ xs) same ∙ ap (λ (zs : List ℕ). y ∷ zs) tails))
            | inr after ↦ inr (inr (same_head y x ys xs (sym same) after))
          ]
        ]
        | inr gt ↦ inr (inr (less_head y x ys xs gt))
      ]
    ]

-- ---- places

-- the kinds that can stand first
abbrev pub IsOpen : FaultKind → Type 0
IsOpen Fight = Unit {0}
IsOpen Float = Unit {0}
IsOpen Differs = Unit {0}
IsOpen FightKept = ⊥
IsOpen Unsettled = ⊥
IsOpen Constraint = ⊥
IsOpen Next = ⊥
IsOpen Apart = ⊥
IsOpen Enter = ⊥

-- of two places one comes before the other, or they are the same
pub record IsOnePlace (kind other : FaultKind) (at there : ℕ) : Type 0 where
  pub kinds : kind ≡ other
  pub places : at ≡ there

module _ (k : Comparison) (phase : ℕ) (rank least : ℕ → ℕ) where
  abbrev pub Tri : FaultKind → ℕ → FaultKind → ℕ → Type 0
  Tri kind at other there =
      (comes_before (standing k phase rank least kind at) (standing k phase rank least other there) ≡ true)
      ⊎ (IsOnePlace kind other at there ⊎ (comes_before (standing k phase rank least other there) (standing k phase rank least kind at) ≡ true))

  fifth : List ℕ → ℕ
  fifth (a ∷ b ∷ c ∷ d ∷ e ∷ rest) = e
  fifth _ = 0

  sixth : List ℕ → ℕ
  sixth (a ∷ b ∷ c ∷ d ∷ e ∷ f ∷ rest) = f
  sixth _ = 0

  second : List ℕ → ℕ
  second (a ∷ b ∷ rest) = b
  second _ = 0

  pub tri_places : (kind other : FaultKind) (at there : ℕ) → IsOpen kind → IsOpen other → Tri kind at other there
  unfolding fifth sixth second
  tri_places Fight Fight at there o p =
      elim (tri_lists (standing k phase rank least Fight at) (standing k phase rank least Fight there) refl) [
        | inl before ↦ inl before
        | inr more ↦ elim more [ inl same ↦ inr (inl (record { kinds = refl; places = ap fifth same })) | inr after ↦ inr (inr after) ]
      ]
  tri_places Float Float at there o p =
      elim (tri_lists (standing k phase rank least Float at) (standing k phase rank least Float there) refl) [
        | inl before ↦ inl before
        | inr more ↦ elim more [ inl same ↦ inr (inl (record { kinds = refl; places = ap fifth same })) | inr after ↦ inr (inr after) ]
      ]
  tri_places Differs Differs at there o p =
      elim (tri_lists (standing k phase rank least Differs at) (standing k phase rank least Differs there) refl) [
        | inl before ↦ inl before
        | inr more ↦ elim more [ inl same ↦ inr (inl (record { kinds = refl; places = ap second same })) | inr after ↦ inr (inr after) ]
      ]
  tri_places Fight Float at there o p =
      elim (tri_lists (standing k phase rank least Fight at) (standing k phase rank least Float there) refl) [
        | inl before ↦ inl before
        | inr more ↦ elim more [ inl same ↦ absurd (let e : ◌≡◌ {A = ℕ} 0 1 = ap sixth same in apart e) | inr after ↦ inr (inr after) ]
      ]
    where
      apart : ◌≡◌ {A = ℕ} 0 1 → ⊥
      apart e = omega (arith, e)
  tri_places Float Fight at there o p =
      elim (tri_lists (standing k phase rank least Float at) (standing k phase rank least Fight there) refl) [
        | inl before ↦ inl before
        | inr more ↦ elim more [ inl same ↦ absurd (let e : ◌≡◌ {A = ℕ} 1 0 = ap sixth same in apart e) | inr after ↦ inr (inr after) ]
      ]
    where
      apart : ◌≡◌ {A = ℕ} 1 0 → ⊥
      apart e = omega (arith, e)
  tri_places Fight Differs at there o p = inl refl
  tri_places Float Differs at there o p = inl refl
  tri_places Differs Fight at there o p = inr (inr refl)
  tri_places Differs Float at there o p = inr (inr refl)
  tri_places FightKept other at there o p = absurd o
  tri_places Unsettled other at there o p = absurd o
  tri_places Constraint other at there o p = absurd o
  tri_places Next other at there o p = absurd o
  tri_places Apart other at there o p = absurd o
  tri_places Enter other at there o p = absurd o
  tri_places Fight FightKept at there o p = absurd p
  tri_places Fight Unsettled at there o p = absurd p
  tri_places Fight Constraint at there o p = absurd p
  tri_places Fight Next at there o p = absurd p
  tri_places Fight Apart at there o p = absurd p
  tri_places Fight Enter at there o p = absurd p
  tri_places Float FightKept at there o p = absurd p
  tri_places Float Unsettled at there o p = absurd p
  tri_places Float Constraint at there o p = absurd p
  tri_places Float Next at there o p = absurd p
  tri_places Float Apart at there o p = absurd p
  tri_places Float Enter at there o p = absurd p
  tri_places Differs FightKept at there o p = absurd p
  tri_places Differs Unsettled at there o p = absurd p
  tri_places Differs Constraint at there o p = absurd p
  tri_places Differs Next at there o p = absurd p
  tri_places Differs Apart at there o p = absurd p
  tri_places Differs Enter at there o p = absurd p

-- a finding at a place, with a valuation
abbrev pub found : ℕ → FaultKind → ℕ → List Bool → Finding
found phase kind at bits = record { phase = phase; kind = kind; at = at; bits = bits }
