-- Where the faults that are found rank by rank stand among each other.
use Rattle.std.proofs.Common.{◌≡◌, ℕ, zero, suc, ◌<◌, ◌≤◌, ◌⊎◌, ◌&&◌, true, List, [], ◌∷◌, eqb, ltb, arith, ap, refl, inl, inr}
use Rattle.std.proofs.lemmas.Bool.{and_parts, eqb-true, ltb-true, or_cases}
use Rattle.std.proofs.lemmas.Option.{same_Some}
use Rattle.firm_faults.specs.FirmGround.{IsFoundByRank}
use Rattle.vrt_model.proofs.Members.{at_none}
use Rattle.vrt_model.specs.Comparison.{Comparison}
use Rattle.vrt_model.specs.Lists.{Among}
use Rattle.vrt_model.specs.Places.{comes_before, greatest_rank, named_nets, standing}
use Rattle.vrt_model.specs.declared.verdict.FaultKind.{FaultKind}
use Rattle.vrt_model.specs.declared.verdict.FaultKind.TheVariants.{Fight, FightKept, Float, Unsettled, Constraint, Differs, Next, Apart, Enter}

-- the rank at which such a fault is found
abbrev pub rank_at : Comparison → ℕ → (ℕ → ℕ) → FaultKind → ℕ → ℕ
rank_at k phase rank Fight at = rank at
rank_at k phase rank Float at = rank at
rank_at k phase rank Constraint at = greatest_rank rank (named_nets k phase at)
rank_at k phase rank FightKept at = 0
rank_at k phase rank Unsettled at = 0
rank_at k phase rank Differs at = 0
rank_at k phase rank Next at = 0
rank_at k phase rank Apart at = 0
rank_at k phase rank Enter at = 0

-- in a rank nets come before instances
abbrev pub turn_of : FaultKind → ℕ
turn_of Fight = 0
turn_of Float = 0
turn_of Constraint = 1
turn_of FightKept = 0
turn_of Unsettled = 0
turn_of Differs = 0
turn_of Next = 0
turn_of Apart = 0
turn_of Enter = 0

zero_low : 0 ≤ 1
zero_low = omega arith

one_low : 1 ≤ 1
one_low = omega arith

pub turn_low : (kind : FaultKind) → turn_of kind ≤ 1
turn_low Fight = zero_low
turn_low Float = zero_low
turn_low Constraint = one_low
turn_low FightKept = zero_low
turn_low Unsettled = zero_low
turn_low Differs = zero_low
turn_low Next = zero_low
turn_low Apart = zero_low
turn_low Enter = zero_low

-- rank and turn come first in where a fault stands
pub stands_as : (k : Comparison) (phase : ℕ) (rank least : ℕ → ℕ) (kind : FaultKind) → IsFoundByRank kind → (at : ℕ)
    → (others : List ℕ) × (standing k phase rank least kind at ≡ 0 ∷ rank_at k phase rank kind at ∷ turn_of kind ∷ others)
stands_as k phase rank least Fight ok at = (least at ∷ at ∷ 0 ∷ [], refl)
stands_as k phase rank least Float ok at = (least at ∷ at ∷ 1 ∷ [], refl)
stands_as k phase rank least Constraint ok at = (at ∷ [], refl)
stands_as k phase rank least FightKept ok at = absurd ok
stands_as k phase rank least Unsettled ok at = absurd ok
stands_as k phase rank least Differs ok at = absurd ok
stands_as k phase rank least Next ok at = absurd ok
stands_as k phase rank least Apart ok at = absurd ok
stands_as k phase rank least Enter ok at = absurd ok

-- what is of a later rank, or of a later turn in one rank, does not come before
pub not_before : (x y p q : ℕ) (xs ys : List ℕ) → (y < x) ⊎ ((y ≡ x) × (q < p)) → comes_before (0 ∷ x ∷ p ∷ xs) (0 ∷ y ∷ q ∷ ys) ≡ true → ⊥
not_before x y p q xs ys late e =
    elim (or_cases (ltb x y) (eqb x y && comes_before (p ∷ xs) (q ∷ ys)) e) [
      | inl low ↦ (let lt = ltb-true x y low in elim late [ inl high ↦ omega (arith, lt, high) | inr both ↦ (let same = both.0 in omega (arith, lt, same)) ])
      | inr rest ↦
          let parts = and_parts (eqb x y) (comes_before (p ∷ xs) (q ∷ ys)) rest in
          let equal = eqb-true x y parts.0 in
          elim late [
            | inl high ↦ omega (arith, equal, high)
            | inr both ↦ elim (or_cases (ltb p q) (eqb p q && comes_before xs ys) parts.1) [
              | inl low ↦ (let lt = ltb-true p q low in let high = both.1 in omega (arith, lt, high))
              | inr more ↦ (let alike = eqb-true p q (and_parts (eqb p q) (comes_before xs ys) more).0 in let high = both.1 in omega (arith, alike, high))
            ]
          ]
    ]

-- the greatest rank is below a bound of all
pub greatest_below : (rank : ℕ → ℕ) (ns : List ℕ) (r : ℕ) → 0 < r → ((n : ℕ) → Among ns n → rank n < r) → greatest_rank rank ns < r
greatest_below rank [] r low each = low
greatest_below rank (n ∷ ns) r low each =
    let head = each n (zero, refl) in
    let tail = greatest_below rank ns r low (λ m h. each m (suc h.0, h.1)) in
    omega (arith, head, tail)

-- the rank of each is at most the greatest
pub below_greatest : (rank : ℕ → ℕ) (ns : List ℕ) (n : ℕ) → Among ns n → rank n ≤ greatest_rank rank ns
below_greatest rank [] n m = absurd (at_none m.0 n m.1)
below_greatest rank (x ∷ ns) n (zero, e) = (let is = ap rank (same_Some x n e) in omega (arith, is))
below_greatest rank (x ∷ ns) n (suc i, e) = (let tail = below_greatest rank ns n (i, e) in omega (arith, tail))
