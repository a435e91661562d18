-- Where the places of the kept circuit stand in their list.
use Rattle.std.proofs.Common.{◌≡◌, ℕ, zero, suc, ◌+◌, ◌*◌, ◌<◌, ◌⊎◌, List, [], ◌∷◌, Some, length, arith, ap, refl, sym, subst, inl, inr}
use Rattle.std.specs.List.{range_with_len}
use Rattle.std.proofs.lemmas.Option.{none-some, same_Some}
use Rattle.circuit_faults.specs.KeptFaults.{kept_spots}
use Rattle.fault_places.proofs.CountedSites.{number_among, number_at}
use Rattle.fault_places.specs.PhaseSpots.{spots_each}
use Rattle.fault_places.specs.Searches.{Spot}
use Rattle.vrt_model.specs.Lists.{At}
use Rattle.vrt_model.specs.declared.circuit.Circuit.{Circuit}
use Rattle.vrt_model.specs.declared.verdict.FaultKind.{FaultKind}
use Rattle.vrt_model.specs.declared.verdict.FaultKind.TheVariants.{FightKept, Unsettled}

abbrev pub spot : FaultKind → ℕ → Spot
spot kind n = record { kind = kind; at = n }

abbrev both : List ℕ → List Spot
both xs = spots_each (FightKept ∷ Unsettled ∷ []) xs

-- ---- the two places of a number

fight_at : (xs : List ℕ) (i n : ℕ) → At xs i n → At (both xs) (2 * i) (spot FightKept n)
fight_at [] i n e = absurd (none-some n e)
fight_at (x ∷ xs) zero n e = ap (λ (m : ℕ). Some (spot FightKept m)) (same_Some x n e)
fight_at (x ∷ xs) (suc i) n e =
    let next : suc (suc (2 * i)) ≡ 2 * suc i = omega arith in
    subst (λ (k : ℕ). At (both (x ∷ xs)) k (spot FightKept n)) next (fight_at xs i n e)

unsettled_at : (xs : List ℕ) (i n : ℕ) → At xs i n → At (both xs) (2 * i + 1) (spot Unsettled n)
unsettled_at [] i n e = absurd (none-some n e)
unsettled_at (x ∷ xs) zero n e = ap (λ (m : ℕ). Some (spot Unsettled m)) (same_Some x n e)
unsettled_at (x ∷ xs) (suc i) n e =
    let next : suc (suc (2 * i + 1)) ≡ 2 * suc i + 1 = omega arith in
    subst (λ (k : ℕ). At (both (x ∷ xs)) k (spot Unsettled n)) next (unsettled_at xs i n e)

-- what stands at a place is one of the two of a number
abbrev IsOfNumber : List ℕ → ℕ → Spot → Type 0
IsOfNumber xs i y = (j : ℕ) × (n : ℕ) × At xs j n × (((i ≡ 2 * j) × (spot FightKept n ≡ y)) ⊎ ((i ≡ 2 * j + 1) × (spot Unsettled n ≡ y)))

number_more : (x : ℕ) (xs : List ℕ) (i : ℕ) (y : Spot) → IsOfNumber xs i y → IsOfNumber (x ∷ xs) (suc (suc i)) y
number_more x xs i y h = (
  suc h.0,
  h.1,
  h.2,
  elim h.3 [
    | inl p ↦ inl ((let is = p.0 in omega (arith, is)), p.1)
    | inr p ↦ inr ((let is = p.0 in omega (arith, is)), p.1)
  ],
)

number_of : (xs : List ℕ) (i : ℕ) (y : Spot) → At (both xs) i y → IsOfNumber xs i y
number_of [] i y e = absurd (none-some y e)
number_of (x ∷ xs) zero y e = (zero, x, refl, inl (refl, same_Some (spot FightKept x) y e))
number_of (x ∷ xs) (suc zero) y e = (zero, x, refl, inr (refl, same_Some (spot Unsettled x) y e))
number_of (x ∷ xs) (suc (suc i)) y e = number_more x xs i y (number_of xs i y e)

-- ---- all numbers of nets

module _ (c : Circuit) where
  net_number : (n : ℕ) → n < length c.nets → At (range_with_len 0 (length c.nets)) n n
  net_number n lt =
      let there = number_among (length c.nets) n lt in
      subst (λ (i : ℕ). At (range_with_len 0 (length c.nets)) i n) (sym (number_at (length c.nets) there.0 n there.1)) there.1

  pub fight_spot : (n : ℕ) → n < length c.nets → At (kept_spots c) (2 * n) (spot FightKept n)
  fight_spot n lt = fight_at (range_with_len 0 (length c.nets)) n n (net_number n lt)

  pub unsettled_spot : (n : ℕ) → n < length c.nets → At (kept_spots c) (2 * n + 1) (spot Unsettled n)
  unsettled_spot n lt = unsettled_at (range_with_len 0 (length c.nets)) n n (net_number n lt)

  -- by its number and kind
  pub spot_place : (i : ℕ) (y : Spot) → At (kept_spots c) i y → ((i ≡ 2 * y.at) × (y.kind ≡ FightKept)) ⊎ ((i ≡ 2 * y.at + 1) × (y.kind ≡ Unsettled))
  spot_place i y e =
      let h = number_of (range_with_len 0 (length c.nets)) i y e in
      let number = number_at (length c.nets) h.0 h.1 h.2 in
      elim h.3 [
        | inl p ↦ (let is = p.0 in let at = ap (λ (z : Spot). z.at) p.1 in inl (omega (arith, is, number, at), ap (λ (z : Spot). z.kind) (sym p.1)))
        | inr p ↦ (let is = p.0 in let at = ap (λ (z : Spot). z.at) p.1 in inr (omega (arith, is, number, at), ap (λ (z : Spot). z.kind) (sym p.1)))
      ]
