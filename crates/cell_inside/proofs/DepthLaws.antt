-- Going down deeper than instances stand finds no more places.
use Rattle.std.proofs.Common.{◌≡◌, ℕ, zero, suc, ◌+◌, ◌++◌, List, [], ◌∷◌, length, arith, subst, sym, refl, ◌∙◌, ap, ap₂}
use Rattle.std.specs.Prelude.{flat_map, map, sum_by}
use Rattle.std.specs.List.{fold}
use Rattle.cell_inside.specs.Shifted.{DeeperIsSame, IsWithinDepth}
use Rattle.vrt_model.specs.Comparison.{cell_at}
use Rattle.vrt_model.specs.Lists.{Among}
use Rattle.vrt_model.specs.Unrolled.{Place, Top, cell_named, instances_from, net_at, own_count, own_nets, places_in}
use Rattle.vrt_model.specs.declared.design.InstanceCard.{InstanceCard}

fold_same : {X : Type 0} (f g : X → ℕ) (a : ℕ) (xs : List X) → ((x : X) → Among xs x → f x ≡ g x) → fold (λ (n : ℕ) (x : X). n + f x) a xs ≡ fold (λ (n : ℕ) (x : X). n + g x) a xs
fold_same f g a [] h = refl
fold_same {X} f g a (x ∷ xs) h =
    fold_same f g (a + f x) xs (λ y m. h y (suc m.0, m.1)) ∙ ap (λ (n : ℕ). fold (λ (k : ℕ) (y : X). k + g y) (a + n) xs) (h x (0, refl))

sum_same : {X : Type 0} (f g : X → ℕ) (xs : List X) → ((x : X) → Among xs x → f x ≡ g x) → sum_by f xs ≡ sum_by g xs
sum_same f g xs h = fold_same f g 0 xs h

module _ (t : Top) where
  fits_deeper : (depth k : ℕ) → IsWithinDepth t depth k → IsWithinDepth t (suc depth) k
  fits_deeper zero k h = λ i m. absurd (none (subst (λ (xs : List InstanceCard). Among xs i) h m))
    where
      none : {i : InstanceCard} → Among [] i → ⊥
      none m = cc
  fits_deeper (suc depth) k h = λ i m. fits_deeper depth (cell_named t.design i.cell) (h i m)

  own_deeper : (depth k : ℕ) → IsWithinDepth t depth k → own_count t.design t.rules depth (cell_at t.design k) ≡ own_count t.design t.rules (suc depth) (cell_at t.design k)
  own_deeper zero k h =
      let zero_more : length (own_nets t.design t.rules (cell_at t.design k)) ≡ length (own_nets t.design t.rules (cell_at t.design k)) + 0 = omega arith in
      zero_more
      ∙ ap (λ (xs : List InstanceCard). length (own_nets t.design t.rules (cell_at t.design k)) + sum_by (λ (i : InstanceCard). own_count t.design t.rules 0 (cell_at t.design (cell_named t.design i.cell))) xs) (sym h)
  own_deeper (suc depth) k h =
      ap (λ (n : ℕ). length (own_nets t.design t.rules (cell_at t.design k)) + n)
      (sum_same (λ (i : InstanceCard). own_count t.design t.rules depth (cell_at t.design (cell_named t.design i.cell))) (λ (i : InstanceCard). own_count t.design t.rules (suc depth) (cell_at t.design (cell_named t.design i.cell)))
      (cell_at t.design k).instances (λ i m. own_deeper depth (cell_named t.design i.cell) (h i m)))

  cards_deeper : (depth : ℕ) → ((q : Place) → IsWithinDepth t depth q.cell → places_in t depth q ≡ places_in t (suc depth) q) → (q : Place) (base there : ℕ) → base ≡ there
      → (cards : List InstanceCard) → ((i : InstanceCard) → Among cards i → IsWithinDepth t depth (cell_named t.design i.cell))
      → flat_map (places_in t depth) (instances_from t q depth base cards) ≡ flat_map (places_in t (suc depth)) (instances_from t q (suc depth) there cards)
  cards_deeper depth inner q base there e [] all = refl
  cards_deeper depth inner q base there e (i ∷ cards) all =
      let k = cell_named t.design i.cell in
      let place : ℕ → Place = λ n. record { cell = k; path = record { instance = i.name; within = (cell_at t.design q.cell).name } ∷ q.path; ports = map (net_at t q) i.nets; base = n } in
      ap₂ ◌++◌ (inner (place base) (all i (0, refl)) ∙ ap (λ (n : ℕ). places_in t (suc depth) (place n)) e)
      (cards_deeper depth inner q (base + own_count t.design t.rules depth (cell_at t.design k)) (there + own_count t.design t.rules (suc depth) (cell_at t.design k))
      (ap₂ ◌+◌ e (own_deeper depth k (all i (0, refl)))) cards (λ j m. all j (suc m.0, m.1)))

  places_deeper : (depth : ℕ) (q : Place) → IsWithinDepth t depth q.cell → places_in t depth q ≡ places_in t (suc depth) q
  places_deeper zero q h = ap (λ (xs : List InstanceCard). q ∷ flat_map (places_in t 0) (instances_from t q 0 (q.base + length (own_nets t.design t.rules (cell_at t.design q.cell))) xs)) (sym h)
  places_deeper (suc depth) q h =
      ap (λ (xs : List Place). q ∷ xs) (cards_deeper depth (λ p f. places_deeper depth p f) q (q.base + length (own_nets t.design t.rules (cell_at t.design q.cell))) (q.base + length (own_nets t.design t.rules (cell_at t.design q.cell))) refl (cell_at t.design q.cell).instances h)

  fits_more : (depth more k : ℕ) → IsWithinDepth t depth k → IsWithinDepth t (depth + more) k
  fits_more depth zero k h = let e : depth ≡ depth + 0 = omega arith in subst (λ (n : ℕ). IsWithinDepth t n k) e h
  fits_more depth (suc more) k h = let e : suc (depth + more) ≡ depth + suc more = omega arith in subst (λ (n : ℕ). IsWithinDepth t n k) e (fits_deeper (depth + more) k (fits_more depth more k h))

  pub deeper : (depth more : ℕ) (q : Place) → IsWithinDepth t depth q.cell → places_in t depth q ≡ places_in t (depth + more) q
  deeper depth zero q h = let e : depth ≡ depth + 0 = omega arith in ap (λ (n : ℕ). places_in t n q) e
  deeper depth (suc more) q h =
      let e : suc (depth + more) ≡ depth + suc more = omega arith in
      deeper depth more q h ∙ places_deeper (depth + more) q (fits_more depth more q.cell h) ∙ ap (λ (n : ℕ). places_in t n q) e

pub deeper_is_same : DeeperIsSame
deeper_is_same t depth more q h = deeper t depth more q h
