-- Ranks of numbers by a test of arcs that have no cycle: each number is one above the greatest from which arcs lead to it.
use Rattle.std.proofs.Common.{◌≡◌, ℕ, zero, suc, ◌+◌, ◌<◌, ◌≤◌, max, ◌⊎◌, ◌&&◌, ◌||◌, Bool, true, false, cond, List, leb, arith, ap, ap₂, subst, sym, refl, ◌∙◌, inl, inr}
use Rattle.std.proofs.Math.Nat.{le-max_left, le-max_right, max-eq_left, max-eq_right}
use Rattle.std.proofs.lemmas.Bool.{and_from, and_parts, cases_Bool, cases_eq, cond-false, cond-true, false≢true, leb-false, leb-true, or_cases, or_left, or_right}
use Rattle.graphs.proofs.Acyclic.{none_behind}
use Rattle.vrt_model.specs.Cut.{count_below}
use Rattle.vrt_model.specs.Known.{IsCycle}

-- ---- tests of the numbers below a bound

-- some number below the bound passes
abbrev pub some_below : (ℕ → Bool) → ℕ → Bool
some_below test zero = false
some_below test (suc k) = test k || some_below test k

found_below : (test : ℕ → Bool) (k : ℕ) → some_below test k ≡ true → (n : ℕ) × (n < k) × (test n ≡ true)
found_below test zero e = absurd (false≢true e)
found_below test (suc k) e =
    elim (or_cases (test k) (some_below test k) e) [
      | inl here ↦ (k, omega arith, here)
      | inr there ↦ (let n = found_below test k there in let lt = n.1 in (n.0, omega (arith, lt), n.2))
    ]

below_found : (test : ℕ → Bool) (k n : ℕ) → n < k → test n ≡ true → some_below test k ≡ true
below_found test zero n lt t = absurd (omega (arith, lt))
below_found test (suc k) n lt t =
    elim (cases_eq n k) [
      | inl e ↦ or_left (test k) (some_below test k) (subst (λ (x : ℕ). test x ≡ true) e t)
      | inr ne ↦ or_right (test k) (some_below test k) (below_found test k n (omega (arith, lt, ne)) t)
    ]

-- the test that passes where the first does not is passed by fewer, or by the same
record CountsFewer (p q : ℕ → Bool) (k : ℕ) : Type 0 where
  most : count_below p k ≤ count_below q k
  less : (count_below p k < count_below q k) ⊎ ((n : ℕ) → n < k → q n ≡ true → p n ≡ true)

-- one number more
fewer_next : (p q : ℕ → Bool) (k : ℕ) → ((n : ℕ) → n < suc k → p n ≡ true → q n ≡ true) → CountsFewer p q k → CountsFewer p q (suc k)
fewer_next p q k within before = by_tests (cases_Bool (p k)) (cases_Bool (q k))
  where
    with : (t : ℕ → Bool) → t k ≡ true → count_below t (suc k) ≡ suc (count_below t k)
    with t e = cond-true (t k) (suc (count_below t k)) (count_below t k) e

    without : (t : ℕ → Bool) → t k ≡ false → count_below t (suc k) ≡ count_below t k
    without t e = cond-false (t k) (suc (count_below t k)) (count_below t k) e

    further : (q k ≡ true → p k ≡ true) → ((n : ℕ) → n < k → q n ≡ true → p n ≡ true) → (n : ℕ) → n < suc k → q n ≡ true → p n ≡ true
    further here same n lt t =
        elim (cases_eq n k) [
          | inl e ↦ subst (λ (x : ℕ). p x ≡ true) (sym e) (here (subst (λ (x : ℕ). q x ≡ true) e t))
          | inr ne ↦ same n (omega (arith, lt, ne)) t
        ]

    by_tests : (p k ≡ true) ⊎ (p k ≡ false) → (q k ≡ true) ⊎ (q k ≡ false) → CountsFewer p q (suc k)
    by_tests (inl t) (inr g) = absurd (false≢true (sym g ∙ within k (omega arith) t))
    by_tests (inl t) (inl u) =
        let one = with p t in
        let two = with q u in
        let le = before.most in
        record {
          most = omega (arith, one, two, le);
          less = elim before.less [ inl lt ↦ inl (omega (arith, one, two, lt)) | inr same ↦ inr (further (λ any. t) same) ];
        }
    by_tests (inr f) (inl u) =
        let one = without p f in
        let two = with q u in
        let le = before.most in
        record { most = omega (arith, one, two, le); less = inl (omega (arith, one, two, le)) }
    by_tests (inr f) (inr g) =
        let one = without p f in
        let two = without q g in
        let le = before.most in
        record {
          most = omega (arith, one, two, le);
          less = elim before.less [ inl lt ↦ inl (omega (arith, one, two, lt)) | inr same ↦ inr (further (λ any. absurd (false≢true (sym g ∙ any))) same) ];
        }

counts_fewer : (p q : ℕ → Bool) (k : ℕ) → ((n : ℕ) → n < k → p n ≡ true → q n ≡ true) → CountsFewer p q k
counts_fewer p q zero within = record { most = omega arith; less = inr (λ n lt t. absurd (omega (arith, lt))) }
counts_fewer p q (suc k) within = fewer_next p q k within (counts_fewer p q k (λ n lt. within n (omega (arith, lt))))

count_most : (test : ℕ → Bool) (k : ℕ) → count_below test k ≤ k
count_most test zero = omega arith
count_most test (suc k) =
    let le = count_most test k in
    elim (cases_Bool (test k)) [
      | inl t ↦ (let is = cond-true (test k) (suc (count_below test k)) (count_below test k) t in omega (arith, le, is))
      | inr f ↦ (let is = cond-false (test k) (suc (count_below test k)) (count_below test k) f in omega (arith, le, is))
    ]

-- ---- the greatest rank

-- the greatest rank of the numbers below a bound that pass, or 0
abbrev pub highest : (ℕ → Bool) → (ℕ → ℕ) → ℕ → ℕ
highest from rank zero = 0
highest from rank (suc k) = cond (from k) (max (rank k) (highest from rank k)) (highest from rank k)

pub highest_above : (from : ℕ → Bool) (rank : ℕ → ℕ) (k n : ℕ) → n < k → from n ≡ true → rank n ≤ highest from rank k
highest_above from rank zero n lt t = absurd (omega (arith, lt))
highest_above from rank (suc k) n lt t =
    elim (cases_eq n k) [
      | inl e ↦
          let here : from k ≡ true = subst (λ (x : ℕ). from x ≡ true) e t in
          let le = subst (λ (x : ℕ). rank x ≤ max (rank k) (highest from rank k)) (sym e) (le-max_left (rank k) (highest from rank k)) in
          subst (λ (x : ℕ). rank n ≤ x) (sym (cond-true (from k) (max (rank k) (highest from rank k)) (highest from rank k) here)) le
      | inr ne ↦
          let below = highest_above from rank k n (omega (arith, lt, ne)) t in
          elim (cases_Bool (from k)) [
            | inl here ↦
                let more = le-max_right (rank k) (highest from rank k) in
                subst (λ (x : ℕ). rank n ≤ x) (sym (cond-true (from k) (max (rank k) (highest from rank k)) (highest from rank k) here)) (omega (arith, below, more))
            | inr f ↦ subst (λ (x : ℕ). rank n ≤ x) (sym (cond-false (from k) (max (rank k) (highest from rank k)) (highest from rank k) f)) below
          ]
    ]

pub highest_reached : (from : ℕ → Bool) (rank : ℕ → ℕ) (k : ℕ) → (highest from rank k ≡ 0) ⊎ ((n : ℕ) × (from n ≡ true) × (highest from rank k ≡ rank n))
highest_reached from rank zero = inl refl
highest_reached from rank (suc k) =
    elim (cases_Bool (from k)) [
      | inr f ↦
          let is = cond-false (from k) (max (rank k) (highest from rank k)) (highest from rank k) f in
          elim (highest_reached from rank k) [ inl z ↦ inl (is ∙ z) | inr n ↦ inr (n.0, n.1, is ∙ n.2) ]
      | inl here ↦
          let is = cond-true (from k) (max (rank k) (highest from rank k)) (highest from rank k) here in
          elim (cases_Bool (leb (highest from rank k) (rank k))) [
            | inl le ↦ inr (k, here, is ∙ max-eq_left (leb-true (highest from rank k) (rank k) le))
            | inr gt ↦
                let more = leb-false (highest from rank k) (rank k) gt in
                let rest : max (rank k) (highest from rank k) ≡ highest from rank k = max-eq_right (omega (arith, more)) in
                elim (highest_reached from rank k) [ inl z ↦ inl (is ∙ rest ∙ z) | inr n ↦ inr (n.0, n.1, is ∙ rest ∙ n.2) ]
          ]
    ]

highest_same : (from : ℕ → Bool) (r q : ℕ → ℕ) (k : ℕ) → ((n : ℕ) → n < k → from n ≡ true → r n ≡ q n) → highest from r k ≡ highest from q k
highest_same from r q zero same = refl
highest_same from r q (suc k) same =
    let rest = highest_same from r q k (λ n lt. same n (omega (arith, lt))) in
    elim (cases_Bool (from k)) [
      | inl t ↦ cond-true (from k) (max (r k) (highest from r k)) (highest from r k) t ∙ ap₂ max (same k (omega arith) t) rest ∙ sym (cond-true (from k) (max (q k) (highest from q k)) (highest from q k) t)
      | inr f ↦ cond-false (from k) (max (r k) (highest from r k)) (highest from r k) f ∙ rest ∙ sym (cond-false (from k) (max (q k) (highest from q k)) (highest from q k) f)
    ]

-- ---- ranks

-- numbers that are ranked are one above the greatest from which arcs lead to them, and others are 0
pub record AreChainRanks (test : ℕ → ℕ → Bool) (ranked : ℕ → Bool) (bound : ℕ) (rank : ℕ → ℕ) : Type 0 where
  pub none : (m : ℕ) → ranked m ≡ false → rank m ≡ 0
  pub next : (m : ℕ) → ranked m ≡ true → rank m ≡ suc (highest (λ n. test n m) rank bound)

module _ (test : ℕ → ℕ → Bool) (ranked : ℕ → Bool) (bound : ℕ) (inside : (m : ℕ) → ranked m ≡ true → m < bound)
    (Arc : ℕ → ℕ → Type 0) (arcs : (n m : ℕ) → test n m ≡ true → Arc n m) (acyclic : (nodes : List ℕ) → ¬ IsCycle Arc nodes) where
  -- ranks by chains of at most so many arcs
  rank_within : ℕ → ℕ → ℕ
  rank_within zero m = 0
  rank_within (suc k) m = cond (ranked m) (suc (highest (λ n. test n m) (rank_within k) bound)) 0

  -- a chain of so many arcs leads to the number
  waits : ℕ → ℕ → Bool
  waits zero m = true
  waits (suc k) m = some_below (λ n. test n m && waits k n) bound

  waits_less : (k m : ℕ) → waits (suc k) m ≡ true → waits k m ≡ true
  unfolding waits
  waits_less zero m e = refl
  waits_less (suc k) m e =
      let from = found_below (λ n. test n m && waits (suc k) n) bound e in
      let both = and_parts (test from.0 m) (waits (suc k) from.0) from.2 in
      below_found (λ n. test n m && waits k n) bound from.0 from.1 (and_from (test from.0 m) (waits k from.0) both.0 (waits_less k from.0 both.1))

  -- where no longer chain leads to a number, its rank stays
  settles : (k m : ℕ) → waits k m ≡ false → rank_within k m ≡ rank_within (suc k) m
  unfolding rank_within waits
  settles zero m e = absurd (false≢true (sym e))
  settles (suc k) m e =
      ap (λ (x : ℕ). cond (ranked m) (suc x) 0) (highest_same (λ n. test n m) (rank_within k) (rank_within (suc k)) bound (λ n lt t. settles k n (shorter n lt t)))
    where
      shorter : (n : ℕ) → n < bound → test n m ≡ true → waits k n ≡ false
      shorter n lt t =
          elim (cases_Bool (waits k n)) [
            | inl w ↦ absurd (false≢true (sym e ∙ below_found (λ x. test x m && waits k x) bound n lt (and_from (test n m) (waits k n) t w)))
            | inr f ↦ f
          ]

  -- fewer numbers wait for each longer chain, until the same ones do
  abbrev IsClosed : ℕ → Type 0
  IsClosed k = (m : ℕ) → m < bound → waits k m ≡ true → waits (suc k) m ≡ true

  closes : (k : ℕ) → (count_below (waits k) bound + k ≤ bound) ⊎ ((j : ℕ) × IsClosed j)
  closes zero = inl (let le = count_most (waits zero) bound in omega (arith, le))
  closes (suc k) =
      elim (closes k) [
        | inr done ↦ inr done
        | inl le ↦ elim (counts_fewer (waits (suc k)) (waits k) bound (λ n lt. waits_less k n)).less [
          | inl lt ↦ inl (omega (arith, le, lt))
          | inr same ↦ inr (k, same)
        ]
      ]

  closed : (j : ℕ) × IsClosed j
  closed = elim (closes (suc bound)) [ inl le ↦ absurd (omega (arith, le)) | inr done ↦ done ]

  -- which are none, since each of them would be behind another
  none_waits : (m : ℕ) → m < bound → waits closed.0 m ≡ false
  unfolding waits
  none_waits m lt =
      elim (cases_Bool (waits closed.0 m)) [
        | inl w ↦ absurd (none_behind Arc bound acyclic (λ n. (n < bound) × (waits closed.0 n ≡ true)) (λ n p. p.0) back m (lt, w))
        | inr f ↦ f
      ]
    where
      back : (n : ℕ) → (n < bound) × (waits closed.0 n ≡ true) → (l : ℕ) × ((l < bound) × (waits closed.0 l ≡ true)) × Arc l n
      back n p =
          let from = found_below (λ l. test l n && waits closed.0 l) bound (closed.1 n p.0 p.1) in
          let both = and_parts (test from.0 n) (waits closed.0 from.0) from.2 in
          (from.0, (from.1, both.1), arcs from.0 n both.0)

  -- there are ranks
  pub chain_ranks : (rank : ℕ → ℕ) × AreChainRanks test ranked bound rank
  unfolding rank_within
  chain_ranks = (
    rank_within (suc closed.0),
    record {
      none = λ m f. cond-false (ranked m) (suc (highest (λ n. test n m) (rank_within closed.0) bound)) 0 f;
      next = λ m t.
          cond-true (ranked m) (suc (highest (λ n. test n m) (rank_within closed.0) bound)) 0 t
          ∙ ap suc (highest_same (λ n. test n m) (rank_within closed.0) (rank_within (suc closed.0)) bound (λ n lt e. settles closed.0 n (none_waits n lt)));
    },
  )
