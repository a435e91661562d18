-- How many of the first n marks are set.
use Rattle.std.proofs.Common.{◌≡◌, ℕ, zero, suc, ◌+◌, ◌<◌, ◌≤◌, ◌⊎◌, Bool, true, false, cond, arith, refl, sym, subst, ap, ◌∙◌, inl, inr}
use Rattle.std.proofs.lemmas.Bool.{cases_lt, cases_Bool, false≢true}

abbrev pub count : (ℕ → Bool) → ℕ → ℕ
count t zero = 0
count t (suc n) = count t n + cond (t n) 1 0

bit_le : (b : Bool) → cond b 1 0 ≤ 1
bit_le true = omega arith
bit_le false = omega arith

pub count_le : (t : ℕ → Bool) (n : ℕ) → count t n ≤ n
count_le t zero = omega arith
count_le t (suc n) = omega (arith, count_le t n, bit_le (t n))

bit_more : (a b : Bool) → (a ≡ true → b ≡ true) → cond a 1 0 ≤ cond b 1 0
bit_more true b h = subst (λ (x : Bool). 1 ≤ cond x 1 0) (sym (h refl)) (omega arith)
bit_more false b h = omega arith

-- either no mark is new, or more are set
pub same_or_more : (t u : ℕ → Bool) (n : ℕ) → ((i : ℕ) → i < n → t i ≡ true → u i ≡ true)
    → (((i : ℕ) → i < n → u i ≡ true → t i ≡ true) × (count t n ≤ count u n)) ⊎ (count t n + 1 ≤ count u n)
same_or_more t u zero grown = inl (λ i lt e. absurd (omega (arith, lt)), omega arith)
same_or_more t u (suc n) grown =
    let more = bit_more (t n) (u n) (grown n (omega arith)) in
    elim (same_or_more t u n (λ i lt e. grown i (omega (arith, lt)) e)) [
      | inr up ↦ inr (omega (arith, up, more))
      | inl same ↦ elim (cases_Bool (t n)) [
        | inl on ↦ inl (
          λ i lt e. elim (cases_lt i n) [ inl low ↦ same.0 i low e | inr high ↦ (let at : n ≡ i = omega (arith, lt, high) in subst (λ (x : ℕ). t x ≡ true) at on) ],
          omega (arith, same.1, more),
        )
        | inr off ↦ elim (cases_Bool (u n)) [
          | inl new ↦ inr (omega (arith, same.1, ap {B = ℕ} (λ (b : Bool). cond b 1 0) off, ap {B = ℕ} (λ (b : Bool). cond b 1 0) new))
          | inr none ↦ inl (
            λ i lt e. elim (cases_lt i n) [ inl low ↦ same.0 i low e | inr high ↦ (let at : n ≡ i = omega (arith, lt, high) in absurd (false≢true (sym (subst (λ (x : ℕ). u x ≡ false) at none) ∙ e))) ],
            omega (arith, same.1, more),
          )
        ]
      ]
    ]

-- where so many are set, all are
pub count_all : (t : ℕ → Bool) (n : ℕ) → n ≤ count t n → (i : ℕ) → i < n → t i ≡ true
count_all t zero le i lt = absurd (omega (arith, lt))
count_all t (suc n) le i lt =
    elim (cases_lt i n) [
      | inl low ↦ count_all t n (omega (arith, le, bit_le (t n))) i low
      | inr high ↦
          let at : n ≡ i = omega (arith, lt, high) in
          subst (λ (x : ℕ). t x ≡ true) at (elim (cases_Bool (t n)) [
            | inl on ↦ on
            | inr off ↦ absurd (omega (arith, le, count_le t n, ap {B = ℕ} (λ (b : Bool). cond b 1 0) off))
          ])
    ]

-- where none is counted, none is set
pub none_counted : (t : ℕ → Bool) (n : ℕ) → count t n ≤ 0 → (i : ℕ) → i < n → t i ≡ true → ⊥
none_counted t zero le i lt e = omega (arith, lt)
none_counted t (suc n) le i lt e =
    elim (cases_lt i n) [
      | inl low ↦ none_counted t n (omega (arith, le)) i low e
      | inr high ↦
          let at : i ≡ n = omega (arith, lt, high) in
          let on : t n ≡ true = subst (λ (x : ℕ). t x ≡ true) at e in
          omega (arith, le, ap {B = ℕ} (λ (b : Bool). cond b 1 0) on)
    ]
