-- There are 2 ^ 2 ^ u functions of the first u variables.
use Rattle.std.proofs.Common.{◌≡◌, ℕ, zero, suc, ◌+◌, ◌-◌, ◌^◌, ◌<◌, ◌≤◌, Bool, true, false, cond, ltb, List, length, sym, ap, subst, refl, ◌∙◌, inl, inr, arith}
use Rattle.std.proofs.lemmas.Bool.{cases_eq, cases_lt, lt-ltb, le-ltb}
use Rattle.node_pool.specs.declared.region.Node.{Node}
use Rattle.bdd_core.specs.Diagram.{Function, IsReduced, IsSame, IsWithin, TestsWithin, Valuation, meaning, with_bit}
use Rattle.bdd_core.proofs.Bound.{bits, bits_apart, bits_lt, within_place}
use Rattle.bdd_core.proofs.Canonical.{canonical, with_bit_here, with_bit_other}
use Rattle.bdd_core.proofs.Pigeon.{pigeon}

-- the first x bits of a number
abbrev bits_from : ℕ → ℕ → Valuation
bits_from zero n = λ y. false
bits_from (suc x) n = cond (ltb n (2 ^ x)) (bits_from x n) (with_bit (bits_from x (n - 2 ^ x)) x true)

bits_from_high : (x n y : ℕ) → x ≤ y → bits_from x n y ≡ false
bits_from_high zero n y high = refl
bits_from_high (suc x) n y high = elim (cases_lt n (2 ^ x)) [
  | inl low ↦ rw (lt-ltb n (2 ^ x) low) (bits_from_high x n y (omega (arith, high)))
  | inr up ↦ rw (le-ltb n (2 ^ x) up) (with_bit_other (bits_from x (n - 2 ^ x)) x y true (omega (arith, high)) ∙ bits_from_high x (n - 2 ^ x) y (omega (arith, high)))
]

-- they are those that the number was made of
bits_from_bits : (x : ℕ) (w : Valuation) (y : ℕ) → y < x → bits_from x (bits x w) y ≡ w y
bits_from_bits zero w y below = absurd (omega (arith, below))
bits_from_bits (suc x) w y below =
    let go : (b : Bool) → w x ≡ b → bits_from (suc x) (bits x w + cond b (2 ^ x) 0) y ≡ w y =
    λ b. elim b as (λ b. w x ≡ b → bits_from (suc x) (bits x w + cond b (2 ^ x) 0) y ≡ w y) [
      | true ↦ λ is.
          let up : 2 ^ x ≤ bits x w + 2 ^ x = omega arith in
          let rest : bits x w + 2 ^ x - 2 ^ x ≡ bits x w = omega arith in
          rw (le-ltb (bits x w + 2 ^ x) (2 ^ x) up, rest) (elim (cases_eq y x) [
            | inl here ↦ rw here (with_bit_here (bits_from x (bits x w)) x true ∙ sym is)
            | inr other ↦ with_bit_other (bits_from x (bits x w)) x y true other ∙ bits_from_bits x w y (omega (arith, below, other))
          ])
      | false ↦ λ is.
          let same : bits x w + 0 ≡ bits x w = omega arith in
          rw (same, lt-ltb (bits x w) (2 ^ x) (bits_lt x w)) (elim (cases_eq y x) [
            | inl here ↦ rw here (bits_from_high x (bits x w) x (omega arith) ∙ sym is)
            | inr other ↦ bits_from_bits x w y (omega (arith, below, other))
          ])
    ] in
    go (w x) refl

-- a number for each function of the first u variables: its values are the bits
abbrev code : ℕ → Function → ℕ
code u f = bits (2 ^ u) (λ n. f (bits_from u n))

code_below : (u : ℕ) (f : Function) → code u f < 2 ^ (2 ^ u)
code_below u f = bits_lt (2 ^ u) (λ n. f (bits_from u n))

code_same : (u : ℕ) (f g : Function) → IsWithin u f → IsWithin u g → code u f ≡ code u g → IsSame f g
code_same u f g reads reads' same v =
    let here = bits_from_bits u v in
    sym (reads (bits_from u (bits u v)) v here)
    ∙ bits_apart (2 ^ u) (λ n. f (bits_from u n)) (λ n. g (bits_from u n)) same (bits u v) (bits_lt u v)
    ∙ reads' (bits_from u (bits u v)) v here

-- where all nodes test the first u variables and a function of these has no place, there are fewer nodes than functions
pub fewer_than_functions : (vars u : ℕ) (nodes : List Node) (f : Function) → IsReduced vars nodes → TestsWithin u nodes → IsWithin u f
    → ((i : ℕ) → i < length nodes → IsSame (meaning nodes i) f → ⊥) → length nodes < 2 ^ (2 ^ u)
fewer_than_functions vars u nodes f r tests reads absent =
    let n : ℕ = length nodes in
    let each : ℕ → Function = λ i. cond (ltb i n) (meaning nodes i) f in
    let first : (i : ℕ) → i < n → each i ≡ meaning nodes i = λ i low. rw (lt-ltb i n low) refl in
    let last : (i : ℕ) → n ≤ i → each i ≡ f = λ i high. rw (le-ltb i n high) refl in
    let within : (i : ℕ) → IsWithin u (each i) = λ i. elim (cases_lt i n) [
      | inl low ↦ subst (λ (h : Function). IsWithin u h) (sym (first i low)) (within_place vars u nodes i r tests low)
      | inr high ↦ subst (λ (h : Function). IsWithin u h) (sym (last i high)) reads
    ] in
    omega (
      arith,
      pigeon (2 ^ (2 ^ u)) (n + 1) (λ i. code u (each i)) (λ i low. code_below u (each i)) (λ i j low low' same.
          let alike : IsSame (each i) (each j) = code_same u (each i) (each j) (within i) (within j) same in
          elim (cases_lt i n) [
            | inl in_i ↦ elim (cases_lt j n) [
              | inl in_j ↦ canonical vars nodes r i j in_i in_j (λ v. sym (ap (λ (h : Function). h v) (first i in_i)) ∙ alike v ∙ ap (λ (h : Function). h v) (first j in_j))
              | inr out_j ↦ absurd (absent i in_i (λ v. sym (ap (λ (h : Function). h v) (first i in_i)) ∙ alike v ∙ ap (λ (h : Function). h v) (last j out_j)))
            ]
            | inr out_i ↦ elim (cases_lt j n) [
              | inl in_j ↦ absurd (absent j in_j (λ v. sym (ap (λ (h : Function). h v) (first j in_j)) ∙ sym (alike v) ∙ ap (λ (h : Function). h v) (last i out_i)))
              | inr out_j ↦ omega (arith, low, low', out_i, out_j)
            ]
          ]),
    )
