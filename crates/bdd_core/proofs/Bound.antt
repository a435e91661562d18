-- A diagram over u variables has at most 2 ^ u - 1 nodes besides the ends.
use Rattle.std.proofs.Common.{◌≡◌, ℕ, zero, suc, ◌+◌, ◌-◌, ◌^◌, ◌<◌, ◌≤◌, ◌≢◌, Bool, true, false, cond, ltb, List, length, sym, ap, refl, ◌∙◌, inl, inr, arith}
use mathlib.Core.Path.{fun_ext}
use Rattle.std.proofs.lemmas.Bool.{cases_lt}
use Rattle.node_pool.specs.declared.region.Node.{Node}
use Rattle.bdd_core.specs.Diagram.{Function, Valuation, IsWithin, TestsWithin, IsReduced, IsSubfunction, Grows, meaning, node_at, top, splice, with_bit}
use Rattle.bdd_core.proofs.Canonical.{canonical, independent, hi_by_bit, lo_by_bit, with_bit_other, ends_same, proper_node}
use Rattle.bdd_core.proofs.Growth.{grows_length, splice_late, splice_within}
use Rattle.bdd_core.proofs.Pigeon.{pigeon}

-- the first x bits as a number
abbrev pub bits : ℕ → Valuation → ℕ
bits zero w = 0
bits (suc x) w = bits x w + cond (w x) (2 ^ x) 0

pub double : (x : ℕ) → 2 ^ (suc x) ≡ 2 ^ x + 2 ^ x
double x = omega arith

pub bits_lt : (x : ℕ) (w : Valuation) → bits x w < 2 ^ x
bits_lt zero w = omega arith
bits_lt (suc x) w =
    let go : (b : Bool) → bits x w + cond b (2 ^ x) 0 < 2 ^ (suc x) = λ b. elim b as (λ b. bits x w + cond b (2 ^ x) 0 < 2 ^ (suc x)) [
      | true ↦ omega (arith, bits_lt x w, double x)
      | false ↦ omega (arith, bits_lt x w, double x)
    ] in
    go (w x)

pub bits_apart : (x : ℕ) (w w' : Valuation) → bits x w ≡ bits x w' → (y : ℕ) → y < x → w y ≡ w' y
bits_apart zero w w' same y below = absurd (omega (arith, below))
bits_apart (suc x) w w' same y below =
    let go : (b b' : Bool) → bits x w + cond b (2 ^ x) 0 ≡ bits x w' + cond b' (2 ^ x) 0 → (b ≡ b') × (bits x w ≡ bits x w') =
    λ b b'. elim b as (λ b. bits x w + cond b (2 ^ x) 0 ≡ bits x w' + cond b' (2 ^ x) 0 → (b ≡ b') × (bits x w ≡ bits x w')) [
      | true ↦ elim b' as (λ b'. bits x w + 2 ^ x ≡ bits x w' + cond b' (2 ^ x) 0 → (true ≡ b') × (bits x w ≡ bits x w')) [
        | true ↦ λ e. (refl, omega (arith, e))
        | false ↦ λ e. absurd (omega (arith, e, bits_lt x w'))
      ]
      | false ↦ elim b' as (λ b'. bits x w + 0 ≡ bits x w' + cond b' (2 ^ x) 0 → (false ≡ b') × (bits x w ≡ bits x w')) [
        | true ↦ λ e. absurd (omega (arith, e, bits_lt x w))
        | false ↦ λ e. (refl, omega (arith, e))
      ]
    ] in
    let both = go (w x) (w' x) same in
    elim (cases_lt y x) [
      | inl low ↦ bits_apart x w w' both.1 y low
      | inr high ↦ let at : y ≡ x = omega (arith, below) in rw at both.0
    ]

-- a number for each choice of a length and of so many bits
abbrev pub code : ℕ → Valuation → ℕ
code x w = 2 ^ x - 1 + bits x w

pow_le : (x y : ℕ) → x ≤ y → 2 ^ x ≤ 2 ^ y
pow_le x zero le = let e : x ≡ 0 = omega arith in rw e (omega arith)
pow_le x (suc y) le = elim (cases_lt x (suc y)) [
  | inl low ↦ omega (arith, pow_le x y (omega arith), double y)
  | inr high ↦ let e : x ≡ suc y = omega arith in rw e (omega arith)
]

pow_positive : (x : ℕ) → 0 < 2 ^ x
pow_positive x = omega (arith, pow_le 0 x (omega arith))

code_lt : (x u : ℕ) (w : Valuation) → x < u → code x w < 2 ^ u - 1
code_lt x u w below = omega (arith, bits_lt x w, double x, pow_le (suc x) u (omega arith), pow_positive x)

code_length : (x x' : ℕ) (w w' : Valuation) → code x w ≡ code x' w' → x ≡ x'
code_length x x' w w' same = elim (cases_lt x x') [
  | inl low ↦ absurd (omega (arith, same, bits_lt x w, double x, pow_le (suc x) x' (omega arith), pow_positive x))
  | inr high ↦ elim (cases_lt x' x) [
    | inl low ↦ absurd (omega (arith, same, bits_lt x' w', double x', pow_le (suc x') x (omega arith), pow_positive x'))
    | inr high' ↦ omega arith
  ]
]

module _ (vars : ℕ) (ns : List Node) (r : IsReduced vars ns) (p : ℕ) (high : 2 ≤ p) (within : p < length ns) where
  -- a node depends on its variable
  depends : ((v : Valuation) → meaning ns p (with_bit v (top ns p) true) ≡ meaning ns p (with_bit v (top ns p) false)) → ⊥
  depends same =
      let q = r.proper p high within in
      q.differ (canonical vars ns r (node_at ns p).lo (node_at ns p).hi (omega (arith, q.lo_below)) (omega (arith, q.hi_below))
      (λ v. lo_by_bit vars ns r p high within v ∙ sym (same v) ∙ sym (hi_by_bit vars ns r p high within v)))

  -- a node of the diagram of a function of the first u variables tests one of them
  pub tests_within : (u : ℕ) (f : Function) → IsWithin u f → IsSubfunction (meaning ns p) f → top ns p < u
  tests_within u f reads sub = elim (cases_lt (top ns p) u) [
    | inl low ↦ low
    | inr above ↦ absurd (depends (λ v. sub.is (with_bit v (top ns p) true)
        ∙ reads (splice sub.first sub.fixed (with_bit v (top ns p) true)) (splice sub.first sub.fixed (with_bit v (top ns p) false))
        (splice_within sub.first u sub.fixed (with_bit v (top ns p) true) (with_bit v (top ns p) false)
        (λ y below. with_bit_other v (top ns p) y true (omega (arith, below, above)) ∙ sym (with_bit_other v (top ns p) y false (omega (arith, below, above)))))
        ∙ sym (sub.is (with_bit v (top ns p) false))))
  ]

  -- its variable is not among those that were fixed
  first_le : (f : Function) → (sub : IsSubfunction (meaning ns p) f) → sub.first ≤ top ns p
  first_le f sub = elim (cases_lt (top ns p) sub.first) [
    | inr done ↦ done
    | inl fixed ↦ absurd (depends (λ v. sub.is (with_bit v (top ns p) true)
        ∙ ap f (fun_ext (λ y. elim (cases_lt y sub.first) [
          | inl low ↦ grind arith
          | inr late ↦ let other : y ≢ top ns p = omega (arith, fixed, late) in
              let e : with_bit v (top ns p) true y ≡ with_bit v (top ns p) false y = with_bit_other v (top ns p) y true other ∙ sym (with_bit_other v (top ns p) y false other) in
              grind arith
        ]))
        ∙ sym (sub.is (with_bit v (top ns p) false))))
  ]

-- the bits that are fixed, and zeros
abbrev padded : ℕ → Valuation → Valuation
padded k w = λ y. cond (ltb y k) (w y) false

padded_splice : (k x : ℕ) (w v : Valuation) → k ≤ x → (y : ℕ) → splice k w (splice x (λ _. false) v) y ≡ splice x (padded k w) v y
padded_splice k x w v le y = elim (cases_lt y k) [
  | inl low ↦ let low' : y < x = omega (arith, low, le) in grind arith
  | inr high ↦ elim (cases_lt y x) [ inl low' ↦ grind arith | inr high' ↦ grind arith ]
]

module _ (vars : ℕ) (ns : List Node) (r : IsReduced vars ns) (f : Function) where
  -- a node of the diagram is the function with the first variables before its own fixed
  by_top : (p : ℕ) → 2 ≤ p → (within : p < length ns) (sub : IsSubfunction (meaning ns p) f) → (v : Valuation) → meaning ns p v ≡ f (splice (top ns p) (padded sub.first sub.fixed) v)
  by_top p high within sub v =
      sym (independent vars ns r p within (splice (top ns p) (λ _. false) v) v (splice_late (top ns p) (λ _. false) v))
      ∙ sub.is (splice (top ns p) (λ _. false) v)
      ∙ ap f (fun_ext (padded_splice sub.first (top ns p) sub.fixed v (first_le vars ns r p high within f sub)))

  same_code : (p q : ℕ) → 2 ≤ p → 2 ≤ q → (in_p : p < length ns) (in_q : q < length ns) (sp : IsSubfunction (meaning ns p) f) (sq : IsSubfunction (meaning ns q) f) →
      code (top ns p) (padded sp.first sp.fixed) ≡ code (top ns q) (padded sq.first sq.fixed) → p ≡ q
  same_code p q hp hq in_p in_q sp sq same =
      let tops : top ns p ≡ top ns q = code_length (top ns p) (top ns q) (padded sp.first sp.fixed) (padded sq.first sq.fixed) same in
      let numbers : bits (top ns p) (padded sp.first sp.fixed) ≡ bits (top ns p) (padded sq.first sq.fixed) =
      omega (arith, same, ap (λ x. 2 ^ x) tops, ap (λ x. bits x (padded sq.first sq.fixed)) tops) in
      let apart = bits_apart (top ns p) (padded sp.first sp.fixed) (padded sq.first sq.fixed) numbers in
      canonical vars ns r p q in_p in_q (λ v.
      by_top p hp in_p sp v
      ∙ ap f (fun_ext (λ y. elim (cases_lt y (top ns p)) [
        | inl low ↦ let e = apart y low in let low' : y < top ns q = omega (arith, low, tops) in grind arith
        | inr high ↦ let high' : top ns q ≤ y = omega (arith, high, tops) in grind arith
      ]))
      ∙ sym (by_top q hq in_q sq v))

-- a call that makes the diagram of a function of u variables adds at most 2 ^ u - 1 nodes
pub grows_at_most : (vars u : ℕ) (old new : List Node) (f : Function) → IsReduced vars new → 2 ≤ length old → IsWithin u f → Grows old new f → length new ≤ length old + (2 ^ u - 1)
grows_at_most vars u old new f r two reads g =
    let more = grows_length old new f g in
    let n : ℕ = length new - length old in
    let found : (i : ℕ) → (c : ℕ) × (i < n → (s : IsSubfunction (meaning new (length old + i)) f) × (c ≡ code (top new (length old + i)) (padded s.first s.fixed))) = λ i. elim (cases_lt i n) [
      | inl low ↦
          let s = g.added (length old + i) (omega arith) (omega (arith, low, more)) in
          (code (top new (length old + i)) (padded s.first s.fixed), λ _. (s, refl))
      | inr high ↦ (0, λ low. absurd (omega (arith, low, high)))
    ] in
    let fewer : n ≤ 2 ^ u - 1 = pigeon (2 ^ u - 1) n (λ i. (found i).0)
    (λ i low. let s = (found i).1 low in
    let t = tests_within vars new r (length old + i) (omega (arith, two)) (omega (arith, low, more)) u f reads s.0 in
    omega (arith, s.1, code_lt (top new (length old + i)) u (padded s.0.first s.0.fixed) t))
    (λ i j low low' same. let s = (found i).1 low in let t = (found j).1 low' in
    omega (arith, same_code vars new r f (length old + i) (length old + j) (omega (arith, two)) (omega (arith, two)) (omega (arith, low, more)) (omega (arith, low', more)) s.0 t.0 (sym s.1 ∙ same ∙ t.1))) in
    omega (arith, fewer, more)

-- a function whose diagram tests only the first u variables reads no other: the value of a place does not depend on
-- the others, by what its branches do
within_below : (vars u : ℕ) (ns : List Node) (r : IsReduced vars ns) → TestsWithin u ns → (n p : ℕ) → p < n → p < length ns → IsWithin u (meaning ns p)
within_below vars u ns r all zero p below within v w same = absurd (omega arith)
within_below vars u ns r all (suc n) p below within v w same = elim (cases_lt p 2) [
  | inl low ↦ ends_same vars ns r p low v w
  | inr high ↦
      let q = r.proper p high within in
      proper_node vars ns r p high within v
      ∙ rw (
        same (top ns p) (all p high within),
        within_below vars u ns r all n (node_at ns p).hi (omega (arith, q.hi_below)) (omega (arith, q.hi_below)) v w same,
        within_below vars u ns r all n (node_at ns p).lo (omega (arith, q.lo_below)) (omega (arith, q.lo_below)) v w same,
      )
      (sym (proper_node vars ns r p high within w))
]

pub within_place : (vars u : ℕ) (ns : List Node) (p : ℕ) → IsReduced vars ns → TestsWithin u ns → p < length ns → IsWithin u (meaning ns p)
within_place vars u ns p r all within = within_below vars u ns r all (suc p) p (omega arith) within

-- and the nodes that are added for such a function test only these
pub grows_within : (vars u : ℕ) (old new : List Node) (f : Function) → IsReduced vars new → 2 ≤ length old → IsWithin u f → Grows old new f → (i : ℕ) → length old ≤ i → i < length new → top new i < u
grows_within vars u old new f r two reads g i from below = tests_within vars new r i (omega arith) below u f reads (g.added i from below)
