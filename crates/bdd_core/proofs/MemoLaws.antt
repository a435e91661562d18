-- A memo over diagrams that grow.
use Rattle.std.proofs.Common.{◌≡◌, ℕ, ◌<◌, ◌≤◌, ◌-◌, ◌⊎◌, Bool, true, false, List, ◌++◌, length, replicate, set, get_or-set_same, get_or-set_other, length-set, sym, ap, subst, ◌∙◌, inl, inr, arith, refl}
use Rattle.std.proofs.lemmas.List.{get_or_append_left, get_or-replicate, length-replicate}
use Rattle.std.proofs.Math.ListN.{get_or-eq_default}
use Rattle.std.proofs.Math.Seq.{get_or-append_right}
use Rattle.std.proofs.lemmas.Bool.{cases_eq, cases_lt}
use Rattle.node_pool.specs.declared.region.Node.{Node}
use Rattle.bdd_core.specs.declared.memo.Entry.{Entry}
use Rattle.bdd_core.specs.declared.memo.Pair.{Pair}
use Rattle.bdd_core.specs.Diagram.{Function, IsSame, Grows, meaning, choice, fixed, with_bit}
use Rattle.bdd_core.specs.Memo.{no_pair, pair_at, fixed_mark, Holds, HoldsOnly, HoldsOnlyAlso, IsEmpty, IsOf, IsRight, Recalls, RecallsFixed, Remembers}
use Rattle.bdd_core.proofs.Growth.{grows_keeps, grows_length}

pub recalls_grow : (old new : List Node) (f : Function) → Grows old new f → (e : Entry) → Recalls old e → Recalls new e
recalls_grow old new f grown e r =
    let more = grows_length old new f grown in
    record {
      f_in = omega (arith, r.f_in, more);
      g_in = omega (arith, r.g_in, more);
      h_in = omega (arith, r.h_in, more);
      r_in = omega (arith, r.r_in, more);
      is = λ v. grows_keeps old new f grown e.r r.r_in v ∙ r.is v
          ∙ sym (rw (grows_keeps old new f grown e.f r.f_in v, grows_keeps old new f grown e.g r.g_in v, grows_keeps old new f grown e.h r.h_in v) refl);
    }

pub fixed_grow : (old new : List Node) (f : Function) → Grows old new f → (e : Entry) → RecallsFixed old e → RecallsFixed new e
fixed_grow old new f grown e r =
    let more = grows_length old new f grown in
    record {
      f_in = omega (arith, r.f_in, more);
      r_in = omega (arith, r.r_in, more);
      bit = r.bit;
      mark = r.mark;
      is = λ v. grows_keeps old new f grown e.r r.r_in v ∙ r.is v ∙ sym (grows_keeps old new f grown e.f r.f_in (with_bit v e.g r.bit));
    }

pub remembers_grow : (old new : List Node) (f : Function) (memo : List Pair) → Grows old new f → Remembers old memo → Remembers new memo
remembers_grow old new f memo grown all e there = elim (all e there) [
  | inl empty ↦ inl empty
  | inr some ↦ inr (elim some [
    | inl right ↦ inl (recalls_grow old new f grown e right)
    | inr right ↦ inr (fixed_grow old new f grown e right)
  ])
]

pub remembers_empty : (nodes : List Node) (memo : List Pair) → IsEmpty memo → Remembers nodes memo
remembers_empty nodes memo none e there = inl (none e there)

-- one right entry more
pub remembers_also : (nodes : List Node) (entry : Entry) (old new : List Pair) → IsRight nodes entry → HoldsOnlyAlso entry old new → Remembers nodes old → Remembers nodes new
remembers_also nodes entry old new right only all e there = elim (only e there) [
  | inl this ↦ subst (λ x. IsRight nodes x) this right
  | inr other ↦ elim other [ inl empty ↦ inl empty | inr before ↦ all e before ]
]

mark_high : (b : Bool) → 4294967294 ≤ fixed_mark b
mark_high true = omega arith
mark_high false = omega arith

pub mark_apart : (b c : Bool) → fixed_mark b ≡ fixed_mark c → b ≡ c
mark_apart true true e = refl
mark_apart false false e = refl
mark_apart true false e = absurd (omega (arith, e))
mark_apart false true e = absurd (omega (arith, e))

-- what the memo recalls of `ite`
pub recalled : (nodes : List Node) (memo : List Pair) (f g h r : ℕ) → length nodes ≤ 64000000 → Remembers nodes memo → 2 ≤ f → h < length nodes →
    Holds memo (record { f = f; g = g; h = h; r = r }) → (r < length nodes) × IsSame (meaning nodes r) (choice (meaning nodes f) (meaning nodes g) (meaning nodes h))
recalled nodes memo f g h r few all high h_in there = elim (all (record { f = f; g = g; h = h; r = r }) there) [
  | inl empty ↦ absurd (omega (arith, empty, high))
  | inr some ↦ elim some [
    | inl right ↦ (right.r_in, right.is)
    | inr other ↦ absurd (omega (arith, other.mark, mark_high other.bit, h_in, few))
  ]
]

-- what the memo recalls of `restrict`
pub recalled_fixed : (nodes : List Node) (memo : List Pair) (f x h r : ℕ) (b : Bool) → length nodes ≤ 64000000 → Remembers nodes memo → 2 ≤ f → h ≡ fixed_mark b →
    Holds memo (record { f = f; g = x; h = h; r = r }) → (r < length nodes) × IsSame (meaning nodes r) (fixed (meaning nodes f) x b)
recalled_fixed nodes memo f x h r b few all high mark there = elim (all (record { f = f; g = x; h = h; r = r }) there) [
  | inl empty ↦ absurd (omega (arith, empty, high))
  | inr some ↦ elim some [
    | inl other ↦ absurd (omega (arith, mark, mark_high b, other.h_in, few))
    | inr right ↦ (right.r_in, λ v. right.is v ∙ ap (λ c. meaning nodes f (with_bit v x c)) (mark_apart right.bit b (sym right.mark ∙ mark)))
  ]
]

-- one pair written over another
pub holds_set : (memo : List Pair) (slot : ℕ) (pair : Pair) (e : Entry) → slot < length memo → Holds (set memo slot pair) e → IsOf pair e ⊎ Holds memo e
holds_set memo slot pair e within there = elim (cases_eq there.at slot) [
  | inl same ↦ inl (subst (λ x. IsOf x e) (ap (λ k. pair_at (set memo slot pair) k) same ∙ get_or-set_same memo slot pair no_pair within) there.is)
  | inr other ↦ inr (record {
    at = there.at;
    within = omega (arith, there.within, length-set memo slot pair);
    is = subst (λ x. IsOf x e) (get_or-set_other memo slot there.at pair no_pair other) there.is;
  })
]

-- no entry stands in a pair of none
pub none_of : (e : Entry) → IsOf no_pair e → e.f ≡ 0
none_of e is = elim is [ inl newer ↦ ap (λ x. x.f) (sym newer) | inr older ↦ ap (λ x. x.f) (sym older) ]

-- no entry stands where each pair is empty
pub none_holds : (memo : List Pair) → ((k : ℕ) → k < length memo → pair_at memo k ≡ no_pair) → IsEmpty memo
none_holds memo none e there = none_of e (subst (λ x. IsOf x e) (none there.at there.within) there.is)

-- an emptied pair
pub emptied : (memo : List Pair) (at : ℕ) → at < length memo → HoldsOnly memo (set memo at no_pair)
emptied memo at within e there = elim (holds_set memo at no_pair e within there) [ inl none ↦ inl (none_of e none) | inr before ↦ inr before ]

-- pairs put one after another
pub only_then : (one two three : List Pair) → HoldsOnly one two → HoldsOnly two three → HoldsOnly one three
only_then one two three first second e there = elim (second e there) [ inl empty ↦ inl empty | inr before ↦ first e before ]

pub only_also : (one two three : List Pair) (entry : Entry) → Holds one entry → HoldsOnly one two → HoldsOnlyAlso entry two three → HoldsOnly one three
only_also one two three entry has first second e there = elim (second e there) [
  | inl this ↦ inr (subst (λ x. Holds one x) this has)
  | inr other ↦ elim other [ inl empty ↦ inl empty | inr before ↦ first e before ]
]

pub also_after : (one two three : List Pair) (entry : Entry) → HoldsOnly one two → HoldsOnlyAlso entry two three → HoldsOnlyAlso entry one three
also_after one two three entry first second e there = elim (second e there) [
  | inl this ↦ inl this
  | inr other ↦ elim other [ inl empty ↦ inr (inl empty) | inr before ↦ inr (first e before) ]
]

-- among empty pairs, and past them, a pair is empty
none_among : (n k : ℕ) → pair_at (replicate n no_pair) k ≡ no_pair
none_among n k = elim (cases_lt k n) [
  | inl low ↦ get_or-replicate n k no_pair no_pair low
  | inr high ↦ get_or-eq_default (replicate n no_pair) no_pair (omega (arith, high, length-replicate n no_pair))
]

pub none_replicate : (n : ℕ) (memo : List Pair) → memo ≡ replicate n no_pair → IsEmpty memo
none_replicate n memo is = none_holds memo (λ k within. ap (λ xs. pair_at xs k) is ∙ none_among n k)

-- empty pairs behind others
pub only_append : (memo : List Pair) (n : ℕ) → HoldsOnly memo (memo ++ replicate n no_pair)
only_append memo n e there = elim (cases_lt there.at (length memo)) [
  | inl low ↦ inr (record { at = there.at; within = low; is = subst (λ x. IsOf x e) (get_or_append_left memo (replicate n no_pair) no_pair there.at low) there.is })
  | inr high ↦ inl (none_of e (subst (λ x. IsOf x e) (get_or-append_right memo (replicate n no_pair) there.at no_pair high ∙ none_among n (there.at - length memo)) there.is))
]
