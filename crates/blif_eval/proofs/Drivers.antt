-- What one driver for each signal says of a model: what it is the output of.
use Rattle.std.proofs.Common.{◌≡◌, ℕ, zero, suc, ◌+◌, ◌<◌, ◌≤◌, ◌⊎◌, ◌++◌, ◌∷◌, [], List, Bool, cond, map, length, eqb, ap, arith, subst, sym, refl, ◌∙◌, inl, inr, Some}
use Rattle.std.specs.Prelude.{count_by, slice_get, ◌==◌}
use Rattle.std.proofs.lemmas.Bool.{cases_Bool, cases_lt, eq-eqb, eqb-true, ne_eqb}
use Rattle.std.proofs.lemmas.List.Sums.{sum_by-append, sum_by-cons}
use Rattle.std.proofs.lemmas.Option.{same_Some, none-some}
use Rattle.vrt_model.proofs.Lists.{map_at}
use Rattle.vrt_model.proofs.Members.{among_either, among_later, among_map, all_among}
use Rattle.vrt_model.specs.FlatModels.{IsCover, IsFlatModel, IsLatch, drivers_of}
use Rattle.vrt_model.specs.Lists.{At, Among}
use Rattle.vrt_model.specs.declared.flat_model.Cover.{Cover}
use Rattle.vrt_model.specs.declared.flat_model.FlatLatch.{FlatLatch}
use Rattle.vrt_model.specs.declared.flat_model.FlatModel.{FlatModel}

-- ---- how often a number stands in a list

abbrev pub times : ℕ → List ℕ → ℕ
times s xs = count_by (λ d. d == s) xs

-- how much an element counts
abbrev pub counts : ℕ → ℕ → ℕ
counts s x = cond (eqb x s) 1 0

pub times_more : (s x : ℕ) (xs : List ℕ) → times s (x ∷ xs) ≡ counts s x + times s xs
times_more s x xs = sum_by-cons (λ (d : ℕ). cond (d == s) 1 0) x xs

pub times_joined : (s : ℕ) (xs ys : List ℕ) → times s (xs ++ ys) ≡ times s xs + times s ys
times_joined s xs ys = sum_by-append (λ (d : ℕ). cond (d == s) 1 0) xs ys

pub test_one : (s x : ℕ) → x ≡ s → counts s x ≡ 1
test_one s x e = let amount : Bool → ℕ = λ b. cond b 1 0 in ap amount (eq-eqb x s e)

pub test_other : (s x : ℕ) → (x ≡ s → ⊥) → counts s x ≡ 0
test_other s x ne = let amount : Bool → ℕ = λ b. cond b 1 0 in ap amount (ne_eqb x s ne)

pub times_among : (s : ℕ) (xs : List ℕ) → Among xs s → 1 ≤ times s xs
times_among s [] m = absurd (none-some s m.1)
times_among s (x ∷ xs) (zero, e) =
    let here = test_one s x (same_Some x s e) in
    let more = times_more s x xs in
    omega (arith, here, more)
times_among s (x ∷ xs) (suc i, e) =
    let rest = times_among s xs (i, e) in
    let more = times_more s x xs in
    omega (arith, rest, more)

pub among_times : (s : ℕ) (xs : List ℕ) → 1 ≤ times s xs → Among xs s
among_times s [] le = absurd (omega (arith, le))
among_times s (x ∷ xs) le =
    elim (cases_Bool (eqb x s)) [
      | inl t ↦ (0, ap Some (eqb-true x s t))
      | inr f ↦
          let more = times_more s x xs in
          let amount : Bool → ℕ = λ b. cond b 1 0 in
          let none : counts s x ≡ 0 = ap amount f in
          among_later x xs s (among_times s xs (omega (arith, le, more, none)))
    ]

-- a number that stands at most once stands at one place
times_once : (s : ℕ) (xs : List ℕ) → times s xs ≤ 1 → (i j : ℕ) → At xs i s → At xs j s → i ≡ j
times_once s [] le i j e f = absurd (none-some s e)
times_once s (x ∷ xs) le zero zero e f = refl
times_once s (x ∷ xs) le zero (suc j) e f =
    let here = test_one s x (same_Some x s e) in
    let more = times_more s x xs in
    let rest = times_among s xs (j, f) in
    absurd (omega (arith, here, more, rest, le))
times_once s (x ∷ xs) le (suc i) zero e f =
    let here = test_one s x (same_Some x s f) in
    let more = times_more s x xs in
    let rest = times_among s xs (i, e) in
    absurd (omega (arith, here, more, rest, le))
times_once s (x ∷ xs) le (suc i) (suc j) e f =
    let more = times_more s x xs in
    ap suc (times_once s xs (omega (arith, more, le)) i j e f)

-- ---- the image of a list

pub same_at : {X : Type 0} (xs : List X) (i j : ℕ) (x y : X) → At xs i x → At xs j y → i ≡ j → x ≡ y
same_at xs i j x y e f same = same_Some x y (sym e ∙ ap (λ k. slice_get xs k) same ∙ f)

-- ---- drivers

abbrev pub outputs_of : List Cover → List ℕ
outputs_of covers = map (λ (c : Cover). c.output) covers

abbrev pub latch_outputs : List FlatLatch → List ℕ
latch_outputs latches = map (λ (l : FlatLatch). l.output) latches

module _ (flat : FlatModel) (model : IsFlatModel flat) where
  drivers_are : (s : ℕ) → times s (drivers_of flat) ≡ times s (flat.inputs ++ flat.clocks) + times s (outputs_of flat.covers) + times s (latch_outputs flat.latches)
  drivers_are s =
      let a = times_joined s (flat.inputs ++ flat.clocks ++ outputs_of flat.covers) (latch_outputs flat.latches) in
      let b = times_joined s (flat.inputs ++ flat.clocks) (outputs_of flat.covers) in
      omega (arith, a, b)

  pub interface_below : (s : ℕ) → Among (flat.inputs ++ flat.clocks) s → s < length flat.signals
  interface_below s m = elim (among_either flat.inputs flat.clocks s m) [
    | inl i ↦ all_among (λ (n : ℕ). n < length flat.signals) flat.inputs s model.inputs i
    | inr c ↦ all_among (λ (n : ℕ). n < length flat.signals) flat.clocks s model.clocks c
  ]

  pub cover_is : (c : Cover) → Among flat.covers c → IsCover (length flat.signals) c
  cover_is c m = all_among (λ (k : Cover). IsCover (length flat.signals) k) flat.covers c model.covers m

  pub covered_below : (c : Cover) → Among flat.covers c → c.output < length flat.signals
  covered_below c m = (cover_is c m).output

  -- what a cover reads is a signal
  pub input_below : (c : Cover) (i : ℕ) → Among flat.covers c → Among c.inputs i → i < length flat.signals
  input_below c i m n = all_among (λ (s : ℕ). s < length flat.signals) c.inputs i (cover_is c m).inputs n

  pub latch_is : (l : FlatLatch) → Among flat.latches l → IsLatch (length flat.signals) l
  latch_is l m = all_among (λ (k : FlatLatch). IsLatch (length flat.signals) k) flat.latches l model.latches m

  -- each signal is an input, a clock or the output of a cover or of a latch
  pub driven : (s : ℕ) → s < length flat.signals
      → Among (flat.inputs ++ flat.clocks) s ⊎ ((c : Cover) × Among flat.covers c × (c.output ≡ s)) ⊎ ((l : FlatLatch) × Among flat.latches l × (l.output ≡ s))
  driven s lt =
      let one = model.one_driver s lt in
      let sum = drivers_are s in
      elim (cases_lt 0 (times s (flat.inputs ++ flat.clocks))) [
        | inl some ↦ inl (among_times s (flat.inputs ++ flat.clocks) (omega (arith, some)))
        | inr none ↦ elim (cases_lt 0 (times s (outputs_of flat.covers))) [
          | inl some ↦ inr (inl (among_map (λ (c : Cover). c.output) flat.covers s (among_times s (outputs_of flat.covers) (omega (arith, some)))))
          | inr neither ↦
              inr (inr (among_map (λ (l : FlatLatch). l.output) flat.latches s (among_times s (latch_outputs flat.latches) (omega (arith, one, sum, none, neither)))))
        ]
      ]

  cover_counts : (c : Cover) → Among flat.covers c → 1 ≤ times c.output (outputs_of flat.covers)
  cover_counts c m = times_among c.output (outputs_of flat.covers) (m.0, map_at (λ (k : Cover). k.output) flat.covers m.0 c m.1)

  latch_counts : (l : FlatLatch) → Among flat.latches l → 1 ≤ times l.output (latch_outputs flat.latches)
  latch_counts l m = times_among l.output (latch_outputs flat.latches) (m.0, map_at (λ (k : FlatLatch). k.output) flat.latches m.0 l m.1)

  -- the output of a cover is no input and no clock
  pub apart : (c : Cover) → Among flat.covers c → ¬ Among (flat.inputs ++ flat.clocks) c.output
  apart c m i =
      let one = model.one_driver c.output (covered_below c m) in
      let sum = drivers_are c.output in
      let here = times_among c.output (flat.inputs ++ flat.clocks) i in
      let there = cover_counts c m in
      omega (arith, one, sum, here, there)

  -- nor is the output of a latch
  pub latch_apart : (l : FlatLatch) → Among flat.latches l → ¬ Among (flat.inputs ++ flat.clocks) l.output
  latch_apart l m i =
      let one = model.one_driver l.output (latch_is l m).output in
      let sum = drivers_are l.output in
      let here = times_among l.output (flat.inputs ++ flat.clocks) i in
      let there = latch_counts l m in
      omega (arith, one, sum, here, there)

  -- and not both
  pub cover_latch : (c : Cover) (l : FlatLatch) → Among flat.covers c → Among flat.latches l → ¬ (c.output ≡ l.output)
  cover_latch c l m n same =
      let one = model.one_driver c.output (covered_below c m) in
      let sum = drivers_are c.output in
      let here = cover_counts c m in
      let there = subst (λ (s : ℕ). 1 ≤ times s (latch_outputs flat.latches)) (sym same) (latch_counts l n) in
      omega (arith, one, sum, here, there)

  -- and of no other cover
  pub one_place : (i j : ℕ) (c d : Cover) → At flat.covers i c → At flat.covers j d → c.output ≡ d.output → i ≡ j
  one_place i j c d e f same =
      let one = model.one_driver c.output (covered_below c (i, e)) in
      let sum = drivers_are c.output in
      times_once c.output (outputs_of flat.covers) (omega (arith, one, sum)) i j
      (map_at (λ (k : Cover). k.output) flat.covers i c e)
      (subst (λ (n : ℕ). At (outputs_of flat.covers) j n) (sym same) (map_at (λ (k : Cover). k.output) flat.covers j d f))

  pub one_cover : (c d : Cover) → Among flat.covers c → Among flat.covers d → c.output ≡ d.output → c ≡ d
  one_cover c d m n same = same_at flat.covers m.0 n.0 c d m.1 n.1 (one_place m.0 n.0 c d m.1 n.1 same)

  -- and of no other latch
  pub one_latch : (i j : ℕ) (l k : FlatLatch) → At flat.latches i l → At flat.latches j k → l.output ≡ k.output → i ≡ j
  one_latch i j l k e f same =
      let one = model.one_driver l.output (latch_is l (i, e)).output in
      let sum = drivers_are l.output in
      times_once l.output (latch_outputs flat.latches) (omega (arith, one, sum)) i j
      (map_at (λ (x : FlatLatch). x.output) flat.latches i l e)
      (subst (λ (n : ℕ). At (latch_outputs flat.latches) j n) (sym same) (map_at (λ (x : FlatLatch). x.output) flat.latches j k f))
