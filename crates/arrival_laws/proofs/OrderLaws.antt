-- From single steps to every order, by induction on the order.
use Rattle.std.proofs.Common.{◌≡◌, ℕ, ◌⊎◌, Bool, true, false, List, [], ◌∷◌, eqb, refl, sym, subst, ◌∙◌, inl, inr}
use Rattle.std.proofs.lemmas.Bool.{eq-eqb, eqb-true, false≢true, or_cases, or_left, or_right}
use Rattle.vrt_model.specs.Lists.{has_number}
use Rattle.arrival_laws.proofs.SettlingLaws.{all_risen, same_taken}
use Rattle.arrival_laws.specs.Orders.{GoesWell, IsOrder, Nets, OrdersGoWell, Rise, Rises, Settles, SettlesAlike, and_now, at_once, none_yet, on_the_way, taken_bits}
use Rattle.arrival_laws.specs.Steps.{StepsHold}

-- ---- whether all have risen

module _ (r : Rise) (risen : Nets) where
  -- a net of the list that rises and has not risen
  abbrev IsLeft : List ℕ → ℕ → Type 0
  IsLeft xs n = (has_number xs n ≡ true) × (r.end.inputs n ≡ true) × (risen n ≡ false)

  -- each net of the list that rises has risen
  abbrev AreRisen : List ℕ → Type 0
  AreRisen xs = (m : ℕ) → has_number xs m ≡ true → r.end.inputs m ≡ true → risen m ≡ true

  first_risen : (x m : ℕ) (up there : Bool) → r.end.inputs x ≡ up → risen x ≡ there → (up ≡ true → there ≡ true) → eqb x m ≡ true → r.end.inputs m ≡ true → risen m ≡ true
  first_risen x m up there e f imp is high =
      let same : x ≡ m = eqb-true x m is in
      subst (λ (n : ℕ). risen n ≡ true) same (f ∙ imp (sym e ∙ subst (λ (n : ℕ). r.end.inputs n ≡ true) (sym same) high))

  by_first : (x : ℕ) (xs : List ℕ) (up there : Bool) → r.end.inputs x ≡ up → risen x ≡ there → AreRisen xs → ((n : ℕ) × IsLeft (x ∷ xs) n) ⊎ AreRisen (x ∷ xs)
  by_first x xs true false e f all = inl (x, (or_left (eqb x x) (has_number xs x) (eq-eqb x x refl), e, f))
  by_first x xs true true e f all =
      inr (λ m is high. elim (or_cases (eqb x m) (has_number xs m) is) [ inl first ↦ first_risen x m true true e f (λ t. refl) first high | inr later ↦ all m later high ])
  by_first x xs false there e f all =
      inr (λ m is high. elim (or_cases (eqb x m) (has_number xs m) is) [ inl first ↦ first_risen x m false there e f (λ t. absurd (false≢true t)) first high | inr later ↦ all m later high ])

  left_or_risen : (xs : List ℕ) → ((n : ℕ) × IsLeft xs n) ⊎ AreRisen xs
  left_or_risen [] = inr (λ m is high. absurd (false≢true is))
  left_or_risen (x ∷ xs) =
      elim (left_or_risen xs) [
        | inl found ↦ inl (found.0, (or_right (eqb x found.0) (has_number xs found.0) found.1.0, found.1.1, found.1.2))
        | inr all ↦ by_first x xs (r.end.inputs x) (risen x) refl refl all
      ]

-- ---- the induction

module _ (r : Rise) (settles : Settles r.k r.phase r.end) (holds : StepsHold r) where
  -- only nets that rise have risen
  abbrev OnlyRising : Nets → Type 0
  OnlyRising risen = (m : ℕ) → risen m ≡ true → Rises r m

  as_at_end : (risen : Nets) → OnlyRising risen → AreRisen r risen r.nets → (n : ℕ) (x y : Bool) → risen n ≡ x → r.end.inputs n ≡ y → has_number r.nets n ≡ true → risen n ≡ r.end.inputs n
  as_at_end risen only all n true y e f is = e ∙ sym (only n e).1
  as_at_end risen only all n false false e f is = e ∙ sym f
  as_at_end risen only all n false true e f is = all n is f ∙ sym f

  -- the circuit settles at each setting at once: it is where a step begins, or that of the valuation
  once_settles : (risen : Nets) → OnlyRising risen → Settles r.k r.phase (at_once r risen)
  once_settles risen only =
      elim (left_or_risen r risen r.nets) [
        | inl found ↦ (holds risen found.0 (record { before = only; rises = (found.1.0, found.1.1); next = found.1.2 })).before
        | inr all ↦ subst (Settles r.k r.phase) (sym (all_risen r risen (λ n is. as_at_end risen only all n (risen n) (r.end.inputs n) refl refl is))) settles
      ]

  one_more : (risen : Nets) (n : ℕ) → OnlyRising risen → Rises r n → OnlyRising (and_now risen n)
  one_more risen n only rises m e = elim (or_cases (risen m) (eqb n m) e) [ inl before ↦ only m before | inr is ↦ subst (Rises r) (eqb-true n m is) rises ]

  -- On the way the circuit settles as it does at once with what has risen, so the holds take the same bits from both. So what is next on
  -- the way is what a step leads to.
  go : (ns : List ℕ) (risen : Nets) (held : ℕ → Bool) → OnlyRising risen → IsOrder r risen ns → Settles r.k r.phase (on_the_way r risen held)
      → SettlesAlike r.k r.phase (on_the_way r risen held) (at_once r risen) → GoesWell r risen held ns
  go [] risen held only order now alike = (now, once_settles risen only, alike)
  go (n ∷ ns) risen held only order now alike = (
    now,
    λ a solves.
        let o = (once_settles risen only).solution in
        let taken : taken_bits r.k.circuit a ≡ taken_bits r.k.circuit o.0 = same_taken r.k r.phase a o.0 (alike a o.0 solves o.1) in
        let step = holds risen n (record { before = only; rises = order.0; next = order.1 }) in
        go ns (and_now risen n) (taken_bits r.k.circuit a) (one_more risen n only order.0) order.2
        (subst (λ (f : ℕ → Bool). Settles r.k r.phase (on_the_way r (and_now risen n) f)) (sym taken) (step.after o.0 o.1))
        (subst (λ (f : ℕ → Bool). SettlesAlike r.k r.phase (on_the_way r (and_now risen n) f) (at_once r (and_now risen n))) (sym taken) (step.alike o.0 o.1)),
  )

  each_order : OrdersGoWell r
  each_order ns order =
      let none : OnlyRising none_yet = λ m e. absurd (false≢true e) in
      let once = once_settles none_yet none in
      go ns none_yet r.end.held none order once once.one_solution

pub steps_give_orders : (r : Rise) → Settles r.k r.phase r.end → StepsHold r → OrdersGoWell r
steps_give_orders r settles holds = each_order r settles holds
