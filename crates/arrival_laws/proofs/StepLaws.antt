-- From every order to single steps: what has risen, in some order, and then the next.
use Rattle.std.proofs.Common.{◌≡◌, ℕ, ◌&&◌, Bool, true, false, not, cond, List, [], ◌∷◌, ◌++◌, eqb, refl, sym, subst, inl, inr}
use Rattle.std.specs.Prelude.{◌↔◌}
use Rattle.std.proofs.Math.Path.{fun_ext}
use Rattle.std.proofs.lemmas.Bool.{eqb-true, false≢true, or_cases, or_left, or_right}
use Rattle.vrt_model.proofs.Tests.{same_tests}
use Rattle.vrt_model.specs.Comparison.{Comparison}
use Rattle.vrt_model.specs.Equal.{IsPhaseEqual}
use Rattle.vrt_model.specs.Faults.{Solves}
use Rattle.vrt_model.specs.Held.{setting_of}
use Rattle.vrt_model.specs.Lists.{has_number}
use Rattle.vrt_model.specs.Reading.{Partial}
use Rattle.arrival_laws.proofs.OrderLaws.{steps_give_orders}
use Rattle.arrival_laws.proofs.SettlingLaws.{equal_phases_settle, same_taken}
use Rattle.arrival_laws.specs.Orders.{AllOrdersGoWell, GoesWell, IsOrder, Nets, OrdersGoWell, Rise, Rises, Settles, SettlesAlike, and_now, at_once, none_yet, on_the_way, risen_by, taken_bits}
use Rattle.arrival_laws.specs.Steps.{AllStepsHold, StepHolds, StepsHold}

-- ---- an order of some nets

-- those of a list that are wanted and have not risen, each once
abbrev missing : Nets → List ℕ → Nets → List ℕ
missing wanted [] risen = []
missing wanted (x ∷ xs) risen = cond (wanted x && not (risen x)) (x ∷ missing wanted xs (and_now risen x)) (missing wanted xs risen)

by_tests : (P : List ℕ → Type 0) (p q : Bool) (more rest : List ℕ) → (p ≡ true → q ≡ false → P more) → ((p ≡ true → q ≡ true) → P rest) → P (cond (p && not q) more rest)
by_tests P true false more rest f g = f refl refl
by_tests P true true more rest f g = g (λ e. refl)
by_tests P false q more rest f g = g (λ e. absurd (false≢true e))

more_wanted : (wanted risen : Nets) (x : ℕ) → wanted x ≡ true → ((n : ℕ) → risen n ≡ true → wanted n ≡ true) → (n : ℕ) → and_now risen x n ≡ true → wanted n ≡ true
more_wanted wanted risen x is low n t = elim (or_cases (risen n) (eqb x n) t) [ inl old ↦ low n old | inr new ↦ subst (λ (i : ℕ). wanted i ≡ true) (eqb-true x n new) is ]

module _ (r : Rise) (wanted : Nets) (up : (m : ℕ) → wanted m ≡ true → Rises r m) where
  missing_order : (xs : List ℕ) (risen : Nets) → IsOrder r risen (missing wanted xs risen)
  missing_order [] risen = tt
  missing_order (x ∷ xs) risen =
      by_tests (IsOrder r risen) (wanted x) (risen x) (x ∷ missing wanted xs (and_now risen x)) (missing wanted xs risen)
      (λ e f. (up x e, f, missing_order xs (and_now risen x))) (λ imp. missing_order xs risen)

  -- none goes, and none comes that is not wanted
  stays : (xs : List ℕ) (risen : Nets) (m : ℕ) → risen m ≡ true → risen_by risen (missing wanted xs risen) m ≡ true
  stays [] risen m e = e
  stays (x ∷ xs) risen m e =
      by_tests (λ (l : List ℕ). risen_by risen l m ≡ true) (wanted x) (risen x) (x ∷ missing wanted xs (and_now risen x)) (missing wanted xs risen)
      (λ is f. stays xs (and_now risen x) m (or_left (risen m) (eqb x m) e)) (λ imp. stays xs risen m e)

  all_come : (xs : List ℕ) (risen : Nets) (m : ℕ) → has_number xs m ≡ true → wanted m ≡ true → risen_by risen (missing wanted xs risen) m ≡ true
  all_come [] risen m is want = absurd (false≢true is)
  all_come (x ∷ xs) risen m is want =
      elim (or_cases (eqb x m) (has_number xs m) is) [
        | inl first ↦ by_tests (λ (l : List ℕ). risen_by risen l m ≡ true) (wanted x) (risen x) (x ∷ missing wanted xs (and_now risen x)) (missing wanted xs risen)
            (λ e f. stays xs (and_now risen x) m (or_right (risen m) (eqb x m) first))
            (λ imp. stays xs risen m (subst (λ (n : ℕ). risen n ≡ true) (eqb-true x m first) (imp (subst (λ (n : ℕ). wanted n ≡ true) (sym (eqb-true x m first)) want))))
        | inr later ↦ by_tests (λ (l : List ℕ). risen_by risen l m ≡ true) (wanted x) (risen x) (x ∷ missing wanted xs (and_now risen x)) (missing wanted xs risen)
            (λ e f. all_come xs (and_now risen x) m later want) (λ imp. all_come xs risen m later want)
      ]

  only_wanted : (xs : List ℕ) (risen : Nets) (m : ℕ) → ((n : ℕ) → risen n ≡ true → wanted n ≡ true) → risen_by risen (missing wanted xs risen) m ≡ true → wanted m ≡ true
  only_wanted [] risen m low = low m
  only_wanted (x ∷ xs) risen m low =
      by_tests (λ (l : List ℕ). risen_by risen l m ≡ true → wanted m ≡ true) (wanted x) (risen x) (x ∷ missing wanted xs (and_now risen x)) (missing wanted xs risen)
      (λ is f. only_wanted xs (and_now risen x) m (more_wanted wanted risen x is low)) (λ imp. only_wanted xs risen m low)

  -- some order leads to exactly the wanted nets
  missing_rise : risen_by none_yet (missing wanted r.nets none_yet) ≡ wanted
  missing_rise = fun_ext (λ m. same_tests (risen_by none_yet (missing wanted r.nets none_yet) m) (wanted m)
      (only_wanted r.nets none_yet m (λ n t. absurd (false≢true t))) (λ want. all_come r.nets none_yet m (up m want).0 want))

-- ---- one more net behind an order

order_more : (r : Rise) (ns : List ℕ) (risen : Nets) (n : ℕ) → IsOrder r risen ns → Rises r n → risen_by risen ns n ≡ false → IsOrder r risen (ns ++ n ∷ [])
order_more r [] risen n order rises next = (rises, next, tt)
order_more r (m ∷ ns) risen n order rises next = (order.0, order.1, order_more r ns (and_now risen m) n order.2 rises next)

-- an order goes well, and so it does with one more net behind it: so the step from what has risen by it does not fail
module _ (r : Rise) (n : ℕ) where
  follow : (ns : List ℕ) (risen : Nets) (held : ℕ → Bool) → GoesWell r risen held (ns ++ n ∷ []) → GoesWell r risen held ns → StepHolds r (risen_by risen ns) n
  follow [] risen held longer order =
      let now = order.0.solution in
      let last = longer.1 now.0 now.1 in
      let taken : (a : Partial) → Solves r.k r.phase (at_once r risen) a → taken_bits r.k.circuit now.0 ≡ taken_bits r.k.circuit a = λ a s. same_taken r.k r.phase now.0 a (order.2 now.0 a now.1 s) in
      record {
        before = order.1;
        after = λ a s. subst (λ (f : ℕ → Bool). Settles r.k r.phase (on_the_way r (and_now risen n) f)) (taken a s) last.0;
        once = last.1;
        alike = λ a s. subst (λ (f : ℕ → Bool). SettlesAlike r.k r.phase (on_the_way r (and_now risen n) f) (at_once r (and_now risen n))) (taken a s) last.2;
      }
  follow (m ∷ ns) risen held longer order =
      let now = order.0.solution in follow ns (and_now risen m) (taken_bits r.k.circuit now.0) (longer.1 now.0 now.1) (order.1 now.0 now.1)

pub orders_give_steps : (r : Rise) → OrdersGoWell r → StepsHold r
orders_give_steps r good risen n step =
    let ns = missing risen r.nets none_yet in
    let order = missing_order r risen step.before r.nets none_yet in
    let is = missing_rise r risen step.before in
    let next : risen_by none_yet ns n ≡ false = subst (λ (f : Nets). f n ≡ false) (sym is) step.next in
    subst (λ (f : Nets). StepHolds r f n) is (follow r n ns none_yet r.end.held (good (ns ++ n ∷ []) (order_more r ns none_yet n order step.rises next)) (good ns order))

-- ---- in an equal phase

abbrev rise : Comparison → ℕ → List ℕ → List Bool → Rise
rise k phase nets bits = record { k = k; phase = phase; nets = nets; end = setting_of k phase bits }

pub steps_tell_orders : (k : Comparison) (phase : ℕ) (nets : List ℕ) → IsPhaseEqual k phase → AllStepsHold k phase nets ↔ AllOrdersGoWell k phase nets
steps_tell_orders k phase nets equal = (
  λ holds bits meets. steps_give_orders (rise k phase nets bits) (equal_phases_settle k phase bits equal meets) (holds bits meets),
  λ good bits meets. orders_give_steps (rise k phase nets bits) (good bits meets),
)
