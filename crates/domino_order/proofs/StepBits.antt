-- Every set of rising nets that have risen is told by a bit for each.
use Rattle.std.proofs.Common.{◌≡◌, ℕ, Bool, true, false, cond, List, [], ◌∷◌, ◌++◌, ap, eqb, length, refl, subst, sym, ◌∙◌, inl, inr}
use Rattle.std.specs.Prelude.{drop, map, take}
use Rattle.std.proofs.Math.Path.{fun_ext}
use Rattle.std.proofs.Math.Seq.{drop-append_seam, take-append_seam}
use Rattle.std.proofs.lemmas.Bool.{eqb-true, false≢true, or_cases}
use Rattle.std.proofs.lemmas.List.{length-map}
use Rattle.arrival_laws.proofs.OrderLaws.{steps_give_orders}
use Rattle.arrival_laws.proofs.SettlingLaws.{equal_phases_settle}
use Rattle.arrival_laws.proofs.StepLaws.{orders_give_steps}
use Rattle.arrival_laws.specs.Orders.{AllOrdersGoWell, Nets}
use Rattle.arrival_laws.specs.Steps.{AllStepsHold, IsStep, StepHolds}
use Rattle.domino_order.specs.StepBits.{AllHoldAt, FailsAt, IsStepAt, arrived, rise_to}
use Rattle.vrt_model.specs.Comparison.{Comparison}
use Rattle.vrt_model.specs.Constraints.{Meets}
use Rattle.vrt_model.specs.Equal.{IsPhaseEqual}
use Rattle.vrt_model.specs.Lists.{has_number}

-- ---- the bits of a set

no_more : (b : Bool) → (b ≡ true → false ≡ true) → false ≡ b
no_more true f = f refl
no_more false f = refl

by_test : (test : Bool) (here rest wanted : Bool) → (test ≡ true → here ≡ wanted) → (test ≡ false → rest ≡ wanted) → cond test here rest ≡ wanted
by_test true here rest wanted f g = f refl
by_test false here rest wanted f g = g refl

-- a set of some nets is what has arrived by its own bits
arrived_at : (nets : List ℕ) (risen : Nets) (m : ℕ) → (risen m ≡ true → has_number nets m ≡ true) → arrived nets (map risen nets) m ≡ risen m
arrived_at [] risen m listed = no_more (risen m) listed
arrived_at (net ∷ nets) risen m listed =
    by_test (eqb net m) (risen net) (arrived nets (map risen nets) m) (risen m) (λ e. ap risen (eqb-true net m e))
    (λ other. arrived_at nets risen m (λ up. elim (or_cases (eqb net m) (has_number nets m) (listed up)) [ inl e ↦ absurd (false≢true (sym other ∙ e)) | inr rest ↦ rest ]))

arrived_is : (nets : List ℕ) (risen : Nets) → ((m : ℕ) → risen m ≡ true → has_number nets m ≡ true) → arrived nets (map risen nets) ≡ risen
arrived_is nets risen listed = fun_ext (λ m. arrived_at nets risen m (listed m))

-- ---- from bits to steps

module _ (k : Comparison) (phase : ℕ) (nets : List ℕ) where
  -- a list is cut in one way where the length of its first part is known
  same_cut : (a b c d : List Bool) → length a ≡ length c → a ++ b ≡ c ++ d → (a ≡ c) × (b ≡ d)
  same_cut a b c d len e = (
    sym (take-append_seam a b) ∙ ap (take (length a)) e ∙ ap (λ (n : ℕ). take n (c ++ d)) len ∙ take-append_seam c d,
    sym (drop-append_seam a b) ∙ ap (drop (length a)) e ∙ ap (λ (n : ℕ). drop n (c ++ d)) len ∙ drop-append_seam c d,
  )

  -- the two parts of the bits of a step
  pub one_cut : (n : ℕ) (bits end arrivals : List Bool) (at : IsStepAt k phase nets n bits) → Meets k phase end → bits ≡ end ++ arrivals → (at.end ≡ end) × (at.arrivals ≡ arrivals)
  one_cut n bits end arrivals at meets is = same_cut at.end at.arrivals end arrivals (at.meets.valuation ∙ sym meets.valuation) (sym at.is ∙ is)

  module _ (all : (n : ℕ) → AllHoldAt k phase nets n) where
    step_holds : (end : List Bool) (risen : Nets) (n : ℕ) → Meets k phase end → IsStep (rise_to k phase nets end) risen n → StepHolds (rise_to k phase nets end) risen n
    step_holds end risen n meets step =
        let arrivals = map risen nets in
        let same = arrived_is nets risen (λ m up. (step.before m up).0) in
        let at : IsStepAt k phase nets n (end ++ arrivals) = record {
          end = end;
          arrivals = arrivals;
          is = refl;
          meets = meets;
          all = length-map nets risen;
          step = subst (λ (x : Nets). IsStep (rise_to k phase nets end) x n) (sym same) step;
        } in
        let holds = all n (end ++ arrivals) at in
        let cut = one_cut n (end ++ arrivals) end arrivals holds.at meets refl in
        subst (λ (x : Nets). StepHolds (rise_to k phase nets end) x n) same
        (subst (λ (bits : List Bool). StepHolds (rise_to k phase nets end) (arrived nets bits) n) cut.1
        (subst (λ (bits : List Bool). StepHolds (rise_to k phase nets bits) (arrived nets holds.at.arrivals) n) cut.0 holds.holds))

    pub all_steps : AllStepsHold k phase nets
    all_steps bits meets risen n step = step_holds bits risen n meets step

pub steps_by_bits : (k : Comparison) (phase : ℕ) (nets : List ℕ) → IsPhaseEqual k phase → ((n : ℕ) → AllHoldAt k phase nets n) → AllStepsHold k phase nets × AllOrdersGoWell k phase nets
steps_by_bits k phase nets equal all =
    let steps = all_steps k phase nets all in (
      steps,
      λ bits meets. steps_give_orders (rise_to k phase nets bits) (equal_phases_settle k phase bits equal meets) (steps bits meets),
    )

-- a step that fails by its bits is one of an order that does not go well
pub failing_steps : (k : Comparison) (phase : ℕ) (nets : List ℕ) (n : ℕ) (bits : List Bool) → IsPhaseEqual k phase → FailsAt k phase nets n bits → ¬ AllOrdersGoWell k phase nets
failing_steps k phase nets n bits equal fails orders =
    let at = fails.at in
    fails.fails (orders_give_steps (rise_to k phase nets at.end) (orders at.end at.meets) (arrived nets at.arrivals) n at.step)
