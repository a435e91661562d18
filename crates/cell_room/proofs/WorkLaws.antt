-- The variables and the plans of the phases, one after the other.
use Rattle.std.proofs.Common.{◌≡◌, ◌⊎◌, ℕ, ◌+◌, ◌<◌, ◌≤◌, List, [], ◌∷◌, ◌++◌, length, map, Some, None, arith, ap, subst, sym, ◌∙◌, inl, inr}
use Rattle.std.proofs.lemmas.List.{length-append}
use Rattle.cell_room.proofs.Causes.{first_many, none_many}
use Rattle.cell_room.specs.Steps.{Stops}
use Rattle.cell_room.specs.Works.{ArePhaseVars, ArePlans, AreVars, IsAcyclicPlan, IsMany, IsManyWhy, IsPhaseCycle, IsPlanned, IsToldWhy}
use Rattle.cell_room.specs.declared.hindrance.Hindrance.{Hindrance}
use Rattle.cell_room.specs.declared.hindrance.Hindrance.TheVariants.{Because, NoMemory}
use Rattle.phase_terms.specs.declared.plan.PhasePlan.{PhasePlan}
use Rattle.vrt_model.proofs.Lists.{at_split, at_there}
use Rattle.vrt_model.specs.Comparison.{Comparison}
use Rattle.vrt_model.specs.Held.{sources_of}
use Rattle.vrt_model.specs.Lists.{At}
use Rattle.vrt_model.specs.Unsupported.{AcyclicBefore, IsCycleWhy, too_many_variables}
use Rattle.vrt_model.specs.declared.groups.Vars.{Vars}
use Rattle.vrt_model.specs.declared.ids.Net.{Net}
use Rattle.vrt_model.specs.declared.verdict.Why.{Why}
use Rattle.vrt_model.specs.declared.verdict.Why.TheVariants.{Ports, Cycle, ModelCycle, Unmatched, DeviceModel, SupplyTie, OutputIsInput, TooManyVars, TooLarge, NoModel, NoClock}

module _ (k : Comparison) where
  -- ---- variables

  -- those of one phase more
  pub vars_more : (upto : ℕ) (vars : List Vars) (one : Vars) → AreVars k upto vars → ArePhaseVars k upto one → AreVars k (upto + 1) (vars ++ one ∷ [])
  vars_more upto vars one are here = record {
    count = length-append vars (one ∷ []) ∙ ap (λ n. n + 1) are.count;
    each = λ p v at. by_place p v (at_split vars one p v at);
  }
    where
      by_place : (p : ℕ) (v : Vars) → At vars p v ⊎ ((p ≡ length vars) × (v ≡ one)) → ArePhaseVars k p v
      by_place p v (inl old) = are.each p v old
      by_place p v (inr new) =
          subst (λ (x : Vars). ArePhaseVars k p x) (sym new.1) (subst (λ (n : ℕ). ArePhaseVars k n one) (sym (new.0 ∙ are.count)) here)

  -- each phase before has few
  few_before : (upto : ℕ) (vars : List Vars) → AreVars k upto vars → (q : ℕ) → q < upto → length (sources_of k q) ≤ 1000
  few_before upto vars are q lt =
      let there = at_there vars q (subst (λ (n : ℕ). q < n) (sym are.count) lt) in
      let of = are.each q there.0 there.1 in
      subst (λ xs. length xs ≤ 1000) of.sources of.few

  -- the first phase that has too many
  pub many_there : (upto : ℕ) (vars : List Vars) (stop : Hindrance) → upto < length k.rules.phases → AreVars k upto vars → Stops (IsMany k upto) stop → Stops (IsManyWhy k) stop
  many_there upto vars NoMemory lt are many = tt
  many_there upto vars (Because why) lt are many = (
    length (sources_of k upto),
    subst (λ (n : ℕ). too_many_variables k ≡ Some (length (sources_of k n))) (omega arith)
        (first_many (λ phase. length (sources_of k phase)) 0 k.rules.phases upto lt (λ q less. subst (λ (n : ℕ). length (sources_of k n) ≤ 1000) (omega arith) (few_before upto vars are q less))
        (subst (λ (n : ℕ). 1000 < length (sources_of k n)) (omega arith) many.0)),
    many.1,
  )

  -- no phase has too many
  pub few_all : (vars : List Vars) → AreVars k (length k.rules.phases) vars → too_many_variables k ≡ None
  few_all vars are =
      none_many (λ phase. length (sources_of k phase)) 0 k.rules.phases
      (λ p lt. subst (λ (n : ℕ). length (sources_of k n) ≤ 1000) (omega arith) (few_before (length k.rules.phases) vars are p lt))

  -- ---- plans

  -- that of one phase more
  pub plans_more : (upto : ℕ) (plans : List PhasePlan) (one : PhasePlan) → ArePlans k upto plans → IsAcyclicPlan k upto one → ArePlans k (upto + 1) (plans ++ one ∷ [])
  plans_more upto plans one are here = record {
    count = length-append plans (one ∷ []) ∙ ap (λ n. n + 1) are.count;
    each = λ p plan at. by_place p plan (at_split plans one p plan at);
  }
    where
      by_place : (p : ℕ) (plan : PhasePlan) → At plans p plan ⊎ ((p ≡ length plans) × (plan ≡ one)) → IsAcyclicPlan k p plan
      by_place p plan (inl old) = are.each p plan old
      by_place p plan (inr new) =
          subst (λ (x : PhasePlan). IsAcyclicPlan k p x) (sym new.1) (subst (λ (n : ℕ). IsAcyclicPlan k n one) (sym (new.0 ∙ are.count)) here)

  -- there is no cycle before
  pub acyclic_before : (upto : ℕ) (plans : List PhasePlan) → ArePlans k upto plans → AcyclicBefore k upto
  acyclic_before upto plans are p lt =
      let there = at_there plans p (subst (λ (n : ℕ). p < n) (sym are.count) lt) in
      let of = are.each p there.0 there.1 in
      (of.circuit, of.model)

  -- the first phase that has one
  pub cycle_there : (upto : ℕ) (plans : List PhasePlan) (stop : Hindrance) → upto < length k.rules.phases → ArePlans k upto plans → Stops (IsPhaseCycle k upto) stop → Stops (IsCycleWhy k) stop
  cycle_there upto plans NoMemory lt are cycle = tt
  cycle_there upto plans (Because why) lt are cycle = by_kind cycle
    where
      by_kind : IsPhaseCycle k upto why → IsCycleWhy k why
      by_kind (inl c) = subst (IsCycleWhy k) (sym c.1) (lt, acyclic_before upto plans are, c.2)
      by_kind (inr c) = subst (IsCycleWhy k) (sym c.1) (lt, acyclic_before upto plans are, c.2, c.3)

  -- ---- both

  pub planned : (vars : List Vars) (plans : List PhasePlan) → AreVars k (length k.rules.phases) vars → ArePlans k (length k.rules.phases) plans → IsPlanned k
  planned vars plans are made = record { few = few_all vars are; acyclic = acyclic_before (length k.rules.phases) plans made }

  -- too many variables stop first
  pub vars_stop : (stop : Hindrance) → Stops (IsManyWhy k) stop → Stops (IsToldWhy k) stop
  vars_stop NoMemory many = tt
  vars_stop (Because why) many = inl many

  pub plans_stop : (vars : List Vars) (stop : Hindrance) → AreVars k (length k.rules.phases) vars → Stops (IsCycleWhy k) stop → Stops (IsToldWhy k) stop
  plans_stop vars NoMemory are cycle = tt
  plans_stop vars (Because why) are cycle = inr (few_all vars are, cycle)

  -- where there is no cycle, none is told
  pub no_cycle_told : (why : Why) → AcyclicBefore k (length k.rules.phases) → IsCycleWhy k why → ⊥
  no_cycle_told (Cycle phase nets) none is = (none phase is.0).0 (map (λ (n : Net). n.0) nets) is.2.0
  no_cycle_told (ModelCycle phase signals) none is = (none phase is.0).1 signals is.3.0
  no_cycle_told (Ports name) none is = is
  no_cycle_told (Unmatched name) none is = is
  no_cycle_told (DeviceModel model) none is = is
  no_cycle_told (SupplyTie path) none is = is
  no_cycle_told (OutputIsInput signal) none is = is
  no_cycle_told (TooManyVars count) none is = is
  no_cycle_told (TooLarge count) none is = is
  no_cycle_told NoModel none is = is
  no_cycle_told (NoClock latch) none is = is
