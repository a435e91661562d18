-- Words and marks in other words, and the ends of stages.
use Rattle.std.proofs.Common.{◌≡◌, ℕ, ◌+◌, ◌*◌, ◌^◌, ◌≤◌, Bool, List, Option, Some, None, Result, Ok, Err, length, arith, ap, ap₂, refl, sym, subst, ◌∙◌}
use Rattle.std.specs.Prelude.{IfOk}
use Rattle.std.proofs.Math.Nat.{mul-le-mul_left}
use Rattle.std.proofs.Math.Path.{fun_ext}
use Rattle.bdd_core.proofs.Frames.{adds_words}
use Rattle.bdd_core.specs.Store.{Adds, AddsNodes, Diagrams}
use Rattle.bdd_core.specs.declared.handle.H.{H}
use Rattle.bdd_core.specs.declared.handle.Spent.{Spent}
use Rattle.circuit_faults.specs.Steps.{InPhase, in_comparison}
use Rattle.circuit_faults.specs.declared.steps.CircuitStep.{CircuitStep}
use Rattle.drive_levels.specs.PhaseLevels.{ArePhaseLevels}
use Rattle.drive_levels.specs.declared.table.NetLevels.{NetLevels}
use Rattle.phase_check.specs.Levels.{LevelsGive}
use Rattle.phase_check.specs.States.{IsEvaluated, StageGives, StepGives}
use Rattle.phase_terms.specs.declared.found.PhaseFault.{PhaseFault}
use Rattle.phase_terms.specs.Found.{IsPhaseFault, MaySpend}
use Rattle.phase_terms.specs.Plans.{IsPhasePlan}
use Rattle.phase_terms.specs.Ready.{IsReady}
use Rattle.phase_terms.specs.declared.plan.PhasePlan.{PhasePlan}
use Rattle.phase_terms.specs.declared.words.PhaseWords.{PhaseWords}
use Rattle.vrt_model.specs.Comparison.{Comparison, is_observed}
use Rattle.vrt_model.specs.Held.{sources_of}
use Rattle.vrt_model.specs.Lists.{mark_at}

module _ (k : Comparison) (phase : ℕ) (plan : PhasePlan) (ready : IsReady k) (is : IsPhasePlan k phase plan) where
  -- the marks of observed nets say which are observed
  pub seen_is : (marks : List Bool) → marks ≡ plan.observed.items → mark_at marks ≡ is_observed k phase
  seen_is marks same = fun_ext (λ n. ap (λ (xs : List Bool). mark_at xs n) same ∙ is.observed n)

  pub phased_is : (marks : List Bool) (list : List CircuitStep) → marks ≡ plan.observed.items → list ≡ plan.steps
      → in_comparison k phase plan.parts list (mark_at marks) ≡ in_comparison k phase plan.parts plan.steps (is_observed k phase)
  phased_is marks list same_marks same_list =
      ap₂ {C = InPhase} (λ (xs : List CircuitStep) (observed : ℕ → Bool). in_comparison k phase plan.parts xs observed) same_list (seen_is marks same_marks)

-- ---- nodes alone

-- where nodes alone were added, the words are those that stand now
pub adds_now : (old new : Diagrams) → AddsNodes old new → Adds old new new.words
adds_now old new adds = subst (λ (words : List ℕ). Adds old new words) (sym (adds_words old new old.words adds)) adds

pub words_now : (old new : Diagrams) → AddsNodes old new → length new.words ≡ length old.words
words_now old new adds = ap (λ (words : List ℕ). length words) (adds_words old new old.words adds)

-- ---- by the answer of a call

-- a stage without faults gives what its call does, or the budget is used up
pub evaluated_gives : (k : Comparison) (phase budget made more : ℕ) (plan : PhasePlan) (care : H) (w : PhaseWords) (old new : Diagrams) (result : Result Unit Spent) {P : Type 0}
    → ((spent : Spent) → result ≡ Err spent → MaySpend k budget phase (made + more) × (length new.nodes ≡ budget)) → (P → IsEvaluated k phase new.budget (made + more) plan care w new)
    → IfOk result (λ _. P) → StepGives k phase budget (made + more) (IsEvaluated k phase new.budget (made + more) plan care w new) new result
evaluated_gives k phase budget made more plan care w old new (Ok done) spends next is = next is
evaluated_gives k phase budget made more plan care w old new (Err spent) spends next is = spends spent refl

pub levels_give : (k : Comparison) (phase budget operations : ℕ) (levels : NetLevels) (d : Diagrams) (result : Result Unit Spent) {P : Type 0}
    → ((spent : Spent) → result ≡ Err spent → MaySpend k budget phase operations × (length d.nodes ≡ budget)) → (P → ArePhaseLevels k phase levels)
    → IfOk result (λ _. P) → LevelsGive k phase budget operations levels d result
levels_give k phase budget operations levels d (Ok done) spends next is = next is
levels_give k phase budget operations levels d (Err spent) spends next is = spends spent refl

-- more operations may spend as much, and a budget that is the same
pub spends_to : (k : Comparison) (phase budget other few many : ℕ) (d : Diagrams) → other ≡ budget → few ≤ many → MaySpend k other phase few × (length d.nodes ≡ other) → MaySpend k budget phase many × (length d.nodes ≡ budget)
spends_to k phase budget other few many d same le h =
    let v : ℕ = length (sources_of k phase) in
    let passed = h.0.passed in
    let product : 2 ^ v * few ≤ 2 ^ v * many = mul-le-mul_left {m = few} {n = many} (2 ^ v) le in
    (record { many = h.0.many; passed = omega (arith, passed, product, same) }, h.1 ∙ same)

-- so does what a stage gives
pub stage_gives_to : (k : Comparison) (phase budget other few many : ℕ) (Next : Type 0) (d : Diagrams) (result : Result (Option PhaseFault) Spent) → other ≡ budget → few ≤ many
    → StageGives k phase other few Next d result → StageGives k phase budget many Next d result
stage_gives_to k phase budget other few many Next d (Ok None) same le gives = gives
stage_gives_to k phase budget other few many Next d (Ok (Some fault)) same le gives = gives
stage_gives_to k phase budget other few many Next d (Err spent) same le gives = spends_to k phase budget other few many d same le gives

-- a stage that found nothing, or a fault
pub stage_none : (k : Comparison) (phase budget operations : ℕ) (Next : Type 0) (d : Diagrams) (found : Option PhaseFault) → found ≡ None → StageGives k phase budget operations Next d (Ok found) → Next
stage_none k phase budget operations Next d found same gives = subst (λ (f : Option PhaseFault). StageGives k phase budget operations Next d (Ok f)) same gives

pub stage_fault : (k : Comparison) (phase budget operations : ℕ) (Next : Type 0) (d : Diagrams) (found : Option PhaseFault) (fault : PhaseFault) → found ≡ Some fault
    → StageGives k phase budget operations Next d (Ok found) → IsPhaseFault k phase fault d
stage_fault k phase budget operations Next d found fault same gives = subst (λ (f : Option PhaseFault). StageGives k phase budget operations Next d (Ok f)) same gives
