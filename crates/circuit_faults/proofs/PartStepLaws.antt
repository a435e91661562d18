-- The steps of the parts alone are those of the parts as they are listed.
use Rattle.std.proofs.Common.{◌≡◌, ℕ, zero, suc, ◌+◌, ◌≤◌, List, [], ◌∷◌, ◌++◌, length, take, ap, ap₂, arith, refl, subst, sym, ◌∙◌, inl, inr}
use Rattle.std.specs.Prelude.{map, sum_by}
use Rattle.std.proofs.lemmas.List.{map-append}
use Rattle.std.proofs.lemmas.List.Sums.{sum_by_push}
use Rattle.channel_parts.specs.declared.part.Part.{Part}
use Rattle.circuit_faults.proofs.CircuitLaws.{step_is}
use Rattle.circuit_faults.proofs.StepLaws.{part_step_operations}
use Rattle.circuit_faults.specs.Operations.{circuit_operations, part_operations, step_operations, steps_operations}
use Rattle.circuit_faults.specs.Steps.{InPhase, IsThere, part_list, part_step, step_of, steps_of}
use Rattle.circuit_faults.specs.declared.steps.CircuitStep.{CircuitStep}
use Rattle.circuit_faults.specs.declared.steps.CircuitStep.TheVariants.{Part as PartStep}
use Rattle.vrt_model.proofs.Lists.{at_split, at_there, take_one}
use Rattle.vrt_model.proofs.Members.{at_none}
use Rattle.vrt_model.specs.Lists.{At}

take_whole : (parts : List Part) → take (length parts) parts ≡ parts
take_whole [] = refl
take_whole (p ∷ parts) = ap (λ (ps : List Part). p ∷ ps) (take_whole parts)

module _ (w : InPhase) where
  -- the parts before one, and it
  one_more : (n : ℕ) (part : Part) → At w.parts n part → take (suc n) w.parts ≡ take n w.parts ++ part ∷ []
  one_more n part there = (let same : suc n ≡ n + 1 = omega arith in ap (λ (k : ℕ). take k w.parts) same ∙ take_one w.parts n part there)

  steps_so_far : (n : ℕ) → n ≤ length w.parts → map (step_of w.parts) (part_list n) ≡ map part_step (take n w.parts)
  steps_so_far zero le = refl
  steps_so_far (suc n) le =
      let p = at_there w.parts n (omega (arith, le)) in
      map-append (step_of w.parts) (part_list n) (PartStep n ∷ [])
      ∙ ap₂ (λ xs ys. xs ++ ys ∷ []) (steps_so_far n (omega (arith, le))) (step_is w n p.0 p.1)
      ∙ sym (map-append part_step (take n w.parts) (p.0 ∷ []))
      ∙ ap (map part_step) (sym (one_more n p.0 p.1))

  operations_so_far : (n : ℕ) → n ≤ length w.parts → sum_by (step_operations w) (part_list n) ≡ sum_by (part_operations w.circuit) (take n w.parts)
  operations_so_far zero le = refl
  operations_so_far (suc n) le =
      let p = at_there w.parts n (omega (arith, le)) in
      let before = operations_so_far n (omega (arith, le)) in
      let own = part_step_operations w n p.0 p.1 in
      sum_by_push (step_operations w) (part_list n) (PartStep n)
      ∙ ap₂ (λ (x y : ℕ). x + y) before own
      ∙ sym (sum_by_push (part_operations w.circuit) (take n w.parts) p.0)
      ∙ ap (sum_by (part_operations w.circuit)) (sym (one_more n p.0 p.1))

  there_so_far : (n : ℕ) → n ≤ length w.parts → (j : ℕ) (step : CircuitStep) → At (part_list n) j step → IsThere w step
  there_so_far zero le j step e = absurd (at_none j step e)
  there_so_far (suc n) le j step e =
      elim (at_split (part_list n) (PartStep n) j step e) [
        | inl low ↦ there_so_far n (omega (arith, le)) j step low
        | inr last ↦ subst (IsThere w) (sym last.1) (omega (arith, le))
      ]

  module _ (all : w.steps ≡ part_list (length w.parts)) where
    pub listed_steps : steps_of w ≡ map part_step w.parts
    listed_steps = ap (map (step_of w.parts)) all ∙ steps_so_far (length w.parts) (omega arith) ∙ ap (map part_step) (take_whole w.parts)

    pub listed_operations : steps_operations w ≡ circuit_operations w.circuit w.parts
    listed_operations = ap (sum_by (step_operations w)) all ∙ operations_so_far (length w.parts) (omega arith) ∙ ap (sum_by (part_operations w.circuit)) (take_whole w.parts)

    pub listed_there : (j : ℕ) (step : CircuitStep) → At w.steps j step → IsThere w step
    listed_there j step e = there_so_far (length w.parts) (omega arith) j step (subst (λ (steps : List CircuitStep). At steps j step) all e)
