use Rattle.std.proofs.Common.{◌≡◌, suc, ◌+◌, ◌++◌, List, [], ◌∷◌, ap, arith, ◌∙◌}
use Rattle.circuit_faults.specs.Steps.{part_list}
use Rattle.circuit_faults.specs.declared.steps.CircuitStep.{CircuitStep}
use Rattle.circuit_faults.specs.declared.steps.CircuitStep.TheVariants.{Part as PartStep}
use Rattle.circuit_faults.proofs.part_lists.part_steps.Goals as goal

pub loop-number-preserved : goal.loop-number-preserved
loop-number-preserved c =
    let next : suc c.loop-number.number ≡ c.loop-number.number + 1 = omega arith in
    c.in_ok-append.ensures ∙ ap (λ (steps : List CircuitStep). steps ++ PartStep c.loop-number.number ∷ []) c.loop-number.invariant ∙ ap part_list next
