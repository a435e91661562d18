-- All operations of a phase are within its work, where its circuit has at most 50 nets or no whole instance; with more nets each budget that
-- there is lies below what may be needed.
use Rattle.std.proofs.Common.{◌≡◌, ℕ, ◌+◌, ◌*◌, ◌^◌, ◌<◌, ◌≤◌, ◌⊎◌, true, false, [], length, arith, ap, inl, inr}
use Rattle.std.specs.Prelude.{sum_by}
use Rattle.std.proofs.Math.Nat.{add-mul, mul-add, mul_assoc, mul-le-mul_left, mul-le-mul_right, pow-le-pow_right}
use Rattle.std.proofs.lemmas.Bool.{cases_lt}
use Rattle.std.proofs.lemmas.Nat.{mul-le}
use Rattle.blif_eval.proofs.LatchLaws.{names_few}
use Rattle.circuit_faults.specs.Operations.{circuit_operations, constraint_operations, steps_operations}
use Rattle.circuit_faults.specs.Steps.{InPhase, in_comparison}
use Rattle.drive_levels.specs.NetLevels.{drive_operations}
use Rattle.path_fixpoint.specs.Parts.{pins_of}
use Rattle.path_fixpoint.specs.Spending.{solving_operations}
use Rattle.phase_laws.proofs.PartCosts.{circuit_few, levels_few, solved_few}
use Rattle.phase_laws.proofs.Sizes.{assumed_few, holds_few, instances_few, lines_of}
use Rattle.phase_laws.specs.Sums.{HasFewOutputs, phase_operations, wholes_size, work_within}
use Rattle.phase_terms.specs.Found.{MaySpend}
use Rattle.phase_terms.specs.Plans.{IsPhasePlan}
use Rattle.phase_terms.specs.Ready.{IsReady}
use Rattle.phase_terms.specs.declared.plan.PhasePlan.{PhasePlan}
use Rattle.vrt_model.specs.Budget.{assume_size, constraints_size, model_size, work}
use Rattle.vrt_model.specs.Comparison.{Comparison, cell_at, is_observed, phase_at}
use Rattle.vrt_model.specs.Elements.{element_names}
use Rattle.vrt_model.specs.Held.{sources_of}
use Rattle.vrt_model.specs.Levels.{most_source, source_level}
use Rattle.vrt_model.specs.declared.rules.Phase.{Phase}
use Rattle.vrt_model.proofs.Scales.{source_most}
use Rattle.vrt_model.specs.declared.whole.Whole.{Whole}

-- ---- numbers

-- nets with nets and devices
square : (n d : ℕ) → (n + 1) * (n + d + 1) ≡ n * n + n * d + n + (n + d + 1)
square n d =
    let a : (n + 1) * (n + d + 1) ≡ n * (n + d + 1) + 1 * (n + d + 1) = add-mul n 1 (n + d + 1) in
    let b : n * (n + d + 1) ≡ n * (n + d) + n * 1 = mul-add n (n + d) 1 in
    let c : n * (n + d) ≡ n * n + n * d = mul-add n n d in
    omega (arith, a, b, c)

-- the models of whole instances: at most 50 nets, or none
abbrev IsSmall : ℕ → ℕ → Type 0
IsSmall n m = (n ≤ 50) ⊎ (m ≡ 0)

models_small : (n m : ℕ) → IsSmall n m → n * (2 * m) ≤ 100 * m
models_small n m (inl few) = (let most : n * (2 * m) ≤ 50 * (2 * m) = mul-le-mul_right {m = n} {n = 50} (2 * m) few in omega (arith, most))
models_small n m (inr none) = (let zero : n * (2 * m) ≡ n * (2 * 0) = ap (λ (k : ℕ). n * (2 * k)) none in omega (arith, zero))

-- The sum of all bounds is within the work, for source levels up to the greatest: n nets, d devices, h holds, e elements, r outputs and m literals
-- and rows of whole instances, s those of the model and its latches, a and o the sizes of the constraints.
within_work : (l n d h e r m s a o b k v w i : ℕ) → l ≤ most_source → h ≤ n → e ≤ s + s → r ≤ 40 * ((n + 1) * (n + d + 1)) → IsSmall n m
    → b ≤ n * (2 * m) + ((12 * l + 12) * (n * d) + 16 * n + 6 * r) → k ≤ (12 * l + 12) * (n * d) + 12 * n + 6 * r
    → v ≤ 4 * l * (n * d) + (l + 1) * n + (4 * l * (n * d) + (l + 1) * n) → w ≤ 4 * n → i ≤ 22 * o
    → 2 * h + n + e + 20 * (a + h) + (b + i) + (k + 20 * n) + 2 * s + 4 * w + v ≤ 1000 * (n + 1) * (n + d + 1) + 100 * (s + m + (a + o) + 1)
within_work l n d h e r m s a o b k v w i level holds elements outputs small bare kept levels wishes lines =
    let x : ℕ = n * d in
    let sq = square n d in
    let big : 1000 * (n + 1) * (n + d + 1) ≡ 1000 * ((n + 1) * (n + d + 1)) = mul_assoc 1000 (n + 1) (n + d + 1) in
    let models = models_small n m small in
    let solving : (12 * l + 12) * x ≤ (12 * most_source + 12) * x = mul-le-mul_right {m = 12 * l + 12} {n = 12 * most_source + 12} x (omega (arith, level)) in
    let strengths : 4 * l * x ≤ 4 * most_source * x = mul-le-mul_right {m = 4 * l} {n = 4 * most_source} x (omega (arith, level)) in
    let nets : (l + 1) * n ≤ (most_source + 1) * n = mul-le-mul_right {m = l + 1} {n = most_source + 1} n (omega (arith, level)) in
    omega (arith, holds, elements, outputs, bare, kept, levels, wishes, lines, sq, big, models, solving, strengths, nets)

-- more than 50 nets and more than four variables pass each budget
enough : (n d s e u budget : ℕ) → budget ≤ 64000000 → 4 < u → 50 < n → budget < 2 + 2 ^ u * work n d s e
enough n d s e u budget small many nets =
    let power : 32 ≤ 2 ^ u = pow-le-pow_right {n = 2} (omega arith) {i = 5} {j = u} (omega (arith, many)) in
    let left : 2704 ≤ (n + 1) * (n + d + 1) = mul-le 52 52 (n + 1) (n + d + 1) (omega (arith, nets)) (omega (arith, nets)) in
    let big : 1000 * (n + 1) * (n + d + 1) ≡ 1000 * ((n + 1) * (n + d + 1)) = mul_assoc 1000 (n + 1) (n + d + 1) in
    let all : 2704000 ≤ work n d s e = omega (arith, left, big) in
    let product : 32 * 2704000 ≤ 2 ^ u * work n d s e = mul-le 32 2704000 (2 ^ u) (work n d s e) power all in
    omega (arith, small, product)

-- ---- a phase

module _ (k : Comparison) (phase : ℕ) (plan : PhasePlan) (devices : ℕ) (ready : IsReady k) (is : IsPhasePlan k phase plan) (within : length k.circuit.devices ≤ devices)
    (few : HasFewOutputs k.circuit devices) where
  abbrev at : Phase
  at = phase_at k.rules phase

  abbrev here : InPhase
  here = in_comparison k phase plan.parts plan.steps (is_observed k phase)

  abbrev n : ℕ
  n = length k.circuit.nets

  abbrev l : ℕ
  l = source_level k.circuit

  -- nets times devices, of which there may be more
  products : (a : ℕ) → a * (n * length k.circuit.devices) ≤ a * (n * devices)
  products a = mul-le-mul_left {m = n * length k.circuit.devices} {n = n * devices} a (mul-le-mul_left {m = length k.circuit.devices} {n = devices} n within)

  latches_within : length k.model.latches ≤ model_size k.model
  latches_within = omega arith

  pub phase_work : (n ≤ 50) ⊎ (k.circuit.wholes ≡ []) → phase_operations k phase plan ≤ work_within k devices
  phase_work small =
      let name = (cell_at k.design k.cell).name in
      let steps : steps_operations here ≡ circuit_operations k.circuit plan.parts.list + sum_by (constraint_operations here) k.circuit.instances = is.steps.work (is_observed k phase) in
      let bare = circuit_few k.circuit at true is.parts.0 plan.parts is.parts.1 in
      let kept = solved_few k.circuit at false (λ m. 0) plan.kept is.kept in
      let bare_levels = levels_few k.circuit at true is.parts.0 plan.parts is.parts.1 in
      let kept_levels = levels_few k.circuit at false (λ m. 0) plan.kept is.kept in
      let solving = products (12 * l + 12) in
      let strengths = products (4 * l) in
      let elements = names_few k.model in
      let latches = latches_within in
      let sum =
      within_work l n devices (length k.circuit.holds) (length (element_names k.model)) (length (pins_of k.circuit)) (wholes_size k.circuit) (model_size k.model) (assume_size k.rules name)
      (sum_by (lines_of here) k.circuit.instances) (circuit_operations k.circuit plan.parts.list) (sum_by (solving_operations k.circuit) plan.kept.list)
      (drive_operations k.circuit plan.parts.list plan.kept.list) (length plan.wishes) (sum_by (constraint_operations here) k.circuit.instances)
      (source_most k.circuit) (holds_few k.circuit ready.circuit) (omega (arith, elements, latches)) few (is_small small) (omega (arith, bare, solving)) (omega (arith, kept, solving))
      (omega (arith, bare_levels, kept_levels, strengths)) is.few (instances_few here k.circuit.instances) in
      let asked = assumed_few k.rules name phase in
      omega (arith, sum, steps, asked)
    where
      is_small : (n ≤ 50) ⊎ (k.circuit.wholes ≡ []) → IsSmall n (wholes_size k.circuit)
      is_small (inl low) = inl low
      is_small (inr none) = inr (ap (sum_by (λ (w : Whole). model_size w.model)) none)

  -- a budget that may be used up lies below what its work may need
  pub spent_passes : (budget : ℕ) → budget ≤ 64000000 → MaySpend k budget phase (phase_operations k phase plan)
      → (4 < length (sources_of k phase)) × (budget < 2 + 2 ^ length (sources_of k phase) * work_within k devices)
  spent_passes budget small may =
      let many = may.many in
      let passed = may.passed in
      let v : ℕ = length (sources_of k phase) in
      elim (cases_lt 50 n) [
        | inl high ↦ (many, enough n devices (model_size k.model + wholes_size k.circuit) (constraints_size k) v budget small many high)
        | inr low ↦
            let product : 2 ^ v * phase_operations k phase plan ≤ 2 ^ v * work_within k devices =
            mul-le-mul_left {m = phase_operations k phase plan} {n = work_within k devices} (2 ^ v) (phase_work (inl low)) in
            (many, omega (arith, passed, product))
      ]
