-- A run is within the work of its phase.
use Rattle.std.proofs.Common.{◌≡◌, ℕ, ◌+◌, ◌*◌, ◌^◌, ◌<◌, ◌≤◌, List, [], ◌∷◌, ap, arith, eqb, length, refl, ◌∙◌, inr}
use Rattle.std.specs.Prelude.{sum_by}
use Rattle.std.proofs.Math.Nat.{add-mul, mul-le-mul_left}
use Rattle.std.proofs.lemmas.Bool.{eq-eqb, or_left}
use Rattle.std.proofs.lemmas.List.{length-map}
use Rattle.std.proofs.lemmas.List.FromFn.{length-range_with_len}
use Rattle.std.proofs.lemmas.Option.{slice_get_within}
use Rattle.circuit_faults.specs.Operations.{circuit_operations, constraint_operations, steps_operations}
use Rattle.circuit_faults.specs.Steps.{InPhase, in_comparison}
use Rattle.domino_order.proofs.StepFrames.{flat_pins}
use Rattle.domino_order.specs.Runs.{IsAsked, MayPass, asked_variables, of_asked, run_operations}
use Rattle.domino_order.specs.StepWords.{AreInputs, settle_operations}
use Rattle.domino_order.specs.declared.prepared.Asked.{Asked}
use Rattle.phase_laws.proofs.PhaseWork.{phase_work}
use Rattle.phase_open.specs.Given.{variable_at}
use Rattle.phase_laws.specs.Sums.{work_within}
use Rattle.phase_terms.specs.Opened.{opened_operations}
use Rattle.phase_terms.specs.declared.plan.PhasePlan.{PhasePlan}
use Rattle.vrt_model.specs.Budget.{constraints_size, model_size, models_size, work, work_of}
use Rattle.vrt_model.specs.Comparison.{Comparison, is_observed}
use Rattle.vrt_model.specs.Held.{sources_of}
use Rattle.vrt_model.specs.Lists.{has_number}
use Rattle.vrt_model.specs.declared.blif.Blif.{Blif}
use Rattle.vrt_model.specs.declared.whole.Whole.{Whole}

-- more models, more work
work_more : (n d s t e : ℕ) → s ≤ t → work n d s e ≤ work n d t e
work_more n d s t e le = omega (arith, le)

-- the work is never little
work_least : (n d s e : ℕ) → 1000 * n + 1100 ≤ work n d s e
work_least n d s e =
    let product : 1000 * (n + 1) * 1 ≤ 1000 * (n + 1) * (n + d + 1) = mul-le-mul_left {m = 1} {n = n + d + 1} (1000 * (n + 1)) (omega arith) in omega (arith, product)

-- four times the work for each port and once more holds a run
within : (n r v opened settle w q : ℕ) → opened + settle ≤ w → w ≤ q → 1000 * n + 1100 ≤ q → 1 ≤ r → 1 ≤ n → v + r ≤ 1000
    → opened + (2 * v + 2) + (2 * v + 6 * r + 3) + (3 * settle + 3 * n) + (2 * v + 2 * r + 1) ≤ 4 * (r + 1) * q
within n r v opened settle w q one le least some nets few =
    let turned : 4 * (r + 1) ≡ 4 * r + 4 = omega arith in
    let all : 4 * (r + 1) * q ≡ 4 * r * q + 4 * q = ap (λ (x : ℕ). x * q) turned ∙ add-mul (4 * r) 4 q in
    let big : 2100 ≤ q = omega (arith, least, nets) in
    let ports : 4 * r * 2100 ≤ 4 * r * q = mul-le-mul_left {m = 2100} {n = q} (4 * r) big in
    omega (arith, one, le, least, some, nets, few, all, ports)

module _ (s : Asked) (is : IsAsked s) (blif : Blif) (some : 1 ≤ length s.rising.nets.now) (few : asked_variables s ≤ 1000) where
  abbrev k : Comparison
  k = of_asked s

  abbrev phase : ℕ
  phase = s.rising.phase

  abbrev plan : PhasePlan
  plan = s.rising.plan.now

  abbrev devices : ℕ
  devices = length k.circuit.devices

  abbrev here : InPhase
  here = in_comparison k phase plan.parts plan.steps (is_observed k phase)

  one_setting : opened_operations k phase + settle_operations s.rising ≤ work_within k devices
  one_setting =
      let none = flat_pins k.circuit is.rising.flat in
      let work = phase_work k phase plan devices is.rising.ready is.rising.planned (omega arith) (omega (arith, none)) (inr is.rising.flat.wholes) in
      let steps : steps_operations here ≡ circuit_operations k.circuit plan.parts.list + sum_by (constraint_operations here) k.circuit.instances = is.rising.planned.steps.work (is_observed k phase) in
      omega (arith, work, steps)

  flat_work : work_within k devices ≤ work_of k blif
  flat_work =
      let none : sum_by (λ (w : Whole). model_size w.model) k.circuit.wholes ≡ 0 = ap (sum_by (λ (w : Whole). model_size w.model)) is.rising.flat.wholes in
      work_more (length k.circuit.nets) devices (model_size k.model + sum_by (λ (w : Whole). model_size w.model) k.circuit.wholes) (models_size k blif) (constraints_size k) (omega (arith, none))

  -- there is a net that rises
  one_net : (nets : List ℕ) → AreInputs k.circuit nets → 1 ≤ length nets → 1 ≤ length k.circuit.nets
  one_net [] inputs lt = absurd (omega (arith, lt))
  one_net (net ∷ nets) inputs lt =
      let there = inputs net (or_left (eqb net net) (has_number nets net) (eq-eqb net net refl)) in
      let low = slice_get_within k.circuit.nets net there.0 there.1 in omega (arith, low)

  order_many : length s.order.now ≡ length (sources_of k phase)
  order_many = ap (λ (xs : List ℕ). length xs) is.order ∙ length-range_with_len 0 (length (sources_of k phase))

  arrivals_many : length s.arrivals.now ≡ length s.rising.nets.now
  arrivals_many = ap (λ (xs : List ℕ). length xs) is.arrivals ∙ length-map s.rising.nets.now (variable_at k.circuit)

  run_work : run_operations s ≤ 4 * (length s.rising.nets.now + 1) * work_of k blif
  run_work =
      let all = within (length k.circuit.nets) (length s.rising.nets.now) (length (sources_of k phase)) (opened_operations k phase) (settle_operations s.rising) (work_within k devices) (work_of k blif) one_setting flat_work
      (work_least (length k.circuit.nets) devices (models_size k blif) (constraints_size k)) some (one_net s.rising.nets.now is.rising.inputs some) few in
      let order = order_many in
      let arrivals = arrivals_many in omega (arith, all, order, arrivals)

  -- a budget that is used up is less than what the work of the runs may need
  pub run_passes_work : (budget : ℕ) → MayPass (asked_variables s) budget (run_operations s)
      → (4 < asked_variables s) × (budget < 2 + 2 ^ asked_variables s * (4 * (length s.rising.nets.now + 1) * work_of k blif))
  run_passes_work budget passes =
      let u : ℕ = asked_variables s in
      let most : ℕ = 4 * (length s.rising.nets.now + 1) * work_of k blif in
      let product : 2 ^ u * run_operations s ≤ 2 ^ u * most = mul-le-mul_left {m = run_operations s} {n = most} (2 ^ u) run_work in
      let passed = passes.passed in (passes.many, omega (arith, passed, product))
