-- The operations of all phases are within the work of a phase, taken once more than there are phases.
use Rattle.std.proofs.Common.{◌≡◌, ℕ, ◌+◌, ◌*◌, ◌^◌, ◌≤◌, List, [], ap, arith, length, map, sym, ◌∙◌, inr}
use Rattle.std.specs.Prelude.{flat_map, sum_by}
use Rattle.std.proofs.Math.Nat.{add-mul, mul-le-mul_left, mul_comm}
use Rattle.output_functions.specs.Phases.{ArePhasePlans, HasWork, joined_work}
use Rattle.path_fixpoint.specs.Parts.{pins_of}
use Rattle.phase_laws.proofs.PhaseWork.{phase_work}
use Rattle.phase_laws.specs.Sums.{HasFewOutputs, wholes_size, work_within}
use Rattle.cell_writer.specs.Written.{MayPass}
use Rattle.phase_terms.specs.Found.{MaySpend}
use Rattle.phase_terms.specs.Ready.{IsReady}
use Rattle.phase_terms.specs.Stores.{counts_of, most_model_words}
use Rattle.phase_terms.specs.declared.plan.PhasePlan.{PhasePlan}
use Rattle.phase_terms.specs.declared.words.WordCounts.{WordCounts}
use Rattle.vrt_model.specs.Budget.{constraints_size, model_size, work, work_of}
use Rattle.vrt_model.specs.Comparison.{Comparison}
use Rattle.vrt_model.specs.Held.{sources_of}
use Rattle.vrt_model.specs.Levels.{source_level}
use Rattle.vrt_model.specs.declared.blif.Blif.{Blif}
use Rattle.vrt_model.specs.Elements.{element_names}
use Rattle.vrt_model.specs.State.{OutputPin}
use Rattle.vrt_model.specs.declared.whole.Whole.{Whole}
use Rattle.vrt_model.specs.declared.whole.WholePin.{WholePin}

-- each phase of a circuit without whole instances is within its work
pub has_work : (k : Comparison) (plans : List PhasePlan) → IsReady k → ArePhasePlans k plans → k.circuit.wholes ≡ [] → HasFewOutputs k.circuit (length k.circuit.devices)
    → HasWork k plans (work_within k (length k.circuit.devices))
has_work k plans ready are none few phase plan at =
    let all = phase_work k phase plan (length k.circuit.devices) ready (are.each phase plan at) (omega arith) few (inr none) in
    omega (arith, all)

-- so many phases, with two operations for each net in each
pub phases_within : (phases nets work : ℕ) → phases ≤ 16 → 32 * nets ≤ work → phases * (work + 2 * nets) ≤ (phases + 1) * work
phases_within phases nets work few enough =
    let turned = mul_comm phases (work + 2 * nets) in
    let split = add-mul work (2 * nets) phases in
    let last = add-mul phases 1 work in
    let back = mul_comm work phases in
    let product : 2 * nets * phases ≤ 2 * nets * 16 = mul-le-mul_left {m = phases} {n = 16} (2 * nets) few in
    omega (arith, turned, split, last, back, product, enough)

-- ---- words

-- without whole instances and elements there are no words of outputs, models and elements
pub bare_counts_are : (k : Comparison) (variables : ℕ) → k.circuit.wholes ≡ [] → element_names k.model ≡ []
    → ◌≡◌ {A = WordCounts} (record { nets = length k.circuit.nets; source = source_level k.circuit; pins = 0; models = 0; signals = length k.model.signals; elements = 0; variables = variables }) (counts_of k variables)
bare_counts_are k variables whole none =
    ap (λ (ws : List Whole).
    let counts : WordCounts = record {
      nets = length k.circuit.nets;
      source = source_level k.circuit;
      pins = length (map (λ (out : OutputPin). out.pin) (flat_map (λ (w : Whole). map (λ (p : WholePin). let pin : OutputPin = record { whole = w; pin = p } in pin) w.outputs) ws));
      models = most_model_words ws;
      signals = length k.model.signals;
      elements = 0;
      variables = variables;
    } in
    counts) (sym whole)
    ∙ ap (λ (names : List (List ℕ)). let counts : WordCounts = record (counts_of k variables) { elements = length names } in counts) (sym none)

-- and no outputs
no_pins : (k : Comparison) → k.circuit.wholes ≡ [] → length (pins_of k.circuit) ≡ 0
no_pins k whole =
    ap (λ (ws : List Whole).
    length (map (λ (out : OutputPin). out.pin) (flat_map (λ (w : Whole). map (λ (p : WholePin). let pin : OutputPin = record { whole = w; pin = p } in pin) w.outputs) ws))) whole

pub few_outputs : (k : Comparison) → k.circuit.wholes ≡ [] → HasFewOutputs k.circuit (length k.circuit.devices)
few_outputs k whole = (let none = no_pins k whole in omega (arith, none))

-- ---- the budget

-- the work of a phase holds 32 operations for each net
nets_within : (n d s e : ℕ) → 32 * n ≤ work n d s e
nets_within n d s e =
    let product : 1000 * (n + 1) * 1 ≤ 1000 * (n + 1) * (n + d + 1) = mul-le-mul_left {m = 1} {n = n + d + 1} (1000 * (n + 1)) (omega arith) in
    omega (arith, product)

-- it is within the work of the cell
work_less : (k : Comparison) (blif : Blif) → k.circuit.wholes ≡ [] → work_within k (length k.circuit.devices) ≤ work_of k blif
work_less k blif whole =
    let none : wholes_size k.circuit ≡ 0 = ap (λ (ws : List Whole). sum_by (λ (w : Whole). model_size w.model) ws) whole in
    omega (arith, none)

-- where all phases may spend the budget, it may be passed
pub may_pass : (k : Comparison) (blif : Blif) (plans : List PhasePlan) (budget : ℕ) → IsReady k → ArePhasePlans k plans → k.circuit.wholes ≡ []
    → ((work : ℕ) → HasWork k plans work → MaySpend k budget 0 (length k.rules.phases * joined_work k work)) → MayPass k blif budget
may_pass k blif plans budget ready are whole spends =
    let v : ℕ = length (sources_of k 0) in
    let p : ℕ = length k.rules.phases in
    let w : ℕ = work_within k (length k.circuit.devices) in
    let spent = spends w (has_work k plans ready are whole (few_outputs k whole)) in
    let passed = spent.passed in
    let enough : 32 * length k.circuit.nets ≤ w = nets_within (length k.circuit.nets) (length k.circuit.devices) (model_size k.model + wholes_size k.circuit) (constraints_size k) in
    let less : (p + 1) * w ≤ (p + 1) * work_of k blif = mul-le-mul_left {m = w} {n = work_of k blif} (p + 1) (work_less k blif whole) in
    let within = phases_within p (length k.circuit.nets) w ready.rules.phase_limit enough in
    let all : p * joined_work k w ≤ (p + 1) * work_of k blif = omega (arith, within, less) in
    let product : 2 ^ v * (p * joined_work k w) ≤ 2 ^ v * ((p + 1) * work_of k blif) = mul-le-mul_left {m = p * joined_work k w} {n = (p + 1) * work_of k blif} (2 ^ v) all in
    record { many = spent.many; passed = omega (arith, passed, product) }
