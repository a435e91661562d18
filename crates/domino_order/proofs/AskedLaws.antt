-- What is asked of a planned phase, and what is told then.
use Rattle.std.proofs.Common.{◌≡◌, ℕ, suc, ◌+◌, ◌<◌, ◌≤◌, ◌++◌, List, [], ◌∷◌, Some, None, Result, Ok, Err, ap, arith, length, map, refl, subst, sym, ◌∙◌}
use Rattle.std.specs.Prelude.{IfOk, cond, filter_map}
use Rattle.std.specs.List.{enumerate_from, range_with_len}
use Rattle.std.proofs.lemmas.List.{length-append, length-map}
use Rattle.circuit_faults.specs.Steps.{part_list}
use Rattle.circuit_faults.specs.declared.steps.CircuitStep.{CircuitStep}
use Rattle.domino_order.proofs.MonotoneLaws.{are_inputs, arrival_tells}
use Rattle.domino_order.proofs.PortNets.{nets_once}
use Rattle.domino_order.proofs.StepFrames.{flat_pins}
use Rattle.domino_order.specs.Arrivals.{AreRising, ArrivalTells, arrival_variables, nets_of_ports}
use Rattle.domino_order.specs.Ports.{PortsGive}
use Rattle.domino_order.specs.Runs.{AreOnce, IsAsked, of_asked, phase_variables}
use Rattle.domino_order.specs.StepWords.{AreInputs}
use Rattle.domino_order.specs.declared.arrival.Arrival.{Arrival}
use Rattle.domino_order.specs.declared.prepared.Asked.{Asked}
use Rattle.phase_open.specs.Given.{AreFew, variable_at}
use Rattle.phase_terms.specs.Plans.{IsPhasePlan}
use Rattle.phase_terms.specs.Ready.{IsReady, comparison_in}
use Rattle.phase_terms.specs.Stores.{counts_of, most_model_words}
use Rattle.phase_terms.specs.declared.compared.Comparison.{Comparison as CellComparison}
use Rattle.phase_terms.specs.declared.plan.PhasePlan.{PhasePlan}
use Rattle.phase_terms.specs.declared.words.WordCounts.{WordCounts}
use Rattle.vrt_model.specs.Circuits.{IsFlat}
use Rattle.vrt_model.specs.Comparison.{Comparison}
use Rattle.vrt_model.specs.Elements.{element_names}
use Rattle.vrt_model.specs.Equal.{IsPhaseEqual}
use Rattle.vrt_model.specs.Held.{sources_of}
use Rattle.vrt_model.specs.Limits.{most_variables}
use Rattle.vrt_model.specs.Variables.{is_free, is_input, places, variables_of}
use Rattle.vrt_model.specs.declared.circuit.Circuit.{Circuit}
use Rattle.vrt_model.specs.declared.circuit.FlatNet.{FlatNet}
use Rattle.vrt_model.specs.declared.flat_model.FlatModel.{FlatModel}
use Rattle.vrt_model.specs.declared.groups.Group.{Group as HoldGroup}
use Rattle.vrt_model.specs.declared.groups.Source.TheVariants.{Input, Element, Group}
use Rattle.vrt_model.specs.declared.ids.Net.{Net}
use Rattle.vrt_model.specs.declared.NoMemory.{NoMemory}
use Rattle.vrt_model.specs.declared.blif.Blif.{Blif}
use Rattle.vrt_model.specs.declared.groups.Source.{Source}
use Rattle.vrt_model.specs.declared.groups.Vars.{Vars}

-- ---- the limits

places_count : {X : Type 0} (n : ℕ) (xs : List X) → length (places n xs) ≡ length xs
places_count n [] = refl
places_count n (x ∷ xs) = ap suc (places_count (suc n) xs)

-- there is a variable for each element
elements_low : (c : Circuit) (flat : FlatModel) (groups : List HoldGroup) (phase : ℕ) → length (element_names flat) ≤ length (variables_of c flat groups phase)
unfolding variables_of
elements_low c flat groups phase =
    let inputs = filter_map (λ (p : ℕ × FlatNet). cond (is_input p.1.kind) (let net : Net = record { 0 = p.0 } in Some (Input net)) None) (enumerate_from 0 c.nets) in
    let elements = map (λ (e : ℕ). Element e) (places 0 (element_names flat)) in
    let free = filter_map (λ (p : ℕ × HoldGroup). cond (is_free c phase p.1) (Some (Group p.0)) None) (enumerate_from 0 groups) in
    let outer : length (inputs ++ elements ++ free) ≡ length (inputs ++ elements) + length free = length-append (inputs ++ elements) free in
    let inner : length (inputs ++ elements) ≡ length inputs + length elements = length-append inputs elements in
    let count : length elements ≡ length (places 0 (element_names flat)) = length-map (places 0 (element_names flat)) (λ (e : ℕ). Element e) in
    let same = places_count 0 (element_names flat) in omega (arith, outer, inner, count, same)

few_counts : (k : Comparison) (phase variables : ℕ) (counts : WordCounts) → IsReady k → IsFlat k.circuit → length (sources_of k phase) ≤ variables → variables ≤ 1000 → counts ≡ counts_of k variables → AreFew counts
few_counts k phase variables counts ready flat some few is =
    let none = flat_pins k.circuit flat in
    let models : most_model_words k.circuit.wholes ≡ 0 = ap most_model_words flat.wholes in
    let low = elements_low k.circuit k.model k.groups phase in
    subst AreFew (sym is) (ready.circuit.net_limit, omega (arith, none), omega (arith, models), ready.model.signal_limit, omega (arith, low, some, few), few)

-- ---- what is asked

module _ (s : Asked) (compared : CellComparison) (phase : ℕ) (plan : PhasePlan) (steps : List CircuitStep) (rising : List ℕ) (vars : Vars) (first : ℕ) (as_compared : s.rising.compared ≡ compared)
    (as_phase : s.rising.phase ≡ phase) (as_plan : s.rising.plan.now ≡ plan) (as_steps : s.rising.steps.now ≡ steps) (as_nets : s.rising.nets.now ≡ nets_of_ports (comparison_in compared) rising)
    (as_order : s.order.now ≡ range_with_len 0 first) (as_arrivals : s.arrivals.now ≡ map (variable_at (comparison_in compared).circuit) s.rising.nets.now) (as_vars : s.vars.now ≡ vars)
    (as_counts : s.counts ≡ counts_of (comparison_in compared) first)
    (ready : IsReady (comparison_in compared)) (are : AreRising (comparison_in compared) rising) (sources : vars.sources ≡ sources_of (comparison_in compared) phase)
    (counted : first ≡ length vars.sources) (few : arrival_variables (comparison_in compared) phase rising ≤ 1000) where
  abbrev k : Comparison
  k = comparison_in compared

  as_k : of_asked s ≡ k
  as_k = ap comparison_in as_compared

  variables_are : phase_variables s ≡ first
  variables_are =
      let here : length (sources_of (of_asked s) s.rising.phase) ≡ length (sources_of k phase) =
      ap (λ (x : Comparison). length (sources_of x s.rising.phase)) as_k ∙ ap (λ (p : ℕ). length (sources_of k p)) as_phase in
      let there : length vars.sources ≡ length (sources_of k phase) = ap (λ (xs : List Source). length xs) sources in omega (arith, here, there, counted)

  variables_low : length (sources_of k phase) ≤ first
  variables_low = (let there : length vars.sources ≡ length (sources_of k phase) = ap (λ (xs : List Source). length xs) sources in omega (arith, there, counted))

  variables_few : first ≤ 1000
  variables_few = (let there : length vars.sources ≡ length (sources_of k phase) = ap (λ (xs : List Source). length xs) sources in omega (arith, there, counted, few))

  pub asked_is : IsFlat k.circuit → phase < length k.rules.phases → IsPhasePlan k phase plan → steps ≡ part_list (length plan.parts.list) → IsAsked s
  asked_is flat range planned parts = record {
    rising = record {
      ready = subst IsReady (sym as_k) ready;
      there =
          subst (λ (x : Comparison). s.rising.phase < length x.rules.phases) (sym as_k) (subst (λ (p : ℕ). p < length k.rules.phases) (sym as_phase) range);
      flat = subst (λ (x : Comparison). IsFlat x.circuit) (sym as_k) flat;
      planned =
          subst (λ (x : Comparison). IsPhasePlan x s.rising.phase s.rising.plan.now) (sym as_k)
          (subst (λ (p : ℕ). IsPhasePlan k p s.rising.plan.now) (sym as_phase) (subst (IsPhasePlan k phase) (sym as_plan) planned));
      steps = as_steps ∙ parts ∙ ap (λ (p : PhasePlan). part_list (length p.parts.list)) (sym as_plan);
      inputs =
          subst (λ (x : Comparison). AreInputs x.circuit s.rising.nets.now) (sym as_k) (subst (AreInputs k.circuit) (sym as_nets) (are_inputs k rising ready are));
    };
    vars =
        ap (λ (v : Vars). v.sources) as_vars ∙ sources ∙ ap (λ (x : Comparison). sources_of x phase) (sym as_k) ∙ ap (λ (p : ℕ). sources_of (of_asked s) p) (sym as_phase);
    once = subst AreOnce (sym as_nets) (nets_once k rising ready are);
    order = as_order ∙ ap (λ (m : ℕ). range_with_len 0 m) (sym variables_are);
    arrivals = as_arrivals ∙ ap (λ (x : Comparison). map (variable_at x.circuit) s.rising.nets.now) (sym as_k);
    counts = as_counts ∙ ap (counts_of k) (sym variables_are) ∙ ap (λ (x : Comparison). counts_of x (phase_variables s)) (sym as_k);
    few = few_counts k phase first s.counts ready flat variables_low variables_few as_counts;
  }

  pub asked_tells : IsAsked s → IsPhaseEqual k phase → (budget : ℕ) (result : Result Arrival NoMemory) → IfOk result (PortsGive s rising budget)
      → IfOk result (λ a. (blif : Blif) → ArrivalTells k blif budget phase rising a)
  asked_tells is equal budget (Err e) gives = tt
  asked_tells is equal budget (Ok a) gives = λ blif.
      let there = subst (λ (x : Comparison). AreRising x rising) (sym as_k) are in
      let same = as_nets ∙ ap (λ (x : Comparison). nets_of_ports x rising) (sym as_k) in
      let here = subst (λ (x : Comparison). IsPhaseEqual x s.rising.phase) (sym as_k) (subst (IsPhaseEqual k) (sym as_phase) equal) in
      let low : arrival_variables (of_asked s) s.rising.phase rising ≤ most_variables =
      subst (λ (x : Comparison). arrival_variables x s.rising.phase rising ≤ most_variables) (sym as_k)
      (subst (λ (p : ℕ). arrival_variables k p rising ≤ most_variables) (sym as_phase) few) in
      subst (λ (p : ℕ). ArrivalTells k blif budget p rising a) as_phase
      (subst (λ (x : Comparison). ArrivalTells x blif budget s.rising.phase rising a) as_k (arrival_tells s is rising there same here low blif budget a gives))
