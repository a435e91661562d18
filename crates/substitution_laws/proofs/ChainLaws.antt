-- The circuits of the chain from the flat circuit to the checked one: each has one solution, and each instance that is chosen is a step.
use Rattle.std.proofs.Common.{◌≡◌, ℕ, zero, suc, ◌<◌, Bool, true, not, List, length, ◌+◌, refl, ap, ap₂, sym, ◌∙◌, subst, arith}
use Rattle.std.specs.Prelude.{All, drop, filter}
use Rattle.std.specs.List.{enumerate_from}
use Rattle.std.proofs.lemmas.Option.{slice_get_within}
use Rattle.checked_chain.proofs.EndLaws.{chain_ends_checked}
use Rattle.checked_chain.proofs.LinkLaws.{circuits_are_acyclic}
use Rattle.checked_chain.specs.Arcs.{AreOutputsApart, AreWholeOutputsApart}
use Rattle.checked_chain.specs.Holds.{IsOfChain}
use Rattle.channel_parts.specs.OneSolution.{AreDetermined, AreObserved, HasOneSolution}
use Rattle.placed_cells.proofs.SplitLaws.{places_in_stand_together}
use Rattle.replaced_cells.specs.Agreement.{IsAlwaysSolved}
use Rattle.replaced_instances.proofs.StepPlaces.{first_in}
use Rattle.replaced_instances.proofs.StepPorts.{enumerated_at, place_there}
use Rattle.substitution_laws.proofs.ChosenLaws.{chosen_instances_are_steps}
use Rattle.substitution_laws.proofs.EndsLaws.{chosen_ends_are_shown}
use Rattle.substitution_laws.proofs.FormedCells.{formed_cell}
use Rattle.substitution_laws.proofs.SeenNets.{HasPortsWithin, port_range, seen_within}
use Rattle.substitution_laws.proofs.ToldLaws.{ends_before}
use Rattle.substitution_laws.proofs.WholeCells.{whole_chosen, wholes_are_determined}
use Rattle.substitution_laws.proofs.WholeRanges.{circuits_have_ranges}
use Rattle.substitution_laws.specs.Agreement.{ChainIsAlwaysSolved, IsCheckedByFacts}
use Rattle.substitution_laws.specs.Steps.{IsStepOf}
use Rattle.vrt_model.proofs.Filtered.{device_among, filter_among}
use Rattle.vrt_model.proofs.Lists.{at_there, map_among, map_at}
use Rattle.vrt_model.proofs.Members.{all_among, among_map}
use Rattle.vrt_model.specs.Checked.{IsCircuitWith, before, top_of, with_circuit}
use Rattle.vrt_model.specs.Circuits.{IsNet}
use Rattle.vrt_model.specs.Comparison.{Comparison, is_observed, phase_at}
use Rattle.vrt_model.specs.Cut.{Cut, NumberedPlace, is_inside_whole, numbered_places}
use Rattle.vrt_model.specs.FlatCircuit.{flat_circuit_of, flat_instance, flat_instances, flat_nets}
use Rattle.vrt_model.specs.Groups.{groups_of}
use Rattle.vrt_model.specs.Held.{setting_of}
use Rattle.vrt_model.specs.Known.{HasArc}
use Rattle.vrt_model.specs.Lists.{Among, At}
use Rattle.vrt_model.specs.Networks.{HasRanges}
use Rattle.vrt_model.specs.PairedPorts.{Paired, Model, Skipped, Missing}
use Rattle.vrt_model.specs.Unrolled.{Place, Top, all_places, deepest, places_in, top_place}
use Rattle.vrt_model.specs.Unsupported.{IsAcyclic, comparison_of}
use Rattle.vrt_model.specs.declared.blif.Blif.{Blif}
use Rattle.vrt_model.specs.declared.circuit.Circuit.{Circuit}
use Rattle.vrt_model.specs.declared.circuit.FlatInstance.{FlatInstance}
use Rattle.vrt_model.specs.declared.circuit.FlatNet.{FlatNet}
use Rattle.vrt_model.specs.declared.groups.Group.{Group}
use Rattle.vrt_model.specs.declared.whole.CellFacts.{CellFacts}
use Rattle.whole_ranks.proofs.SolvedLaws.{acyclic_nets_have_one_solution}
use Rattle.whole_solutions.proofs.ObservedCases.{gate_observed}

-- ---- places

-- there is a place
pub some_place : (t : Top) → 0 < length (all_places t)
unfolding all_places
some_place t =
    let on = first_in t deepest (top_place t) in
    let lt = slice_get_within (places_in t deepest (top_place t)) on.0 (top_place t) on.1 in
    omega (arith, lt)

-- each place is listed at its number
listed_at : (t : Top) (j : ℕ) (r : Place) → At (all_places t) j r → At (numbered_places t) j (record { number = j; at = r })
listed_at t j r e =
    let make : ℕ × Place → NumberedPlace = λ q. record { number = q.0; at = q.1 } in
    let number : 0 + j ≡ j = omega arith in
    subst (λ (x : ℕ). At (numbered_places t) j (record { number = x; at = r })) number (map_at make (enumerate_from 0 (all_places t)) j (0 + j, r) (enumerated_at 0 (all_places t) j r e))

module _ (k : Comparison) (cut : Cut) (blif : Blif) (facts : List CellFacts) (c : Circuit) (h : IsCheckedByFacts k cut blif facts c) where
  abbrev t : Top
  t = cut.top

  -- ---- one circuit

  module _ (n : ℕ) (d : Circuit) (circuit : IsCircuitWith (before cut n) blif facts d) where
    pub of_chain : IsOfChain k blif facts (before cut n) d
    of_chain = record { top = h.top; flat = h.flat; groups = h.groups; circuit = circuit; ends = ends_before cut n (chosen_ends_are_shown cut blif facts h.choice) }

    pub ports_within : HasPortsWithin (with_circuit k d)
    unfolding flat_circuit_of
    ports_within = record {
      ports = λ port on.
          subst (λ (nets : List FlatNet). port.net < length nets) (ap flat_nets (sym h.top) ∙ sym circuit.nets) (port_range (top_of k) port on);
      instances = λ x m on there.
          let test : Place → Bool = λ (at : Place). not (is_inside_whole (before cut n) at) in
          let from = among_map flat_instance (filter test (drop 1 (all_places t))) x (subst (λ (xs : List FlatInstance). Among xs x) circuit.instances on) in
          let listed = subst (λ (y : FlatInstance). Among (flat_instances t) y) from.2 (map_among flat_instance (drop 1 (all_places t)) from.0 (filter_among test (drop 1 (all_places t)) from.0 from.1).0) in
          let low = all_among (IsNet (flat_circuit_of t)) x.ports m (all_among (λ (y : FlatInstance). All (IsNet (flat_circuit_of t)) y.ports) (flat_instances t) x h.formed.instances listed) there in
          subst (λ (nets : List FlatNet). m.0 < length nets) (sym circuit.nets) low;
    }

    pub outputs_apart : AreWholeOutputsApart (before cut n) blif
    outputs_apart p m on paired =
        let is = whole_chosen cut n p on in
        let step = chosen_instances_are_steps cut blif facts is.0 p h.choice is.1.place is.1.chosen in
        let model : Paired → ℕ = λ x. elim x [ Model j ↦ j | Skipped ↦ 0 | Missing ↦ 0 ] in
        let same : step.0 ≡ m = ap model (sym step.1.paired ∙ paired) in
        subst (λ (j : ℕ). AreOutputsApart (comparison_of t.design blif t.rules p.at.cell j)) same (formed_cell cut blif facts p.at.cell step.0 h.choice step.2).signals.one_port

    pub ranges_at : HasRanges d
    ranges_at = circuits_have_ranges cut blif facts n d h.choice h.formed (ends_before cut n (chosen_ends_are_shown cut blif facts h.choice)) circuit

    -- in each phase
    module _ (phase : ℕ) (lt : phase < length t.rules.phases) where
      pub nets_observed : AreObserved d (is_observed (with_circuit k d) phase)
      nets_observed = record {
        gates = λ e on. gate_observed (with_circuit k d) phase e.gate.0 (e, (device_among true d e on).0, refl);
        nets = λ m seen. seen_within (with_circuit k d) phase m ranges_at ports_within seen;
      }

      pub determined_at : AreDetermined d (phase_at t.rules phase) (is_observed (with_circuit k d) phase)
      determined_at = wholes_are_determined k cut blif facts phase n d h.top h.choice lt circuit

      pub acyclic_at : n < length (all_places t) → IsAcyclic (HasArc d (phase_at t.rules phase))
      acyclic_at low = circuits_are_acyclic cut blif facts d n phase h.choice.read.valid outputs_apart h.choice.tried circuit lt low (h.acyclic phase lt)

    solved_at : n < length (all_places t) → (phase : ℕ) (bits : List Bool) → phase < length t.rules.phases
        → HasOneSolution d (phase_at t.rules phase) (is_observed (with_circuit k d) phase) (setting_of (with_circuit k d) phase bits)
    solved_at low phase bits lt =
        acyclic_nets_have_one_solution d (phase_at t.rules phase) (is_observed (with_circuit k d) phase) (setting_of (with_circuit k d) phase bits) ranges_at (nets_observed phase lt) (determined_at phase lt)
        (acyclic_at phase lt low)

    pub always_solved : n < length (all_places t) → IsAlwaysSolved (with_circuit k d)
    always_solved low phase bits lt =
        subst (λ (u : Top). HasOneSolution d (phase_at u.rules phase) (is_observed (with_circuit k d) phase) (setting_of (with_circuit k d) phase bits)) h.top
        (solved_at low phase bits (subst (λ (u : Top). phase < length u.rules.phases) (sym h.top) lt))

  -- ---- the chain

  -- the comparison over its own circuit
  pub is_itself : (d : Circuit) → d ≡ k.circuit → k ≡ with_circuit k d
  is_itself d same = ap₂ (λ (x : Circuit) (gs : List Group). let one : Comparison = record k { circuit = x; groups = gs } in one) (sym same) own
    where
      own : k.groups ≡ groups_of d k.model
      own = h.groups ∙ ap (λ (x : Circuit). groups_of x k.model) (sym same)

  -- the place of an instance
  place_of_instance : (i : ℕ) → suc i < length (all_places t) → (p : NumberedPlace) × At (numbered_places t) (suc i) p
  place_of_instance i lt =
      let at = at_there (all_places t) (suc i) lt in
      let one : NumberedPlace = record { number = suc i; at = at.0 } in
      (one, listed_at t (suc i) at.0 at.1)

  -- the step at an instance that is chosen
  pub step_at : (i : ℕ) (d e : Circuit) → suc i < length (all_places t) → cut.choice i ≡ true → IsCircuitWith (before cut i) blif facts d → IsCircuitWith (before cut (suc i)) blif facts e
      → (p : NumberedPlace) × (m : ℕ) × (depth : ℕ) × (front : List Place) × (back : List Place) × IsStepOf k cut blif facts i p m depth front back d e
  step_at i d e low chosen before_it after =
      let p = place_of_instance i low in
      let step = chosen_instances_are_steps cut blif facts i p.0 h.choice p.1 chosen in
      let split = places_in_stand_together t (suc i) p.0.at (place_there cut blif facts i p.0 step.0 step.1) in (
        p.0,
        step.0,
        split.0,
        split.1,
        split.2,
        record {
          step = record { choice = h.choice; chosen = step.1; supported = step.2; split = split.3; circuit = before_it; whole = after };
          flat = h.formed;
          first = of_chain i d before_it;
          next = of_chain (suc i) e after;
        },
      )

  -- behind the last instance it is the checked circuit
  pub at_last : (n : ℕ) × (n < length (all_places t)) × IsCircuitWith (before cut n) blif facts c
  at_last =
      let last = by_count (length (all_places t)) (some_place t) in
      let is = last.1 in
      (last.0, omega (arith, is), (chain_ends_checked cut blif facts c last.0 (omega (arith, is))).1 h.circuit)
    where
      by_count : (m : ℕ) → 0 < m → (n : ℕ) × (suc n ≡ m)
      by_count zero lt = absurd (omega (arith, lt))
      by_count (suc n) lt = (n, refl)

pub chain_is_always_solved : ChainIsAlwaysSolved
chain_is_always_solved k cut blif facts c n d h low circuit = always_solved k cut blif facts c h n d circuit low
