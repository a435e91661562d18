-- The steps and the instances of a search are as the calls ask.
use Rattle.std.proofs.Common.{◌≡◌, ℕ, zero, suc, Bool, true, false, cond, All, List, [], ◌∷◌, map, arith, refl, subst, sym}
use Rattle.std.proofs.lemmas.List.Elements.{All-head, All-tail}
use Rattle.std.proofs.lemmas.Option.{same_Some}
use Rattle.channel_parts.specs.PartLists.{AreParts, IsPartList}
use Rattle.channel_parts.specs.declared.part.Parts.{Parts}
use Rattle.circuit_faults.proofs.StepLists.{ordered_steps}
use Rattle.circuit_faults.specs.Steps.{AreOrderedSteps, InPhase, IsReadyInstance, IsStepThere, in_comparison, step_of}
use Rattle.circuit_faults.specs.declared.steps.CircuitStep.{CircuitStep}
use Rattle.constraints.specs.Obliged.{is_named_port}
use Rattle.fault_places.specs.PhaseSpots.{AreSteps}
use Rattle.phase_rows.proofs.CellLaws.{lines_named, ports_apart}
use Rattle.phase_rows.proofs.ObservedLaws.{marked_within}
use Rattle.phase_rows.specs.Observing.{IsSearched, IsSeen}
use Rattle.vrt_model.proofs.Members.{all_among, all_by, at_none}
use Rattle.vrt_model.proofs.Networks.{flat_ranges}
use Rattle.vrt_model.specs.Circuits.{IsNet}
use Rattle.vrt_model.specs.Comparison.{Comparison, cell_at, phase_at}
use Rattle.vrt_model.specs.Known.{IsRanking}
use Rattle.vrt_model.specs.Lists.{At, Among, mark_at}
use Rattle.vrt_model.specs.Places.{named_nets_from}
use Rattle.vrt_model.specs.declared.circuit.Circuit.{Circuit}
use Rattle.vrt_model.specs.declared.circuit.FlatInstance.{FlatInstance}
use Rattle.vrt_model.specs.declared.design.Design.{Design}
use Rattle.vrt_model.specs.declared.ids.Net.{Net}
use Rattle.vrt_model.specs.declared.rules.Phase.{Phase}
use Rattle.vrt_model.specs.declared.rules.Rules.{Rules}

-- ---- instances

-- where the nets of all ports are marked, those of the named ones are
named_marked : (marks : List Bool) (named : List ℕ → Bool) (names : List (List ℕ)) (nets : List Net) → All (λ (net : Net). mark_at marks net.0 ≡ true) nets
    → (n : ℕ) → Among (named_nets_from named names nets) n → mark_at marks n ≡ true
named_marked marks named [] nets all n m = absurd (at_none m.0 n m.1)
named_marked marks named (name ∷ names) [] all n m = absurd (at_none m.0 n m.1)
named_marked marks named (name ∷ names) (net ∷ nets) all n m =
    by_test (named name) (named_marked marks named names nets (All-tail (λ (x : Net). mark_at marks x.0 ≡ true) net nets all) n) m
  where
    by_test : (b : Bool) → (Among (named_nets_from named names nets) n → mark_at marks n ≡ true)
        → Among (cond b (net.0 ∷ named_nets_from named names nets) (named_nets_from named names nets)) n → mark_at marks n ≡ true
    by_test false later there = later there
    by_test true later (zero, e) = subst (λ (k : ℕ). mark_at marks k ≡ true) (same_Some net.0 n e) (All-head (λ (x : Net). mark_at marks x.0 ≡ true) net nets all)
    by_test true later (suc i, e) = later (i, e)

module _ (design : Design) (rules : Rules) (c : Circuit) (phase : Phase) (number : ℕ) (marks : List Bool) (is : IsSearched design rules c phase number marks) where
  seen_of : (i : FlatInstance) → Among c.instances i → IsSeen design marks i
  seen_of i m = all_among (IsSeen design marks) c.instances i is.observing.seen m

  nets_of : (i : FlatInstance) → Among c.instances i → All (IsNet c) i.ports
  nets_of i m =
      all_by (IsNet c) i.ports
      (λ net there.
      let seen = seen_of i m in
      let below = marked_within marks net.0 (all_among (λ (x : Net). mark_at marks x.0 ≡ true) i.ports net seen.marked there) in
      omega (arith, below, is.observing.len))

  -- ---- steps

  -- a comparison of the circuit, with no model
  abbrev compared : Comparison
  compared = record {
    design = design;
    rules = rules;
    cell = 0;
    pairing = record { model = 0; ports = []; clocked = [] };
    circuit = c;
    model = record { signals = []; inputs = []; clocks = []; outputs = []; covers = []; latches = []; dontcares = [] };
    groups = [];
  }

  -- the parts are those of the phase by its number
  pub parts_there : (bare : Bool) (parts : Parts) → IsPartList c phase bare parts → IsPartList c (phase_at rules number) bare parts
  parts_there bare parts list = subst (λ (p : Phase). IsPartList c p bare parts) is.phase_is list

  module _ (parts : Parts) (steps : List CircuitStep) where
    abbrev w : InPhase
    w = in_comparison compared number parts steps (mark_at marks)

    ready : (i : FlatInstance) → Among c.instances i → IsReadyInstance w i
    ready i m =
        let seen = seen_of i m in
        record {
          rules = is.ruled;
          apart = ports_apart design i.cell is.netlist seen.cell;
          named = lines_named design rules i.cell is.netlist is.ordered seen.cell;
          ports = seen.ports;
          nets = nets_of i m;
          seen = named_marked marks (is_named_port design rules number i) (cell_at design i.cell).ports i.ports seen.marked;
        }

    pub instances_ready : All (IsReadyInstance w) c.instances
    instances_ready = all_by (IsReadyInstance w) c.instances ready

    pub steps_ordered : IsPartList c phase true parts → (listed : List CircuitStep) → steps ≡ listed
        → ((k : Comparison) (rank : ℕ → ℕ) → k.design ≡ design → k.rules ≡ rules → k.circuit ≡ c → AreParts k.circuit (phase_at k.rules number) true rank parts
        → IsRanking k.circuit (phase_at k.rules number) rank → AreSteps k number rank (map (step_of parts.list) listed))
        → ((j : ℕ) (step : CircuitStep) → At listed j step → IsStepThere parts.list c step) → AreOrderedSteps w
    steps_ordered list listed same sorted there =
        let here = parts_there true parts list in
        ordered_steps compared number here.0 parts steps (mark_at marks) (flat_ranges compared.circuit is.flat) here.1 here.2
        (subst (λ (xs : List CircuitStep). (j : ℕ) (step : CircuitStep) → At xs j step → IsStepThere parts.list c step) (sym same) there)
        (subst (λ (xs : List CircuitStep). AreSteps compared number here.0 (map (step_of parts.list) xs)) (sym same) (sorted compared here.0 refl refl refl here.1 here.2))
