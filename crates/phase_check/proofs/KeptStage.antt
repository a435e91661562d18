-- The kept circuit of a phase: what its search asks, and what it finds.
use Rattle.std.proofs.Common.{◌≡◌, ℕ, ◌<◌, ◌⊎◌, true, [], ◌∷◌, ◌++◌, Option, Some, None, length, arith, ap, refl, subst, sym, inl, inr}
use Rattle.std.specs.Prelude.{◌↔◌, map}
use Rattle.std.specs.List.{range_with_len}
use Rattle.std.proofs.lemmas.List.FromFn.{length-range_with_len}
use Rattle.std.proofs.lemmas.Option.{slice_get_within}
use Rattle.bdd_core.specs.Diagram.{IsReduced}
use Rattle.bdd_core.specs.Store.{Diagrams, function_of}
use Rattle.bdd_core.specs.Words.{IsFilled, shows, word_at}
use Rattle.bdd_core.specs.declared.handle.H.{H}
use Rattle.bdd_ops.specs.Ops.{bits_of}
use Rattle.circuit_faults.proofs.KeptSpots.{spot_place}
use Rattle.circuit_faults.specs.Faults.{SolvedCase}
use Rattle.circuit_faults.specs.KeptFaults.{HasKeptFault, StandsKept, kept_spots}
use Rattle.circuit_faults.specs.KeptResults.{HasKeptSpans, IsFirstKept}
use Rattle.circuit_faults.specs.Results.{root_at}
use Rattle.circuit_faults.specs.declared.kept_net.KeptFault.{KeptFault}
use Rattle.circuit_faults.specs.declared.spans.KeptSpans.{KeptSpans}
use Rattle.fault_places.proofs.CountedSites.{number_at}
use Rattle.fault_places.proofs.SearchLaws.{earlier_stage, later_stage}
use Rattle.fault_places.specs.PhaseSpots.{spots_at}
use Rattle.fault_places.specs.Searches.{Case, IsClearOf, IsFoundIn, Spot, StandsIn}
use Rattle.phase_check.proofs.Cases.{clear_case, found_case, phase_fault, printed_without, solved_case}
use Rattle.phase_check.proofs.Spans.{gates_ones, gates_out, gates_span, gates_zeros, ones_out, ones_span, out_span, roots_ones, roots_out, roots_span, roots_zeros, zeros_ones, zeros_out, zeros_span}
use Rattle.phase_laws.proofs.Work.{kept_room}
use Rattle.phase_laws.specs.Models.{HasOneModel}
use Rattle.phase_check.specs.States.{AreKeptValues, HasNetBits, IsClearAt}
use Rattle.phase_terms.specs.Found.{AreValuesLive, IsPhaseFault, at_bits, circuit_bit, met, wanted_bit}
use Rattle.phase_terms.specs.Opened.{IsOpen}
use Rattle.phase_terms.specs.Plans.{IsPhasePlan, planned_spots, step_spots}
use Rattle.phase_terms.specs.Ready.{IsReady}
use Rattle.phase_terms.specs.Stores.{HasPhaseWords, IsPhaseStore, counts_of}
use Rattle.phase_terms.specs.declared.plan.PhasePlan.{PhasePlan}
use Rattle.phase_terms.specs.declared.words.PhaseWords.{PhaseWords}
use Rattle.phase_wishes.specs.Wishes.{spot_of}
use Rattle.vrt_model.proofs.Members.{among_flat_map, among_map}
use Rattle.vrt_model.specs.Comparison.{Comparison, is_observed, phase_at}
use Rattle.vrt_model.specs.Faults.{IsPrintedWith, Stands}
use Rattle.vrt_model.specs.Held.{setting_of}
use Rattle.vrt_model.specs.Lists.{Among}
use Rattle.vrt_model.specs.declared.circuit.Circuit.{Circuit}
use Rattle.vrt_model.specs.declared.verdict.FaultKind.{FaultKind}
use Rattle.std.proofs.Math.Nat.{mul-le-mul_left}
use Rattle.path_fixpoint.specs.Strengths.{net_words}
use Rattle.vrt_model.specs.Levels.{source_level}
use Rattle.vrt_model.specs.declared.verdict.FaultKind.TheVariants.{FightKept, Unsettled}

abbrev pub kept_spans : PhaseWords → KeptSpans
kept_spans w = record { roots = w.roots; gates = w.gates; zeros = w.zeros; ones = w.ones; out = w.out }

abbrev kept_spot : KeptFault → Spot
kept_spot fault = record { kind = fault.kind; at = fault.net.0 }

-- the places of the kept circuit are at its nets
spot_below : (c : Circuit) (y : Spot) → Among (kept_spots c) y → y.at < length c.nets
spot_below c y m =
    let numbers = range_with_len 0 (length c.nets) in
    let from = among_flat_map (spots_at (FightKept ∷ Unsettled ∷ [])) numbers y m in
    let kind = among_map (λ (q : FaultKind). let x : Spot = record { kind = q; at = from.0 } in x) (FightKept ∷ Unsettled ∷ []) y from.2 in
    let here : from.0 ≡ y.at = ap (λ (x : Spot). x.at) kind.2 in
    let within = slice_get_within numbers from.1.0 from.0 from.1.1 in
    let size = length-range_with_len 0 (length c.nets) in
    let number = number_at (length c.nets) from.1.0 from.0 from.1.1 in
    omega (arith, here, within, size, number)

module _ (k : Comparison) (phase : ℕ) (plan : PhasePlan) (ready : IsReady k) (is : IsPhasePlan k phase plan) where
  -- ---- what is asked

  pub kept_there : (w : PhaseWords) (d : Diagrams) (care : H) → HasPhaseWords (counts_of k d.vars) w d → IsOpen k phase care w d → IsFilled d w.gates
      → HasKeptSpans k.circuit plan.kept.list (kept_spans w) d
  kept_there w d care h o gates = record {
    roots_span = roots_span (counts_of k d.vars) w d h;
    roots_len = (let len = h.roots_len in omega (arith, len));
    roots_live = o.roots.live;
    gates_span = gates_span (counts_of k d.vars) w d h;
    gates_len = h.gates_len;
    gates_live = gates;
    zeros_span = zeros_span (counts_of k d.vars) w d h;
    zeros_len = h.zeros_len;
    ones_span = ones_span (counts_of k d.vars) w d h;
    ones_len = h.ones_len;
    out_span = out_span (counts_of k d.vars) w d h;
    room = λ part m. (let few = mul-le-mul_left {m = length part.nets} {n = length k.circuit.nets} (net_words (source_level k.circuit)) (kept_room k phase plan ready is part m) in let len = h.out_len in omega (arith, few, len));
    roots_zeros = roots_zeros (counts_of k d.vars) w d h;
    roots_ones = roots_ones (counts_of k d.vars) w d h;
    roots_out = roots_out (counts_of k d.vars) w d h;
    gates_zeros = gates_zeros (counts_of k d.vars) w d h;
    gates_ones = gates_ones (counts_of k d.vars) w d h;
    gates_out = gates_out (counts_of k d.vars) w d h;
    zeros_ones = zeros_ones (counts_of k d.vars) w d h;
    zeros_out = zeros_out (counts_of k d.vars) w d h;
    ones_out = ones_out (counts_of k d.vars) w d h;
  }

  -- ---- what is found

  abbrev c : Circuit
  c = k.circuit

  -- the faults at the places of the kept circuit are those of the comparison
  same_kind : (v : Case k phase) (kind : FaultKind) (n : ℕ) → (kind ≡ FightKept) ⊎ (kind ≡ Unsettled)
      → HasKeptFault c (phase_at k.rules phase) (is_observed k phase) (setting_of k phase v.bits) v.solution kind n ↔ Stands k phase (setting_of k phase v.bits) v.solution v.assignment kind n
  same_kind v kind n h =
      elim h [
        | inl e ↦ subst (λ (q : FaultKind). HasKeptFault c (phase_at k.rules phase) (is_observed k phase) (setting_of k phase v.bits) v.solution q n ↔ Stands k phase (setting_of k phase v.bits) v.solution v.assignment q n) (sym e) (λ f. f, λ f. f)
        | inr e ↦ subst (λ (q : FaultKind). HasKeptFault c (phase_at k.rules phase) (is_observed k phase) (setting_of k phase v.bits) v.solution q n ↔ Stands k phase (setting_of k phase v.bits) v.solution v.assignment q n) (sym e) (λ f. f, λ f. f)
      ]

  kept_kinds : (y : Spot) → Among (kept_spots c) y → (y.kind ≡ FightKept) ⊎ (y.kind ≡ Unsettled)
  kept_kinds y m = elim (spot_place c m.0 y m.1) [ inl p ↦ inl p.1 | inr p ↦ inr p.1 ]

  module _ (care : H) (w : PhaseWords) (old : Diagrams) (o : IsOpen k phase care w old) where
    abbrev Solved : Type 0
    Solved = SolvedCase c (phase_at k.rules phase) (is_observed k phase) (root_at old w.roots)

    abbrev to : Case k phase → Solved
    to v = solved_case k phase w old o.roots v

    same_fault : (y : Spot) (v : Case k phase) → Among (kept_spots c) y → StandsKept c (phase_at k.rules phase) (is_observed k phase) (root_at old w.roots) y (to v) ↔ StandsIn k phase y v
    same_fault y v m = same_kind v y.kind y.at (kept_kinds y m)

    pub kept_clear : IsClearOf (StandsKept c (phase_at k.rules phase) (is_observed k phase) (root_at old w.roots)) (λ (v : Solved). function_of old care v.valuation) (kept_spots c)
        → IsClearAt k phase (kept_spots c)
    kept_clear clear =
        clear_case k phase Solved (StandsKept c (phase_at k.rules phase) (is_observed k phase) (root_at old w.roots)) (λ (v : Solved). function_of old care v.valuation) (kept_spots c) to same_fault
        (λ v. o.care_is v.bits) clear

    module _ (new : Diagrams) (fault : KeptFault) (first : IsFirstKept c (phase_at k.rules phase) (is_observed k phase) care w.roots fault old new) where
      here_found : IsFoundIn (StandsIn k phase) (λ (v : Case k phase). met k phase v.bits) (λ (v : Case k phase). at_bits new fault.at v.bits) (kept_spots c) (kept_spot fault)
      here_found =
          found_case k phase Solved (StandsKept c (phase_at k.rules phase) (is_observed k phase) (root_at old w.roots)) (λ (v : Solved). function_of old care v.valuation) (kept_spots c) to same_fault
          (λ v. o.care_is v.bits) (λ (v : Solved). function_of new fault.at v.valuation) (kept_spot fault) first.found

      all_found : IsClearAt k phase (step_spots plan)
          → IsFoundIn (StandsIn k phase) (λ (v : Case k phase). met k phase v.bits) (λ (v : Case k phase). at_bits new fault.at v.bits) (planned_spots k plan) (kept_spot fault)
      all_found clear =
          later_stage (Case k phase) (StandsIn k phase) (λ (v : Case k phase). met k phase v.bits) (λ (v : Case k phase). at_bits new fault.at v.bits)
          (step_spots plan) (kept_spots c ++ map spot_of plan.wishes) (kept_spot fault) clear
          (earlier_stage (Case k phase) (StandsIn k phase) (λ (v : Case k phase). met k phase v.bits) (λ (v : Case k phase). at_bits new fault.at v.bits)
          (kept_spots c) (map spot_of plan.wishes) (kept_spot fault) here_found)

      -- the net is one of the circuit
      pub fault_below : fault.net.0 < length c.nets
      fault_below = spot_below c (kept_spot fault) (first.found.place, first.found.stands)

      -- ---- its values

      Printed : Option (H × H) → Case k phase → Type 0
      Printed values v = IsPrintedWith k phase (setting_of k phase v.bits) v.solution v.assignment fault.kind fault.net.0 (circuit_bit new values v.bits) (wanted_bit new values v.bits)

      gate : H
      gate = record { 0 = word_at new w.gates fault.net.0 }

      module _ (nets : HasNetBits k phase w new) (len : w.gates.len ≡ length c.nets) where
        -- where a bit is lost the net is observed, so it has the bit of its handle
        lost_bit : fault.kind ≡ Unsettled → (v : Case k phase) → at_bits new fault.at v.bits ≡ true → v.solution fault.net.0 ≡ Some (shows new w.gates fault.net.0 (bits_of v.bits))
        lost_bit kind v e =
            let h = (here_found.exact v).0 e in
            let lost = subst (λ (q : FaultKind). Stands k phase (setting_of k phase v.bits) v.solution v.assignment q fault.net.0) kind h.1 in
            nets.bits v.bits v.solution h.0 v.solves fault.net.0 lost.0

        lost_printed : fault.kind ≡ Unsettled → (v : Case k phase) → at_bits new fault.at v.bits ≡ true → Printed (Some (fault.value, gate)) v
        unfolding Printed gate
        lost_printed kind v e =
            subst (λ (q : FaultKind). IsPrintedWith k phase (setting_of k phase v.bits) v.solution v.assignment q fault.net.0
            (Some (at_bits new fault.value v.bits)) (Some (shows new w.gates fault.net.0 (bits_of v.bits)))) (sym kind)
            (inl (fault.net.0, (refl, sym (lost_bit kind v e)), (at_bits new fault.value v.bits, refl, first.keeps kind (to v) e)))

        fight_printed : fault.kind ≡ FightKept → (v : Case k phase) → Printed None v
        unfolding Printed
        fight_printed kind v = printed_without k phase (setting_of k phase v.bits) v.solution v.assignment fault.kind fault.net.0 (inr kind)

        printed : (values : Option (H × H)) → AreKeptValues fault w.gates new values → (v : Case k phase) → at_bits new fault.at v.bits ≡ true → Printed values v
        unfolding gate
        printed values are v e = elim first.kinds [
          | inl kind ↦ subst (λ (o : Option (H × H)). Printed o v) (sym (are.fight kind)) (fight_printed kind v)
          | inr kind ↦ subst (λ (o : Option (H × H)). Printed o v) (sym (are.lost kind)) (lost_printed kind v e)
        ]

        values_live : (values : Option (H × H)) → AreKeptValues fault w.gates new values → AreValuesLive new values
        values_live values are = elim first.kinds [
          | inl kind ↦ subst (AreValuesLive new) (sym (are.fight kind)) tt
          | inr kind ↦ subst (AreValuesLive new) (sym (are.lost kind)) (first.live.1, nets.live fault.net.0 (let lt = fault_below in omega (arith, lt, len)))
        ]

        pub kept_phase_fault : (range : phase < length k.rules.phases) (model : HasOneModel k phase) (budget a : ℕ) (values : Option (H × H)) → IsPhaseStore k phase budget a w new
            → IsReduced new.vars new.nodes → IsClearAt k phase (step_spots plan) → AreKeptValues fault w.gates new values
            → IsPhaseFault k phase (record { kind = fault.kind; place = fault.net.0; at = fault.at; values = values; least = w.least }) new
        unfolding Printed
        kept_phase_fault range model budget a values store sound clear are =
            phase_fault k phase plan ready range is model (record { kind = fault.kind; place = fault.net.0; at = fault.at; values = values; least = w.least }) budget a w new
            store sound refl first.live.0 first.some (values_live values are) (all_found clear) (λ v e. printed values are v e)
