-- What nets ought to have in a phase: what the search asks, and what it finds.
use Rattle.std.proofs.Common.{◌≡◌, ℕ, ◌+◌, ◌<◌, Bool, true, List, Option, Some, None, All, length, map, arith, ap, refl, subst, sym, ◌∙◌}
use Rattle.std.specs.Prelude.{◌-◌, IsSome, slice_index}
use Rattle.bdd_core.specs.Diagram.{IsReduced, meaning}
use Rattle.bdd_core.specs.Store.{Diagrams}
use Rattle.bdd_core.specs.Words.{IsFilled}
use Rattle.bdd_core.specs.declared.handle.H.{H}
use Rattle.bdd_ops.specs.Ops.{bits_of}
use Rattle.fault_places.proofs.SearchLaws.{clear_stages, later_stage}
use Rattle.fault_places.specs.Searches.{Case, IsFoundIn, Spot, StandsIn}
use Rattle.phase_check.proofs.Cases.{phase_fault}
use Rattle.phase_laws.proofs.EqualPhase.{equal_phase}
use Rattle.phase_laws.proofs.Work.{filled_within}
use Rattle.phase_check.proofs.Spans.{gates_span, values_span}
use Rattle.phase_laws.specs.Models.{HasOneModel}
use Rattle.phase_check.specs.States.{HasModelBits, HasNetBits, IsClearAt, circuit_spots, handles_of}
use Rattle.phase_terms.specs.Found.{IsPhaseFault, at_bits, met}
use Rattle.phase_terms.specs.Opened.{IsOpen}
use Rattle.phase_terms.specs.Plans.{IsFreeThere, IsPhasePlan, IsWantedThere, IsWishThere, planned_spots, step_spots}
use Rattle.phase_terms.specs.Ready.{IsReady}
use Rattle.phase_terms.specs.Stores.{HasPhaseWords, IsPhaseStore, IsUsed, counts_of}
use Rattle.phase_terms.specs.declared.plan.PhasePlan.{PhasePlan}
use Rattle.phase_terms.specs.declared.words.PhaseWords.{PhaseWords}
use Rattle.phase_wishes.proofs.FoundLaws.{asked_cared}
use Rattle.phase_wishes.proofs.WishLaws.{missed_stands, wish_printed, wishes_once}
use Rattle.phase_wishes.specs.Missed.{AreBits, AreWithin, IsFirstMissed, IsFoundWish, IsFreeInside, IsInside, IsWithinBits, WishCase, WishesFind}
use Rattle.phase_wishes.specs.Wishes.{spot_of, wished_kinds}
use Rattle.phase_wishes.specs.declared.missed.WishFault.{WishFault}
use Rattle.phase_wishes.specs.declared.wishes.Wanted.{Wanted}
use Rattle.phase_wishes.specs.declared.wishes.Wanted.TheVariants.{Signal, Element, Other, Constant}
use Rattle.phase_wishes.specs.declared.wishes.WishBits.{WishBits}
use Rattle.std.proofs.lemmas.List.{append_assoc}
use Rattle.vrt_model.proofs.Members.{all_among, all_by}
use Rattle.vrt_model.specs.Comparison.{Comparison}
use Rattle.vrt_model.specs.Constraints.{Meets}
use Rattle.vrt_model.specs.Equal.{IsPhaseEqual}
use Rattle.vrt_model.specs.Held.{setting_of}
use Rattle.circuit_faults.specs.KeptFaults.{kept_spots}

module _ (k : Comparison) (phase : ℕ) (plan : PhasePlan) (ready : IsReady k) (is : IsPhasePlan k phase plan) (w : PhaseWords) (old : Diagrams) (h : HasPhaseWords (counts_of k old.vars) w old) where
  abbrev b : WishBits
  b = handles_of w

  -- ---- what is asked

  pub bits_there : IsFilled old w.gates → IsFilled old w.values → AreBits old b
  bits_there gates values = record {
    gates_span = gates_span (counts_of k old.vars) w old h;
    gates_live = gates;
    values_span = (let s = values_span (counts_of k old.vars) w old h in (s.0, (let end = s.1 in omega (arith, end, h.values_len, h.inputs_len))));
    values_live = λ n lt. values n (omega (arith, lt, h.values_len, h.inputs_len));
    next_span = (
        let s = values_span (counts_of k old.vars) w old h in
        ((let first = s.0 in omega (arith, first)), (let end = s.1 in omega (arith, end, h.values_len, h.inputs_len, h.held_len)))
        );
    next_live = λ n lt.
        subst (λ (i : ℕ). slice_index old.words i < length old.nodes) (sym (behind n)) (values (w.inputs.len - 1 + n) (omega (arith, lt, h.values_len, h.inputs_len, h.held_len)));
  }
    where
      behind : (n : ℕ) → w.values.start + (w.inputs.len - 1) + n ≡ w.values.start + (w.inputs.len - 1 + n)
      behind n = omega arith

  inside_of : (wanted : Wanted) → IsWantedThere k wanted → IsInside b wanted
  inside_of (Signal signal) lt = omega (arith, lt, h.inputs_len)
  inside_of (Element element inverted) lt = omega (arith, lt, h.held_len)
  inside_of (Other net inverted) lt = omega (arith, lt, h.gates_len)
  inside_of (Constant v) lt = tt

  free_inside : (free : Option ℕ) → IsFreeThere k free → IsFreeInside b free
  free_inside None lt = tt
  free_inside (Some bit) lt = omega (arith, lt, h.inputs_len)

  pub wishes_inside : All (IsWithinBits b) plan.wishes
  wishes_inside = all_by (IsWithinBits b) plan.wishes (λ wish m.
      let there = all_among (IsWishThere k phase) plan.wishes wish is.there m in
      ((let lt = there.net in omega (arith, lt, h.gates_len)), inside_of wish.wanted there.wanted, free_inside wish.free there.free))

  pub wishes_within : (budget u a : ℕ) → IsUsed budget u a old → IsReduced old.vars old.nodes → IsFilled old w.gates → IsFilled old w.values → AreWithin u old b
  wishes_within budget u a used sound gates values =
      let are = bits_there gates values in (
        filled_within budget u a old w.gates used sound are.gates_live,
        filled_within budget u a old (handles_of w).values used sound are.values_live,
        filled_within budget u a old (handles_of w).next used sound are.next_live,
      )

  -- ---- what is found

  module _ (care : H) (o : IsOpen k phase care w old) (nets : HasNetBits k phase w old) (model : HasModelBits k phase w old) where
    -- at a valuation that meets the constraints the solution and the assignment have the bits of the handles
    to : (v : Case k phase) → met k phase v.bits ≡ true → WishCase plan.wishes b old
    to v m = record {
      valuation = bits_of v.bits;
      solution = v.solution;
      assignment = v.assignment;
      nets = λ wish n among of. nets.bits v.bits v.solution m v.solves n ((all_among (IsWishThere k phase) plan.wishes wish is.there among).seen n of);
      signals = λ s lt. (model.bits v.bits v.assignment v.assigns).signal s (omega (arith, lt, h.inputs_len));
      elements = λ e lt.
          (model.bits v.bits v.assignment v.assigns).next e (omega (arith, lt, h.held_len))
          ∙ ap (λ (i : ℕ). meaning old.nodes (slice_index old.words i) (bits_of v.bits)) (behind e);
    }
      where
        behind : (e : ℕ) → w.values.start + (length k.model.signals + e) ≡ w.values.start + (w.inputs.len - 1) + e
        behind e = omega (arith, h.inputs_len)

    pub wishes_clear : WishesFind plan.wishes care b old old None → IsClearAt k phase (map spot_of plan.wishes)
    unfolding to
    wishes_clear clear i y v here m stands =
        clear i y (to v m) here (o.care_is v.bits ∙ m)
        ((missed_stands k phase plan.wishes is.wishes (setting_of k phase v.bits) v.solution v.assignment y (i, here)).1 stands)

    -- where no wish is missed, the phase is equal
    pub wish_equal : (range : phase < length k.rules.phases) (one : HasOneModel k phase) → WishesFind plan.wishes care b old old None → IsClearAt k phase (circuit_spots k plan)
        → (bits : List Bool) × Meets k phase bits → IsPhaseEqual k phase
    wish_equal range one none clear meets =
        equal_phase k phase plan ready range is one
        (subst (IsClearAt k phase) (append_assoc (step_spots plan) (kept_spots k.circuit) (map spot_of plan.wishes))
        (clear_stages (Case k phase) (StandsIn k phase) (λ (v : Case k phase). met k phase v.bits) (circuit_spots k plan) (map spot_of plan.wishes) clear (wishes_clear none)))
        (λ bits a n m solves seen. subst IsSome (sym (nets.bits bits a m solves n seen)) refl) meets

    module _ (new : Diagrams) (fault : WishFault) (first : IsFirstMissed plan.wishes care b fault old new) (has : IsFoundWish plan.wishes care b fault old new) where
      met_there : (v : Case k phase) → at_bits new fault.at v.bits ≡ true → met k phase v.bits ≡ true
      met_there v e = sym (o.care_is v.bits) ∙ asked_cared old care b fault.wish.free (bits_of v.bits) ((first.exact (bits_of v.bits)).0 e).0

      here_found : IsFoundIn (StandsIn k phase) (λ (v : Case k phase). met k phase v.bits) (λ (v : Case k phase). at_bits new fault.at v.bits) (map spot_of plan.wishes) (spot_of fault.wish)
      unfolding to
      here_found =
          let found = has.found (wishes_once wished_kinds k phase plan.wishes is.wishes) in
          record {
            place = found.place;
            stands = found.stands;
            exact = λ v.
                let both = missed_stands k phase plan.wishes is.wishes (setting_of k phase v.bits) v.solution v.assignment (spot_of fault.wish) (found.place, found.stands) in (
                  λ e. (met_there v e, both.0 ((found.exact (to v (met_there v e))).0 e).1),
                  λ p. (found.exact (to v p.0)).1 (o.care_is v.bits ∙ p.0, both.1 p.1),
                );
            before = λ i y v lt here m stands.
                found.before i y (to v m) lt here (o.care_is v.bits ∙ m)
                ((missed_stands k phase plan.wishes is.wishes (setting_of k phase v.bits) v.solution v.assignment y (i, here)).1 stands);
          }

      all_found : IsClearAt k phase (circuit_spots k plan)
          → IsFoundIn (StandsIn k phase) (λ (v : Case k phase). met k phase v.bits) (λ (v : Case k phase). at_bits new fault.at v.bits) (planned_spots k plan) (spot_of fault.wish)
      all_found clear =
          subst (λ (spots : List Spot). IsFoundIn (StandsIn k phase) (λ (v : Case k phase). met k phase v.bits) (λ (v : Case k phase). at_bits new fault.at v.bits) spots (spot_of fault.wish))
          (append_assoc (step_spots plan) (kept_spots k.circuit) (map spot_of plan.wishes))
          (later_stage (Case k phase) (StandsIn k phase) (λ (v : Case k phase). met k phase v.bits) (λ (v : Case k phase). at_bits new fault.at v.bits)
          (circuit_spots k plan) (map spot_of plan.wishes) (spot_of fault.wish) clear here_found)

      pub wish_phase_fault : (range : phase < length k.rules.phases) (one : HasOneModel k phase) (budget a : ℕ) → IsPhaseStore k phase budget a w new → IsReduced new.vars new.nodes
          → IsClearAt k phase (circuit_spots k plan)
          → IsPhaseFault k phase (record { kind = fault.wish.kind; place = fault.wish.place; at = fault.at; values = Some (fault.circuit, fault.wanted); least = w.least }) new
      unfolding to
      wish_phase_fault range one budget a store sound clear =
          phase_fault k phase plan ready range is one
          (record { kind = fault.wish.kind; place = fault.wish.place; at = fault.at; values = Some (fault.circuit, fault.wanted); least = w.least }) budget a w new
          store sound refl first.live first.some (first.circuit.live, first.wanted.live) (all_found clear)
          (λ v e.
          wish_printed k phase plan.wishes is.wishes (setting_of k phase v.bits) v.solution v.assignment fault.wish
          (Some (at_bits new fault.circuit v.bits)) (Some (at_bits new fault.wanted v.bits)) has.among (has.asked (to v (met_there v e)) e)
          (has.has (to v (met_there v e))) (has.ought (to v (met_there v e))))
