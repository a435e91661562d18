-- Firm ground goes down the chain to the flat circuit.
use Rattle.std.proofs.Common.{◌≡◌, ◌↔◌, ℕ, zero, suc, ◌<◌, Bool, true, List, [], length, map, refl, ap, sym, ◌∙◌, subst, arith, inl, inr}
use Rattle.std.proofs.lemmas.Bool.{cases_Bool}
use Rattle.checked_chain.proofs.AcyclicLaws.{no_place}
use Rattle.checked_chain.proofs.EndLaws.{chain_begins_flat}
use Rattle.checked_chain.proofs.StepLaws.{none_more_is_same}
use Rattle.checked_chain.proofs.ThereLaws.{chain_is_there}
use Rattle.firm_faults.proofs.SamePlaces.{own_place, same_on}
use Rattle.firm_faults.proofs.StepLaws.{firm_ground_goes_down}
use Rattle.firm_faults.specs.FirmGround.{IsFoundByRank, IsOnFirmGround}
use Rattle.firm_faults.specs.StepDown.{IsCellRanked, IsSamePlaceIn}
use Rattle.known_nets.specs.Wired.{IsWired}
use Rattle.placed_cells.specs.Above.{net_above}
use Rattle.replaced_instances.specs.Steps.{compared_at, compared_at_step, drive_at, exposed_at, fresh_place, is_outside_at}
use Rattle.substitution_laws.proofs.ChainLaws.{is_itself, step_at}
use Rattle.substitution_laws.proofs.FormedCells.{formed_cell}
use Rattle.substitution_laws.proofs.LogicCells.{logic_cell}
use Rattle.substitution_laws.proofs.StepDownLaws.{steps_go_down}
use Rattle.substitution_laws.proofs.ToldLaws.{cell_wired}
use Rattle.substitution_laws.specs.Agreement.{IsCheckedByFacts}
use Rattle.substitution_laws.specs.FirmDown.{FirmGroundReachesFlat}
use Rattle.substitution_laws.specs.StepDowns.{whole_instances}
use Rattle.substitution_laws.specs.Steps.{IsStepOf}
use Rattle.told_circuits.proofs.ToldLaws.{known_nets_have_test, parts_have_test}
use Rattle.vrt_model.proofs.Filtered.{device_among}
use Rattle.vrt_model.specs.Checked.{IsCircuitWith, before, with_circuit}
use Rattle.vrt_model.specs.Comparison.{Comparison, is_observed, phase_at}
use Rattle.vrt_model.specs.Cut.{Cut, NumberedPlace}
use Rattle.vrt_model.specs.FlatCircuit.{flat_instance}
use Rattle.vrt_model.specs.Known.{IsKnown, IsTogether}
use Rattle.vrt_model.specs.Reading.{bare}
use Rattle.vrt_model.specs.State.{Setting}
use Rattle.vrt_model.specs.Unrolled.{Place, Top, all_places}
use Rattle.vrt_model.specs.declared.blif.Blif.{Blif}
use Rattle.vrt_model.specs.declared.circuit.Circuit.{Circuit}
use Rattle.vrt_model.specs.declared.circuit.FlatInstance.{FlatInstance}
use Rattle.vrt_model.specs.declared.verdict.FaultKind.{FaultKind}
use Rattle.vrt_model.specs.declared.whole.CellFacts.{CellFacts}
use Rattle.whole_ranks.proofs.RankLaws.{acyclic_nets_have_ranks}
use Rattle.whole_solutions.proofs.ObservedCases.{gate_observed}

module _ (k : Comparison) (cut : Cut) (blif : Blif) (facts : List CellFacts) (c : Circuit) (h : IsCheckedByFacts k cut blif facts c)
    (phase : ℕ) (lt : phase < length cut.top.rules.phases) (setting : Setting) (kind : FaultKind) (ok : IsFoundByRank kind) where
  abbrev t : Top
  t = cut.top

  -- the cell of a step has ranks
  module _ (i : ℕ) (p : NumberedPlace) (m depth : ℕ) (front back : List Place) (d e : Circuit) (s : IsStepOf k cut blif facts i p m depth front back d e) where
    abbrev q : Comparison
    q = compared_at t blif p m

    wired : IsWired q.circuit
    wired = cell_wired cut blif facts p.at.cell m h.choice s.step.supported

    known : (known : ℕ → Bool) × ((n : ℕ) → (known n ≡ true) ↔ ((v : Bool) × IsKnown q.circuit (phase_at t.rules phase) n v))
    known = known_nets_have_test q.circuit (phase_at t.rules phase) wired

    together : (test : ℕ → ℕ → Bool) × ((n l : ℕ) → (test n l ≡ true) ↔ IsTogether q.circuit (phase_at t.rules phase) bare n l)
    together = parts_have_test q.circuit (phase_at t.rules phase) bare wired

    rank_is : (rank : ℕ → ℕ) × IsCellRanked q.circuit (phase_at t.rules phase) (is_observed q phase) known.0 together.0 rank
    rank_is =
        let cell = logic_cell cut blif facts i p m s.step.chosen s.step.supported (formed_cell cut blif facts p.at.cell m s.step.choice s.step.supported) phase lt in
        let ranks = acyclic_nets_have_ranks q.circuit (phase_at t.rules phase) wired (s.step.supported.acyclic phase lt).0 in (
          ranks.0,
          record {
            ranges = cell.ranges;
            gates = λ g on. gate_observed q phase g.gate.0 (g, (device_among true q.circuit g on).0, refl);
            known_nets = known.1;
            parts = together.1;
            ranking = ranks.1;
          },
        )

    pub step_down : (n : ℕ) → IsOnFirmGround (with_circuit k e) (whole_instances (before cut (suc i))) phase setting kind n
        → (l : ℕ) × IsSamePlaceIn e d kind n l × IsOnFirmGround (with_circuit k d) (whole_instances (before cut i)) phase setting kind l
    step_down n ground =
        let down = steps_go_down k cut blif facts i p m depth front back d e phase setting lt s in
        let ranked = subst (λ (u : Top). IsCellRanked q.circuit (phase_at u.rules phase) (is_observed q phase) known.0 together.0 rank_is.0) s.first.top rank_is.1 in
        firm_ground_goes_down (with_circuit k d) phase setting q.circuit e (net_above t p.at) (λ j. j) (fresh_place (before cut i) blif facts q) (is_outside_at t depth p.at)
        (compared_at_step cut blif facts i p q) (is_observed q phase) (exposed_at cut blif facts i p q) known.0 together.0 (drive_at facts p q) rank_is.0 down.0 (flat_instance p.at) (whole_instances (before cut i)) (whole_instances (before cut (suc i)))
        kind n down.1 down.2 ranked ground

  pub down_at : (n : ℕ) (d : Circuit) (l : ℕ) → n < length (all_places t) → IsCircuitWith (before cut n) blif facts d → IsOnFirmGround (with_circuit k d) (whole_instances (before cut n)) phase setting kind l
      → (m : ℕ) × IsSamePlaceIn d k.circuit kind l m × IsOnFirmGround k [] phase setting kind m
  down_at zero d l low circuit ground =
      let same = (chain_begins_flat cut blif facts d).0 circuit ∙ sym h.flat in
      let flat_ground =
      subst (λ (own : List FlatInstance). IsOnFirmGround (with_circuit k d) own phase setting kind l) (ap (map (λ (p : NumberedPlace). flat_instance p.at)) (no_place cut)) ground in
      subst (λ (x : Comparison). (m : ℕ) × IsSamePlaceIn d x.circuit kind l m × IsOnFirmGround x [] phase setting kind m) (sym (is_itself k cut blif facts c h d same))
      (l, own_place (with_circuit k d) [] phase setting kind l ok flat_ground, flat_ground)
  down_at (suc i) d l low circuit ground =
      elim (cases_Bool (cut.choice i)) [
        | inr not_chosen ↦ down_at i d l (omega (arith, low)) (subst (λ (x : Cut). IsCircuitWith x blif facts d) (none_more_is_same cut i not_chosen) circuit)
            (subst (λ (x : Cut). IsOnFirmGround (with_circuit k d) (whole_instances x) phase setting kind l) (none_more_is_same cut i not_chosen) ground)
        | inl chosen ↦
            let there = chain_is_there cut blif facts c i h.circuit in
            let s = step_at k cut blif facts c h i there.0 d low chosen there.1 circuit in
            let one = step_down i s.0 s.1 s.2 s.3 s.4 there.0 d s.5 l ground in
            let rest = down_at i there.0 one.0 (omega (arith, low)) there.1 one.2 in
            (rest.0, same_on d there.0 k.circuit kind l one.0 rest.0 ok one.1 rest.1, rest.2)
      ]

pub firm_ground_reaches_flat : FirmGroundReachesFlat
firm_ground_reaches_flat k cut blif facts c n d phase setting kind at h low circuit lt ok ground = down_at k cut blif facts c h phase lt setting kind ok n d at low circuit ground
