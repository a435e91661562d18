-- Along the chain from the flat circuit to the checked one nothing is wrong in the one exactly where nothing is wrong in the other.
use Rattle.std.proofs.Common.{◌≡◌, ℕ, zero, suc, ◌+◌, ◌<◌, Bool, true, List, length, ap, sym, ◌∙◌, subst, arith, inl, inr}
use Rattle.std.proofs.lemmas.Bool.{cases_Bool}
use Rattle.channel_parts.specs.OneSolution.{AreDetermined}
use Rattle.checked_chain.proofs.EndLaws.{chain_begins_flat}
use Rattle.checked_chain.proofs.StepLaws.{none_more_is_same}
use Rattle.checked_chain.proofs.ThereLaws.{chain_is_there}
use Rattle.firm_faults.proofs.FirstFirm.{firm_first}
use Rattle.firm_faults.proofs.RankOrder.{rank_at, turn_low, turn_of}
use Rattle.firm_faults.proofs.SettledLaws.{firm_ground_stands}
use Rattle.firm_faults.specs.FirmGround.{IsFoundByRank, IsOrderedAt}
use Rattle.placed_cells.specs.Above.{net_above}
use Rattle.replaced_cells.proofs.AgreementLaws.{agreement_is_transitive, one_more_whole_agrees_by_faults}
use Rattle.replaced_cells.proofs.ChainLaws.{chain_keeps_valuations}
use Rattle.replaced_cells.proofs.States.{pins_plain}
use Rattle.replaced_cells.specs.Agreement.{AgreesWith, BareFaultsTell, HasBareFault}
use Rattle.replaced_instances.specs.Steps.{compared_at, compared_at_step, drive_at, exposed_at, fresh_place, is_outside_at}
use Rattle.substitution_laws.proofs.ChainLaws.{acyclic_at, always_solved, at_last, determined_at, is_itself, nets_observed, of_chain, ranges_at, step_at}
use Rattle.substitution_laws.proofs.FirmDownLaws.{step_down}
use Rattle.substitution_laws.proofs.OneMoreLaws.{one_more}
use Rattle.substitution_laws.proofs.OrderedLaws.{chain_circuits_are_ordered}
use Rattle.substitution_laws.proofs.ToldLaws.{chain_wired}
use Rattle.substitution_laws.specs.Agreement.{CheckedCircuitsAgree, IsCheckedByFacts}
use Rattle.substitution_laws.specs.StepDowns.{whole_instances}
use Rattle.substitution_laws.specs.Steps.{IsStepOf}
use Rattle.vrt_model.specs.Assignment.{Assignment}
use Rattle.vrt_model.specs.Checked.{IsCircuitWith, before, with_circuit}
use Rattle.vrt_model.specs.Comparison.{Comparison, is_observed, phase_at}
use Rattle.vrt_model.specs.Cut.{Cut, NumberedPlace}
use Rattle.vrt_model.specs.Equal.{Agree}
use Rattle.vrt_model.specs.Faults.{Solves, Stands}
use Rattle.vrt_model.specs.Held.{setting_of}
use Rattle.vrt_model.specs.Known.{IsRanking}
use Rattle.vrt_model.specs.Reading.{Partial}
use Rattle.vrt_model.specs.State.{Setting}
use Rattle.vrt_model.specs.Unrolled.{Place, Top, all_places}
use Rattle.vrt_model.specs.declared.blif.Blif.{Blif}
use Rattle.vrt_model.specs.declared.circuit.Circuit.{Circuit}
use Rattle.vrt_model.specs.declared.circuit.FlatInstance.{FlatInstance}
use Rattle.vrt_model.specs.declared.rules.Rules.{Rules}
use Rattle.vrt_model.specs.declared.verdict.FaultKind.{FaultKind}
use Rattle.vrt_model.specs.declared.verdict.FaultKind.TheVariants.{Fight, Float, Constraint}
use Rattle.vrt_model.specs.declared.whole.CellFacts.{CellFacts}
use Rattle.whole_ranks.proofs.DefinedLaws.{solutions_are_defined}
use Rattle.whole_ranks.proofs.RankLaws.{acyclic_nets_have_ranks}

module _ (k : Comparison) (cut : Cut) (blif : Blif) (facts : List CellFacts) (c : Circuit) (h : IsCheckedByFacts k cut blif facts c) where
  abbrev t : Top
  t = cut.top

  -- ---- one step

  module _ (i : ℕ) (d e : Circuit) (low : suc i < length (all_places t)) (chosen : cut.choice i ≡ true) (before_it : IsCircuitWith (before cut i) blif facts d)
      (after : IsCircuitWith (before cut (suc i)) blif facts e) where
    abbrev step : (p : NumberedPlace) × (m : ℕ) × (depth : ℕ) × (front : List Place) × (back : List Place) × IsStepOf k cut blif facts i p m depth front back d e
    step = step_at k cut blif facts c h i d e low chosen before_it after

    abbrev later : List FlatInstance
    later = whole_instances (before cut (suc i))

    -- ---- what the faults of the bare stage tell

    module _ (phase : ℕ) (lt : phase < length t.rules.phases) (setting : Setting) where
      rules_are : t.rules ≡ k.rules
      rules_are = ap (λ (u : Top). u.rules) h.top

      ranked : (rank : ℕ → ℕ) × IsRanking e (phase_at k.rules phase) rank
      ranked =
          let ranks = acyclic_nets_have_ranks e (phase_at t.rules phase) (chain_wired k cut blif facts c h (suc i) phase e after lt) (acyclic_at k cut blif facts c h (suc i) e after phase lt low) in
          (ranks.0, subst (λ (rules : Rules). IsRanking e (phase_at rules phase) ranks.0) rules_are ranks.1)

      e_determined : AreDetermined e (phase_at k.rules phase) (is_observed (with_circuit k e) phase)
      e_determined = subst (λ (rules : Rules). AreDetermined e (phase_at rules phase) (is_observed (with_circuit k e) phase)) rules_are (determined_at k cut blif facts c h (suc i) e after phase lt)

      d_determined : AreDetermined d (phase_at k.rules phase) (is_observed (with_circuit k d) phase)
      d_determined = subst (λ (rules : Rules). AreDetermined d (phase_at rules phase) (is_observed (with_circuit k d) phase)) rules_are (determined_at k cut blif facts c h i d before_it phase lt)

      ordered : (known : ℕ → Bool) × IsOrderedAt (with_circuit k e) later phase setting known
      ordered = chain_circuits_are_ordered k cut blif facts c (suc i) e phase setting h after lt

      -- where nothing is wrong with the cell in the circuit, no such fault stands, rank by rank
      none_stands : Agree (with_circuit k d) phase setting → (a : Partial) (g : Assignment) → Solves (with_circuit k e) phase setting a
          → (bound : ℕ) (kind : FaultKind) (at : ℕ) → IsFoundByRank kind
          → rank_at (with_circuit k e) phase ranked.0 kind at + rank_at (with_circuit k e) phase ranked.0 kind at + turn_of kind < bound
          → Stands (with_circuit k e) phase setting a g kind at → ⊥
      none_stands agree a g solves zero kind at ok less stands = absurd (omega (arith, less))
      none_stands agree a g solves (suc bound) kind at ok less stands =
          let ground =
          firm_first (with_circuit k e) later phase setting ordered.0 ordered.1 ranked.0 ranked.1 a g solves kind at
          (λ other there is_found there_stands ahead.
          none_stands agree a g solves bound other there is_found
          (elim ahead [
            | inl first ↦ (let own = turn_low other in omega (arith, first, own, less))
            | inr both ↦ (let same = both.0 in let turn = both.1 in omega (arith, same, turn, less))
          ])
          there_stands)
          ok stands in
          let down = step_down k cut blif facts c h phase lt setting kind ok i step.0 step.1 step.2 step.3 step.4 d e step.5 at ground in
          agree.no_fault agree.solution.0 agree.assignment.0 agree.solution.1 agree.assignment.1 kind down.0
          (firm_ground_stands (with_circuit k d) (whole_instances (before cut i)) phase setting kind down.0 agree.solution.0 agree.assignment.0 (ranges_at k cut blif facts c h i d before_it)
          (pins_plain d (phase_at k.rules phase) (is_observed (with_circuit k d) phase) d_determined) down.2 agree.solution.1)

      wrong : HasBareFault (with_circuit k e) phase setting → ¬ Agree (with_circuit k d) phase setting
      wrong (a, g, at, solves, assigns, fault) agree =
          let none : (kind : FaultKind) → IsFoundByRank kind → Stands (with_circuit k e) phase setting a g kind at → ⊥
          = λ kind ok stands. none_stands agree a g solves (suc (rank_at (with_circuit k e) phase ranked.0 kind at + rank_at (with_circuit k e) phase ranked.0 kind at + turn_of kind)) kind at ok (omega arith) stands in
          elim fault [
            | inl fight ↦ none Fight tt fight
            | inr other ↦ elim other [
              | inl float ↦ none Float tt float
              | inr broken ↦ none Constraint tt broken
            ]
          ]

      tells : BareFaultsTell (with_circuit k d) phase e setting
      tells = record {
        defined = λ a solves no_fight no_float n seen.
            solutions_are_defined e (phase_at k.rules phase) (is_observed (with_circuit k e) phase) setting ranked.0 a (ranges_at k cut blif facts c h (suc i) e after)
            (nets_observed k cut blif facts c h (suc i) e after phase lt) e_determined ranked.1 solves no_fight no_float n seen;
        wrong = wrong;
      }

    step_agrees : AgreesWith (with_circuit k d) (with_circuit k e)
    step_agrees =
        let p = step.0 in
        let q = compared_at t blif p step.1 in
        let there : (phase : ℕ) → phase < length k.rules.phases → phase < length t.rules.phases = λ phase lt. subst (λ (u : Top). phase < length u.rules.phases) (sym h.top) lt in
        one_more_whole_agrees_by_faults (with_circuit k d) q e (net_above t p.at) (λ j. j) (fresh_place (before cut i) blif facts q) (is_outside_at t step.2 p.at)
        (compared_at_step cut blif facts i p q) (exposed_at cut blif facts i p q) (drive_at facts p q)
        (λ phase lt. one_more k cut blif facts i p step.1 step.2 step.3 step.4 d e step.5 phase (there phase lt))
        (always_solved k cut blif facts c h i d before_it (omega (arith, low))) (always_solved k cut blif facts c h (suc i) e after low)
        (chain_keeps_valuations k blif facts (before cut i) (before cut (suc i)) d e (of_chain k cut blif facts c h i d before_it) (of_chain k cut blif facts c h (suc i) e after)).1
        (λ phase bits lt met. tells phase (there phase lt) (setting_of (with_circuit k d) phase bits))

  -- ---- the chain

  same_agrees : AgreesWith k k
  same_agrees = record { meets = λ phase bits. (λ m. m, λ m. m); agree = λ phase bits lt met. (λ fine. fine, λ fine. fine) }

  itself : (d : Circuit) → d ≡ k.circuit → AgreesWith k (with_circuit k d)
  itself d same = subst (λ (x : Comparison). AgreesWith k x) (is_itself k cut blif facts c h d same) same_agrees

  pub agrees_at : (n : ℕ) (d : Circuit) → n < length (all_places t) → IsCircuitWith (before cut n) blif facts d → AgreesWith k (with_circuit k d)
  agrees_at zero d low circuit = itself d ((chain_begins_flat cut blif facts d).0 circuit ∙ sym h.flat)
  agrees_at (suc i) d low circuit =
      elim (cases_Bool (cut.choice i)) [
        | inr not_chosen ↦ agrees_at i d (omega (arith, low)) (subst (λ (x : Cut). IsCircuitWith x blif facts d) (none_more_is_same cut i not_chosen) circuit)
        | inl chosen ↦
            let there = chain_is_there cut blif facts c i h.circuit in
            agreement_is_transitive k there.0 d (agrees_at i there.0 (omega (arith, low)) there.1) (step_agrees i there.0 d low chosen there.1 circuit)
      ]

pub checked_circuits_agree : CheckedCircuitsAgree
checked_circuits_agree k cut blif facts c h = (let last = at_last k cut blif facts c h in agrees_at k cut blif facts c h last.0 c last.1 last.2)
