-- Comparisons that agree in each phase and at each valuation.
use Rattle.std.proofs.Common.{ℕ, ◌<◌, Bool, List, length, subst, sym}
use Rattle.channel_parts.specs.OneSolution.{HasOneSolution}
use Rattle.replaced_cells.proofs.GoesDown.{agreement_goes_down}
use Rattle.replaced_cells.proofs.GoesUpByFaults.{agreement_goes_up_by_faults}
use Rattle.replaced_cells.specs.Agreement.{AgreementIsTransitive, AgreesWith, HaveSameValuations, IsAlwaysSolved, OneMoreWholeAgreesByFaults}
use Rattle.replaced_cells.specs.OneMoreWhole.{IsOneMoreWhole}
use Rattle.vrt_model.specs.Checked.{with_circuit}
use Rattle.vrt_model.specs.Comparison.{Comparison, is_observed, phase_at}
use Rattle.vrt_model.specs.Constraints.{Meets}
use Rattle.vrt_model.specs.Equal.{Agree}
use Rattle.vrt_model.specs.Held.{setting_of}
use Rattle.vrt_model.specs.declared.circuit.Circuit.{Circuit}

-- two comparisons agree where one more instance is whole, and what is right in the circuit is right with the instance whole
agrees_both_ways : (k q : Comparison) (whole_circuit : Circuit) (at place fresh : ℕ → ℕ) (remaining compared exposed : ℕ → Bool) (drive : ℕ → ℕ)
    → ((phase : ℕ) → phase < length k.rules.phases → IsOneMoreWhole k q phase whole_circuit at place fresh remaining compared exposed drive)
    → IsAlwaysSolved k → HaveSameValuations k (with_circuit k whole_circuit)
    → ((phase : ℕ) (bits : List Bool) → phase < length k.rules.phases → Meets k phase bits → Agree k phase (setting_of k phase bits) → Agree (with_circuit k whole_circuit) phase (setting_of k phase bits))
    → AgreesWith k (with_circuit k whole_circuit)
agrees_both_ways k q whole_circuit at place fresh remaining compared exposed drive one solved same up = record {
  meets = λ phase bits. let both = same.meets phase bits in (both.1, both.0);
  agree = λ phase bits lt met. (
    λ fine. subst (Agree (with_circuit k whole_circuit) phase) (sym (same.settings phase bits)) (up phase bits lt met fine),
    λ fine.
        agreement_goes_down k q phase whole_circuit at place fresh remaining compared exposed drive (setting_of k phase bits) (one phase lt) (solved phase bits lt)
        (subst (Agree (with_circuit k whole_circuit) phase) (same.settings phase bits) fine),
  );
}

-- the one solution with the instance whole, at a setting of the circuit
one_there : (k : Comparison) (whole_circuit : Circuit) → IsAlwaysSolved (with_circuit k whole_circuit) → HaveSameValuations k (with_circuit k whole_circuit)
    → (phase : ℕ) (bits : List Bool) → phase < length k.rules.phases
    → HasOneSolution whole_circuit (phase_at k.rules phase) (is_observed (with_circuit k whole_circuit) phase) (setting_of k phase bits)
one_there k whole_circuit solved same phase bits lt =
    subst (HasOneSolution whole_circuit (phase_at k.rules phase) (is_observed (with_circuit k whole_circuit) phase)) (same.settings phase bits) (solved phase bits lt)

pub one_more_whole_agrees_by_faults : OneMoreWholeAgreesByFaults
one_more_whole_agrees_by_faults k q whole_circuit at place fresh remaining compared exposed drive one solved whole_solved same tell =
    agrees_both_ways k q whole_circuit at place fresh remaining compared exposed drive one solved same
    (λ phase bits lt met.
    agreement_goes_up_by_faults k q phase whole_circuit at place fresh remaining compared exposed drive (setting_of k phase bits) (one phase lt)
    (one_there k whole_circuit whole_solved same phase bits lt) (tell phase bits lt met))

pub agreement_is_transitive : AgreementIsTransitive
agreement_is_transitive k c d one two = record {
  meets = λ phase bits. let first = one.meets phase bits in let last = two.meets phase bits in (λ m. last.0 (first.0 m), λ m. first.1 (last.1 m));
  agree = λ phase bits lt met.
      let first = one.agree phase bits lt met in
      let last = two.agree phase bits lt ((one.meets phase bits).0 met) in
      (λ fine. last.0 (first.0 fine), λ fine. first.1 (last.1 fine));
}
