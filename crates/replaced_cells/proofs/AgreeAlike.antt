-- Where both circuits have solutions with the same bits, nothing is wrong in the one where it has no other, and nothing is wrong in the other.
use Rattle.std.proofs.Common.{◌≡◌, ℕ, Bool, true, Some, subst, sym, refl, ◌∙◌}
use Rattle.std.specs.Prelude.{IsSome}
use Rattle.channel_parts.specs.OneSolution.{HasOneSolution}
use Rattle.replaced_cells.proofs.ObservedFaults.{stands_there}
use Rattle.replaced_cells.proofs.SharedFaults.{faults_are_shared}
use Rattle.replaced_cells.specs.Agreement.{HaveSameBits}
use Rattle.replaced_cells.specs.OneMoreWhole.{IsOneMoreWhole, all_bits}
use Rattle.vrt_model.specs.Checked.{with_circuit}
use Rattle.vrt_model.specs.Comparison.{Comparison, is_observed, phase_at}
use Rattle.vrt_model.specs.Equal.{Agree}
use Rattle.vrt_model.specs.Faults.{Solves}
use Rattle.vrt_model.specs.Reading.{Partial}
use Rattle.vrt_model.specs.State.{Setting}
use Rattle.vrt_model.specs.declared.circuit.Circuit.{Circuit}

module _ (k q : Comparison) (phase : ℕ) (whole_circuit : Circuit) (at place fresh : ℕ → ℕ) (remaining compared exposed : ℕ → Bool) (drive : ℕ → ℕ)
    (one : IsOneMoreWhole k q phase whole_circuit at place fresh remaining compared exposed drive) (setting : Setting)
    (same : HaveSameBits k q phase whole_circuit at place fresh remaining setting) where
  abbrev there : Comparison
  there = with_circuit k whole_circuit

  abbrev bits : ℕ → Bool
  bits = same.0.reading

  abbrev bits_there : ℕ → Bool
  bits_there = same.1.reading

  -- the solution of the circuit has these bits
  each_here : HasOneSolution k.circuit (phase_at k.rules phase) (is_observed k phase) setting
      → (c : Partial) → Solves k phase setting c → (n : ℕ) → is_observed k phase n ≡ true → c n ≡ Some (bits n)
  each_here only c c_solves n o = sym (only.only c c_solves n o) ∙ only.only (all_bits bits) same.3.solves n o

  -- and that with the instance whole
  each_there : HasOneSolution whole_circuit (phase_at k.rules phase) (is_observed there phase) setting
      → (c : Partial) → Solves there phase setting c → (n : ℕ) → is_observed there phase n ≡ true → c n ≡ Some (bits_there n)
  each_there only c c_solves n o = sym (only.only c c_solves n o) ∙ only.only (all_bits bits_there) same.3.whole_solves n o

  pub agrees_below : HasOneSolution k.circuit (phase_at k.rules phase) (is_observed k phase) setting → Agree there phase setting → Agree k phase setting
  agrees_below only agree = record {
    solution = (all_bits bits, same.3.solves);
    one_solution = λ c d c_solves d_solves n o. each_here only c c_solves n o ∙ sym (each_here only d d_solves n o);
    assignment = agree.assignment;
    one_assignment = λ g h is it. let alike = agree.one_assignment g h is it in record { signals = alike.signals; elements = alike.elements };
    defined = λ c c_solves n o. subst IsSome (sym (each_here only c c_solves n o)) refl;
    no_fault = λ c g c_solves is kind at_place h.
        (faults_are_shared k q phase whole_circuit at place fresh remaining compared exposed drive setting same.0 same.1 same.2 g one same.3).1
        (λ other n. agree.no_fault (all_bits bits_there) g same.3.whole_solves is other n) kind at_place
        (stands_there k phase setting c (all_bits bits) (each_here only c c_solves) g kind at_place h);
  }

  pub agrees_above : HasOneSolution whole_circuit (phase_at k.rules phase) (is_observed there phase) setting → Agree k phase setting → Agree there phase setting
  agrees_above only agree = record {
    solution = (all_bits bits_there, same.3.whole_solves);
    one_solution = λ c d c_solves d_solves n o. each_there only c c_solves n o ∙ sym (each_there only d d_solves n o);
    assignment = agree.assignment;
    one_assignment = λ g h is it. let alike = agree.one_assignment g h is it in record { signals = alike.signals; elements = alike.elements };
    defined = λ c c_solves n o. subst IsSome (sym (each_there only c c_solves n o)) refl;
    no_fault = λ c g c_solves is kind at_place h.
        (faults_are_shared k q phase whole_circuit at place fresh remaining compared exposed drive setting same.0 same.1 same.2 g one same.3).0
        (λ other n. agree.no_fault (all_bits bits) g same.3.solves is other n) kind at_place
        (stands_there there phase setting c (all_bits bits_there) (each_there only c c_solves) g kind at_place h);
  }
