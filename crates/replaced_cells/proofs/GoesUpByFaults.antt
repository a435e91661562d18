-- Where nothing is wrong with the cell in the circuit, no fault of the bare stage stands with the instance whole; so both circuits have the
-- same bits, and no later fault stands.
use Rattle.std.proofs.Common.{◌≡◌, ℕ, Bool, true, subst, sym, refl, inl, inr}
use Rattle.std.specs.Prelude.{IsSome}
use Rattle.channel_parts.specs.OneSolution.{HasOneSolution}
use Rattle.replaced_cells.proofs.AgreeAlike.{agrees_above}
use Rattle.replaced_cells.proofs.GoesDown.{bits_go_down}
use Rattle.replaced_cells.proofs.SolvedAlike.{plain_there}
use Rattle.replaced_cells.specs.Agreement.{AgreementGoesUpByFaults, BareFaultsTell, HasBareFault, HaveSameBits}
use Rattle.replaced_cells.specs.OneMoreWhole.{IsOneMoreWhole}
use Rattle.vrt_model.specs.Checked.{with_circuit}
use Rattle.vrt_model.specs.Comparison.{Comparison, is_observed, phase_at}
use Rattle.vrt_model.specs.Equal.{Agree}
use Rattle.vrt_model.specs.Faults.{BreaksConstraint, Responds}
use Rattle.vrt_model.specs.Known.{IsPlain}
use Rattle.vrt_model.specs.Reading.{Partial, bare}
use Rattle.vrt_model.specs.Response.{Fight, Float}
use Rattle.vrt_model.specs.State.{Setting}
use Rattle.vrt_model.specs.declared.circuit.Circuit.{Circuit}

module _ (k q : Comparison) (phase : ℕ) (whole_circuit : Circuit) (at place fresh : ℕ → ℕ) (remaining compared exposed : ℕ → Bool) (drive : ℕ → ℕ)
    (one : IsOneMoreWhole k q phase whole_circuit at place fresh remaining compared exposed drive) (setting : Setting)
    (only : HasOneSolution whole_circuit (phase_at k.rules phase) (is_observed (with_circuit k whole_circuit) phase) setting)
    (tell : BareFaultsTell k phase whole_circuit setting) (agree : Agree k phase setting) where
  abbrev there : Comparison
  there = with_circuit k whole_circuit

  abbrev a : Partial
  a = only.bits

  none_stands : HasBareFault there phase setting → ⊥
  none_stands h = tell.wrong h agree

  no_fight : (n : ℕ) → IsPlain whole_circuit n → ¬ Responds there phase setting a bare n Fight
  no_fight n p h = none_stands (a, agree.assignment.0, n, only.solves, agree.assignment.1, inl (p, h))

  no_float : (n : ℕ) → is_observed there phase n ≡ true → ¬ Responds there phase setting a bare n Float
  no_float n o h = none_stands (a, agree.assignment.0, n, only.solves, agree.assignment.1, inr (inl (o, h)))

  met : ¬ BreaksConstraint k.design k.rules phase a one.instance.0
  met h = none_stands (a, agree.assignment.0, one.instance.1.0, only.solves, agree.assignment.1, inr (inr (one.instance.0, one.instance.1.1, h)))

  bits_below : HaveSameBits k q phase whole_circuit at place fresh remaining setting
  bits_below =
      bits_go_down k q phase whole_circuit at place fresh remaining compared exposed drive setting a one only.solves
      (λ n o. let bit = tell.defined a only.solves no_fight no_float n o in subst IsSome (sym bit.1) refl)
      (λ m e. no_fight (at m) (plain_there k q phase whole_circuit at place fresh remaining compared exposed drive one (at m) (one.placed.plain m (one.placed.exposed_plain m e)))) met

  pub agrees : Agree there phase setting
  agrees = agrees_above k q phase whole_circuit at place fresh remaining compared exposed drive one setting bits_below only agree

pub agreement_goes_up_by_faults : AgreementGoesUpByFaults
agreement_goes_up_by_faults k q phase whole_circuit at place fresh remaining compared exposed drive setting one only tell agree =
    agrees k q phase whole_circuit at place fresh remaining compared exposed drive one setting only tell agree
