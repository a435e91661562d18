-- What is known of the signals of a model: the bits of those that carry clocks, which are inputs and clocks of it.
use Rattle.std.proofs.Common.{◌≡◌, ℕ, Bool, List, Option, Some, None, refl, sym, subst, ◌∙◌}
use Rattle.std.specs.Prelude.{◌==◌, find, option_map}
use Rattle.std.proofs.lemmas.Bool.{eqb-true}
use Rattle.std.proofs.lemmas.Option.{none-some}
use Rattle.blif_eval.specs.Plans.{AreOutside}
use Rattle.phase_terms.specs.Plans.{AreCarried}
use Rattle.phase_terms.specs.Ready.{HasPairedInputs, IsModelInput}
use Rattle.vrt_model.proofs.Members.{find_among}
use Rattle.vrt_model.specs.Comparison.{Comparison, phase_at}
use Rattle.vrt_model.specs.Reading.{clock_bit}
use Rattle.vrt_model.specs.declared.pairing.ClockedSignal.{ClockedSignal}

-- what is known of a signal is the bit of an input or a clock of the model
pub carried_outside : (k : Comparison) (phase : ℕ) (known : List (Option Bool)) → HasPairedInputs k → AreCarried k phase known → AreOutside k.model known
carried_outside k phase known paired are latch m s v lt e = by_clock (find is_here k.pairing.clocked) refl (sym (are.signals s lt) ∙ e)
  where
    is_here : ClockedSignal → Bool
    is_here c = c.signal == s

    by_clock : (o : Option ClockedSignal) → find is_here k.pairing.clocked ≡ o → option_map (λ (c : ClockedSignal). clock_bit (phase_at k.rules phase) c.clock) o ≡ Some v → IsModelInput k s
    by_clock None is found = absurd (none-some v found)
    by_clock (Some c) is found =
        let here = find_among is_here k.pairing.clocked c is in
        subst (IsModelInput k) (eqb-true c.signal s here.1) (paired.clocked c here.0)
