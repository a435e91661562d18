use Rattle.std.proofs.Common.{ℕ, List, true, false, slice_index, subst, sym}
use Rattle.plain_paths.proofs.Passing.{bits_mean}
use Rattle.vrt_model.specs.Response.{IsStrength, Reaches}
use Rattle.plain_paths.proofs.signals.signals_over.Goals as goal

pub returns-clause-signals : goal.returns-clause-signals
returns-clause-signals c w over given held bound has =
    let strength : (n : ℕ) → IsStrength w n (slice_index c.in_ok-levels.levels.items n) = c.in_ok-levels.ensures.strength w over bound has in
    let strong : (n : ℕ) → IsStrength w n (slice_index c.as_slice-level_at.result.now n) =
    subst (λ (t : List ℕ). (n : ℕ) → IsStrength w n (slice_index t n)) (sym c.as_slice-level_at.ensures.value) strength in
    record {
      strength = strength;
      reached_by_zero = λ n. bits_mean c.in_ok-zeros.zeros.items n (Reaches w n false) (c.in_ok-zeros.ensures.reached w over given held bound has strong n);
      reached_by_one = λ n. bits_mean c.in_ok-ones.ones.items n (Reaches w n true) (c.in_ok-ones.ensures.reached w over given held bound has strong n);
    }
