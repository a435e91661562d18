-- Which verdicts exclude which, and what expressions are worth.
use Rattle.std.proofs.Common.{◌≡◌, ℕ, ◌<◌, Bool, List, Some, refl, ◌∙◌, ap, length}
use Rattle.std.specs.Prelude.{◌&&◌, ◌||◌}
use Rattle.vrt_model.specs.Comparison.{Comparison}
use Rattle.vrt_model.specs.Equal.{IsEqual, IsVacuous}
use Rattle.vrt_model.specs.Expressions.{both, negated, value_by, value_of}
use Rattle.vrt_model.specs.Lists.{differ}
use Rattle.vrt_model.specs.Places.{Finding, IsFinding}
use Rattle.vrt_model.specs.declared.rules.Expr.{Expr}
use Rattle.vrt_model.specs.declared.rules.Expr.TheVariants.{Port, Not', And', Xor', Or'}

-- where each port has a bit, the value by bits that may be missing is the value
pub value_total : (bits : List ℕ → Bool) (e : Expr) → value_by (λ name. Some (bits name)) e ≡ Some (value_of bits e)
value_total bits (Port name) = refl
value_total bits (Not' p e) = ap negated (value_total bits e)
value_total bits (And' p e q f) = ap (λ v. both ◌&&◌ v (value_by (λ name. Some (bits name)) f)) (value_total bits e) ∙ ap (both ◌&&◌ (Some (value_of bits e))) (value_total bits f)
value_total bits (Xor' p e q f) = ap (λ v. both differ v (value_by (λ name. Some (bits name)) f)) (value_total bits e) ∙ ap (both differ (Some (value_of bits e))) (value_total bits f)
value_total bits (Or' p e q f) = ap (λ v. both ◌||◌ v (value_by (λ name. Some (bits name)) f)) (value_total bits e) ∙ ap (both ◌||◌ (Some (value_of bits e))) (value_total bits f)

-- a cell that is equal has no fault, and no phase of it is vacuous
pub equal_no_fault : (k : Comparison) (f : Finding) → IsEqual k → IsFinding k f → ⊥
equal_no_fault k f equal found =
    let agree = (equal f.phase found.phase).agree f.bits found.meets in
    let s = found.stands in
    agree.no_fault s.0 s.1 s.2 s.3 f.kind f.at s.4

pub equal_not_vacuous : (k : Comparison) (phase : ℕ) → IsEqual k → phase < length k.rules.phases → IsVacuous k phase → ⊥
equal_not_vacuous k phase equal there vacuous = let met = (equal phase there).met in vacuous met.0 met.1

-- a vacuous phase has no fault
pub vacuous_no_fault : (k : Comparison) (f : Finding) → IsVacuous k f.phase → IsFinding k f → ⊥
vacuous_no_fault k f vacuous found = vacuous f.bits found.meets
