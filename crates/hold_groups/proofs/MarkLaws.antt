-- The first element without a mark.
use Rattle.std.proofs.Common.{◌≡◌, ℕ, suc, ◌+◌, ◌<◌, Bool, true, false, not, cond, List, [], ◌∷◌, length, get_or, Some, option_map, arith, ap, refl, ◌∙◌}
use Rattle.std.specs.Prelude.{find, option_and_then, position, slice_get}
use Rattle.std.specs.List.{enumerate_from, position_from}
use Rattle.std.proofs.lemmas.Iterator.Adapters.{position_from-zero}
use Rattle.vrt_model.specs.Unsupported.{is_reached}
use Rattle.vrt_model.specs.declared.groups.Group.{Group}
use Rattle.hold_groups.specs.Steps.{element_without}

module _ (groups : List Group) (all : List (List ℕ)) where
  by_marks : (k : ℕ) (marks : List Bool) (names : List (List ℕ)) → length names ≡ length marks → ((i : ℕ) → i < length marks → get_or marks i false ≡ is_reached groups (k + i))
      → ((i : ℕ) → slice_get all (k + i) ≡ slice_get names i)
      → option_and_then (slice_get all) (position_from (λ (m : Bool). not m) k marks)
      ≡ option_map (λ (p : ℕ × List ℕ). p.1) (find (λ (p : ℕ × List ℕ). not (is_reached groups p.0)) (enumerate_from k names))
  by_marks k [] [] len marked there = refl
  by_marks k [] (name ∷ names) len marked there = absurd (omega (arith, len))
  by_marks k (m ∷ marks) [] len marked there = absurd (omega (arith, len))
  by_marks k (m ∷ marks) (name ∷ names) len marked there =
      by_test m (is_reached groups k) (marked 0 (omega arith) ∙ ap (is_reached groups) (omega arith))
      (by_marks (k + 1) marks names (omega (arith, len)) (λ i lt. marked (suc i) (omega (arith, lt)) ∙ ap (is_reached groups) (omega arith)) (λ i. ap (slice_get all) (omega arith) ∙ there (suc i)))
    where
      by_test : (a b : Bool) → a ≡ b
          → option_and_then (slice_get all) (position_from (λ (m : Bool). not m) (k + 1) marks)
          ≡ option_map (λ (p : ℕ × List ℕ). p.1) (find (λ (p : ℕ × List ℕ). not (is_reached groups p.0)) (enumerate_from (k + 1) names))
          → option_and_then (slice_get all) (cond (not a) (Some k) (position_from (λ (m : Bool). not m) (k + 1) marks))
          ≡ option_map (λ (p : ℕ × List ℕ). p.1) (cond (not b) (Some (k, name)) (find (λ (p : ℕ × List ℕ). not (is_reached groups p.0)) (enumerate_from (k + 1) names)))
      by_test true true e rest = rest
      by_test true false e rest = cc
      by_test false true e rest = cc
      by_test false false e rest = ap (slice_get all) (omega arith) ∙ there 0

-- the name at the place of the first mark that is not set
pub first_without : (groups : List Group) (marks : List Bool) (names : List (List ℕ)) → length names ≡ length marks → ((e : ℕ) → e < length marks → get_or marks e false ≡ is_reached groups e)
    → option_and_then (slice_get names) (position (λ (m : Bool). not m) marks) ≡ element_without names groups
first_without groups marks names len marked =
    ap (option_and_then (slice_get names)) (position_from-zero (λ (m : Bool). not m) marks) ∙ by_marks groups names 0 marks names len (λ i lt. marked i lt ∙ ap (is_reached groups) (omega arith)) (λ i. ap (slice_get names) (omega arith))
