-- A cell has a rule of a kind exactly where the index has a place for it.
use Rattle.std.proofs.Common.{◌≡◌, ℕ, Bool, true, false, not, ◌||◌, cond, List, [], ◌∷◌, length, filter, Option, Some, ap, refl, sym, ◌∙◌}
use Rattle.std.specs.Prelude.{◌==◌, bytes_eq, slice_get}
use Rattle.std.specs.List.{list_any}
use Rattle.std.proofs.Math.Dec.{eqb-suc-zero}
use Rattle.std.proofs.lemmas.List.{length-map}
use Rattle.rule_index.specs.Lines.{IsIndex, places_in, rules_of}
use Rattle.rule_index.specs.declared.by_cell.ByCell.{ByCell}

-- something is left by a filter exactly where something passes its test
some_left : {R : Type 0} (test : R → Bool) (rules : List R) → not (length (filter test rules) == 0) ≡ list_any test rules
some_left test [] = refl
some_left {R} test (r ∷ rules) = by_test (test r) (some_left test rules) where
  by_test : (b : Bool) → not (length (filter test rules) == 0) ≡ list_any test rules → not (length (cond b (r ∷ filter test rules) (filter test rules)) == 0) ≡ (b || list_any test rules)
  by_test true e = ap not (eqb-suc-zero (length (filter test rules)))
  by_test false e = e

pub some_listed : {R : Type 0} (cell_of : R → List ℕ) (rules : List R) (table : ByCell) (cell : List ℕ) → IsIndex cell_of rules table
    → not (length (places_in table cell) == 0) ≡ list_any (λ r. bytes_eq (cell_of r) cell) rules
some_listed {R} cell_of rules table cell index =
    ap (λ (n : ℕ). not (n == 0))
    (sym (length-map (places_in table cell) (slice_get rules)) ∙ ap (λ (os : List (Option R)). length os) (index cell) ∙ length-map (rules_of cell_of rules cell) Some)
    ∙ some_left (λ r. bytes_eq (cell_of r) cell) rules
