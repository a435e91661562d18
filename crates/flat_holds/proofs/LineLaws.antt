-- What the lines at the places of a cell say is what all lines say.
use Rattle.std.proofs.Common.{◌≡◌, ◌&&◌, ℕ, List, Bool, Some, None, ap, ap₂, ◌∙◌}
use Rattle.std.specs.Prelude.{bytes_eq, cond, filter_map, find}
use Rattle.flat_holds.proofs.ListLaws.{all_placed, first_placed}
use Rattle.flat_holds.specs.Ends.{enter_at, enter_by, first_at, is_line_of, is_match_of}
use Rattle.rule_index.specs.Lines.{AreChargeLines, places_in}
use Rattle.rule_index.specs.declared.lines.ChargeLines.{ChargeLines}
use Rattle.vrt_model.specs.declared.circuit.Enter.{Enter}
use Rattle.vrt_model.specs.declared.rules.EnterRule.{EnterRule}
use Rattle.vrt_model.specs.declared.rules.HoldRule.{HoldRule}
use Rattle.vrt_model.specs.declared.rules.InstanceMatchRule.{InstanceMatchRule}
use Rattle.vrt_model.specs.declared.rules.MatchRule.{MatchRule}
use Rattle.vrt_model.specs.declared.rules.Rules.{Rules}

module _ (rules : Rules) (lines : ChargeLines) (are : AreChargeLines rules lines) where
  pub match_placed : (hold : HoldRule) (all : List MatchRule) (name places : List ℕ) → all ≡ rules.matches → name ≡ hold.cell → places ≡ places_in lines.matches name
      → first_at (is_match_of hold) all places ≡ find (is_match_of hold) rules.matches
  match_placed hold all name places whole named own =
      ap₂ (λ (xs : List MatchRule) (ps : List ℕ). first_at (is_match_of hold) xs ps) whole (own ∙ ap (places_in lines.matches) named)
      ∙ first_placed (λ (r : MatchRule). bytes_eq r.cell hold.cell) (is_match_of hold) rules.matches (places_in lines.matches hold.cell) (are.matches hold.cell)
      (λ r other. ap (λ (b : Bool). b && bytes_eq r.net hold.net) other)

  pub line_placed : (cell instance element : List ℕ) (all : List InstanceMatchRule) (places : List ℕ) → all ≡ rules.instance_matches → places ≡ places_in lines.instance_matches cell
      → first_at (is_line_of cell instance element) all places ≡ find (is_line_of cell instance element) rules.instance_matches
  line_placed cell instance element all places whole own =
      ap₂ (λ (xs : List InstanceMatchRule) (ps : List ℕ). first_at (is_line_of cell instance element) xs ps) whole own
      ∙ first_placed (λ (r : InstanceMatchRule). bytes_eq r.cell cell) (is_line_of cell instance element) rules.instance_matches (places_in lines.instance_matches cell) (are.instance_matches cell)
      (λ r other. ap (λ (b : Bool). b && bytes_eq r.instance instance && bytes_eq r.inner element) other)

  pub enters_placed : (hold : HoldRule) (all : List EnterRule) (name places : List ℕ) → all ≡ rules.enters → name ≡ hold.cell → places ≡ places_in lines.enters name
      → filter_map (enter_at hold all) places ≡ filter_map (enter_by hold) rules.enters
  enters_placed hold all name places whole named own =
      ap₂ (λ (xs : List EnterRule) (ps : List ℕ). filter_map (enter_at hold xs) ps) whole (own ∙ ap (places_in lines.enters) named)
      ∙ all_placed (λ (r : EnterRule). bytes_eq r.cell hold.cell) (enter_by hold) rules.enters (places_in lines.enters hold.cell) (are.enters hold.cell)
      (λ r other. ap (λ (b : Bool). cond (b && bytes_eq r.net hold.net) (let one : Enter = record { phase = r.phase; value = r.value } in Some one) None) other)
