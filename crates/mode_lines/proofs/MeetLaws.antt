-- Constraints line by line and hold by hold are those of the phase.
use Rattle.std.proofs.Common.{◌≡◌, ℕ, suc, ◌+◌, ◌&&◌, Bool, true, false, cond, List, [], ◌∷◌, Option, Some, None, arith, ap, ap₂, refl, sym, ◌∙◌}
use Rattle.std.specs.Prelude.{bytes_eq, filter_map, find, option_map, unwrap_or, ◌==◌}
use Rattle.std.specs.List.{cons_option, enumerate_from, list_all}
use Rattle.constraints.specs.Obliged.{is_asked}
use Rattle.mode_lines.specs.Points.{entered, holds_enter, lines_hold, meets_in, setting_in, value_in}
use Rattle.mode_lines.specs.declared.points.CellPhase.{CellPhase}
use Rattle.vrt_model.specs.CellRules.{is_for}
use Rattle.vrt_model.specs.Comparison.{cell_at}
use Rattle.vrt_model.specs.Constraints.{is_entered, meets_assumes, meets_enters}
use Rattle.vrt_model.specs.Lists.{At}
use Rattle.vrt_model.specs.Variables.{enter_of}
use Rattle.vrt_model.specs.declared.circuit.Circuit.{Circuit}
use Rattle.vrt_model.specs.declared.circuit.Enter.{Enter}
use Rattle.vrt_model.specs.declared.circuit.Hold.{Hold}
use Rattle.vrt_model.specs.declared.rules.AssumeRule.{AssumeRule}
use Rattle.vrt_model.specs.declared.rules.Expr.{Expr}

-- ---- lines

module _ (test : Expr → Bool) (cell : List ℕ) (phase : ℕ) where
  listed : (rules : List AssumeRule)
      → list_all test (filter_map (λ (r : AssumeRule). cond (bytes_eq r.cell cell && is_for r.phase phase) (Some r.expression) None) rules)
      ≡ list_all (λ (r : AssumeRule). cond (is_asked cell phase r) (test r.expression) true) rules
  listed [] = refl
  listed (r ∷ rs) = by_test (is_asked cell phase r) (listed rs)
    where
      by_test : (b : Bool)
          → list_all test (filter_map (λ (r : AssumeRule). cond (bytes_eq r.cell cell && is_for r.phase phase) (Some r.expression) None) rs) ≡ list_all (λ (r : AssumeRule). cond (is_asked cell phase r) (test r.expression) true) rs
          → list_all test (cons_option (cond b (Some r.expression) None) (filter_map (λ (r : AssumeRule). cond (bytes_eq r.cell cell && is_for r.phase phase) (Some r.expression) None) rs))
          ≡ (cond b (test r.expression) true && list_all (λ (r : AssumeRule). cond (is_asked cell phase r) (test r.expression) true) rs)
      by_test true rest = ap (λ (t : Bool). test r.expression && t) rest
      by_test false rest = rest

lines_are : (s : CellPhase) (bits : List Bool) → lines_hold s bits s.rules.now.assumes ≡ meets_assumes s.design.now s.rules.now s.cell s.circuit.now s.phase (setting_in s bits).inputs
lines_are s bits = sym (listed (value_in s bits) (cell_at s.design.now s.cell).name s.phase s.rules.now.assumes)

-- ---- holds

module _ (c : Circuit) (phase : ℕ) (held : ℕ → Bool) where
  enters_from : (k : ℕ) (holds : List Hold) → ((i : ℕ) (h : Hold) → At holds i h → enter_of c phase (k + i) ≡ entered h.enters phase)
      → holds_enter phase held k holds ≡ list_all (λ (p : ℕ × Hold). is_entered (enter_of c phase p.0) (held p.0)) (enumerate_from k holds)
  enters_from k [] each = refl
  enters_from k (h ∷ hs) each =
      ap₂ (λ (a b : Bool). a && b) (ap (λ (o : Option Bool). is_entered o (held k)) (sym (each 0 h refl) ∙ ap (enter_of c phase) (omega arith)))
      (enters_from (k + 1) hs (λ i g e. ap (enter_of c phase) (omega arith) ∙ each (suc i) g e))

  enters_are : holds_enter phase held 0 c.holds ≡ meets_enters c phase held
  enters_are =
      enters_from 0 c.holds
      (λ i h e. ap (enter_of c phase) (omega arith)
      ∙ ap (λ (o : Option Hold). option_map (λ (x : Enter). x.value) (find (λ (x : Enter). x.phase == phase) (unwrap_or (option_map (λ (g : Hold). g.enters) o) []))) e)

-- ---- both

pub meets_both : (s : CellPhase) (bits : List Bool) (lines holds : Bool) → lines ≡ lines_hold s bits s.rules.now.assumes → holds ≡ holds_enter s.phase (setting_in s bits).held 0 s.circuit.now.holds
    → (lines && holds) ≡ meets_in s bits
meets_both s bits lines holds p q = ap₂ (λ (a b : Bool). a && b) (p ∙ lines_are s bits) (q ∙ enters_are s.circuit.now s.phase (setting_in s bits).held)
