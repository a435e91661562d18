-- A cell in a phase at one valuation of its variables, by plain bits.
use Rattle.std.specs.Prelude.{◌≡◌, ℕ, ◌+◌, Bool, true, cond, ◌&&◌, List, [], ◌∷◌, Option, Some, None, find, option_map, ◌==◌}
use Rattle.std.specs.List.{cons_option, list_all}
use Rattle.constraints.specs.Cared.{meets_by}
use Rattle.constraints.specs.Obliged.{is_asked}
use Rattle.mode_lines.specs.declared.points.CellPhase.{CellPhase}
use Rattle.mode_lines.specs.declared.bits.Sought.{Sought}
use Rattle.mode_lines.specs.declared.bits.Sought.TheVariants as sought
use Rattle.vrt_model.specs.Comparison.{Comparison, cell_at, phase_at}
use Rattle.vrt_model.specs.Constraints.{given_bit, is_entered, meets, named_net}
use Rattle.vrt_model.specs.Expressions.{value_of}
use Rattle.vrt_model.specs.Held.{bit_of, held_bit, is_element, is_group, is_input_of, setting_of}
use Rattle.vrt_model.specs.State.{Setting}
use Rattle.vrt_model.specs.Variables.{is_input, variables_of}
use Rattle.vrt_model.specs.declared.circuit.Enter.{Enter}
use Rattle.vrt_model.specs.declared.circuit.FlatNet.{FlatNet}
use Rattle.vrt_model.specs.declared.circuit.Hold.{Hold}
use Rattle.vrt_model.specs.declared.flat_model.FlatModel.{FlatModel}
use Rattle.vrt_model.specs.declared.groups.Source.{Source}
use Rattle.vrt_model.specs.declared.pairing.Pairing.{Pairing}
use Rattle.vrt_model.specs.declared.rules.AssumeRule.{AssumeRule}
use Rattle.vrt_model.specs.declared.rules.Expr.{Expr}

-- ---- what a valuation gives

-- the bits of inputs by their nets, of holds by their places, and of elements by their numbers
abbrev pub setting_in : CellPhase → List Bool → Setting
setting_in s bits = record {
  inputs = λ n. bit_of (is_input_of n) s.sources.now bits;
  held = λ hold. held_bit s.circuit.now s.groups.now s.phase s.sources.now bits hold;
  elements = λ e. bit_of (is_element e) s.sources.now bits;
}

-- whether it meets the constraints of the phase
abbrev pub meets_in : CellPhase → List Bool → Bool
meets_in s bits = meets_by s.design.now s.rules.now s.cell s.circuit.now s.groups.now s.sources.now s.phase bits

-- ---- the comparison of the cell

-- the cell with a model and with what its ports pair with
abbrev pub comparison_with : CellPhase → Pairing → FlatModel → Comparison
comparison_with s pairing model = record {
  design = s.design.now;
  rules = s.rules.now;
  cell = s.cell;
  pairing = pairing;
  circuit = s.circuit.now;
  model = model;
  groups = s.groups.now;
}

-- the variables are those of the comparison
abbrev pub AreVariables : CellPhase → FlatModel → Type 0
AreVariables s model = s.sources.now ≡ variables_of s.circuit.now model s.groups.now s.phase

-- what a valuation gives there, and whether it meets the constraints of the phase
abbrev pub setting_with : CellPhase → Pairing → FlatModel → List Bool → Setting
setting_with s pairing model bits = setting_of (comparison_with s pairing model) s.phase bits

abbrev pub meets_with : CellPhase → Pairing → FlatModel → List Bool → Bool
meets_with s pairing model bits = meets (comparison_with s pairing model) s.phase (setting_with s pairing model bits)

-- ---- variables

-- the variable that is looked for
abbrev pub picks : Sought → Source → Bool
picks (sought.Input n) = is_input_of n
picks (sought.Element e) = is_element e
picks (sought.Group g) = is_group g

-- the bits of the inputs among nets that are numbered from a number on
abbrev pub inputs_from : (ℕ → Bool) → ℕ → List FlatNet → List Bool
inputs_from bit n [] = []
inputs_from bit n (net ∷ nets) = cons_option (cond (is_input net.kind) (Some (bit n)) None) (inputs_from bit (n + 1) nets)

-- the bits of holds that are numbered from a number on
abbrev pub held_from : (ℕ → Bool) → ℕ → List Hold → List Bool
held_from bit n [] = []
held_from bit n (hold ∷ holds) = bit n ∷ held_from bit (n + 1) holds

-- ---- constraints

-- the bit at the net of a port
abbrev pub port_bit : CellPhase → List Bool → List ℕ → Bool
port_bit s bits name = given_bit s.circuit.now (phase_at s.rules.now s.phase) (setting_in s bits).inputs (named_net s.rules.now (cell_at s.design.now s.cell) name)

abbrev pub value_in : CellPhase → List Bool → Expr → Bool
value_in s bits e = value_of (λ name. port_bit s bits name) e

-- an `assume` line is true, if it is for the cell and the phase
abbrev pub line_holds : CellPhase → List Bool → AssumeRule → Bool
line_holds s bits r = cond (is_asked (cell_at s.design.now s.cell).name s.phase r) (value_in s bits r.expression) true

abbrev pub lines_hold : CellPhase → List Bool → List AssumeRule → Bool
lines_hold s bits rules = list_all (line_holds s bits) rules

-- the value of the `enter` line for a phase
abbrev pub entered : List Enter → ℕ → Option Bool
entered enters phase = option_map (λ (e : Enter). e.value) (find (λ (e : Enter). e.phase == phase) enters)

-- holds that are numbered from a number on have the values with which they enter
abbrev pub holds_enter : ℕ → (ℕ → Bool) → ℕ → List Hold → Bool
holds_enter phase held n [] = true
holds_enter phase held n (hold ∷ holds) = is_entered (entered hold.enters phase) (held n) && holds_enter phase held (n + 1) holds
