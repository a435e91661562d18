-- Which `hold` rule counts on a flat net, by the places of an unrolled cell.
use Rattle.std.specs.Prelude.{◌≡◌, ℕ, zero, suc, ◌+◌, ◌<◌, ◌^◌, ◌==◌, cond, List, [], ◌∷◌, Option, Some, None, get_or, length, option_and_then, option_map, slice_get}
use Rattle.std.specs.List.{cons_option}
use Rattle.flat_holds.specs.Ends.{IsHold}
use Rattle.flat_holds.specs.declared.falls.Spot.{Spot}
use Rattle.line_laws.specs.Lines.{earlier}
use Rattle.net_places.specs.declared.places.Place.{Place}
use Rattle.net_places.specs.declared.whole.Unrolled.{Unrolled}
use Rattle.net_tables.specs.Nets.{net_in}
use Rattle.net_tables.specs.Places.{number_by}
use Rattle.net_tables.specs.Tables.{AreNetTables}
use Rattle.net_tables.specs.declared.tables.NetTables.{NetTables}
use Rattle.rule_index.specs.Lines.{places_in}
use Rattle.rule_index.specs.declared.by_cell.ByCell.{ByCell}
use Rattle.vrt_model.specs.Comparison.{cell_at}
use Rattle.vrt_model.specs.FlatCircuit.{flat_hold, rule_on}
use Rattle.vrt_model.specs.Lists.{Among}
use Rattle.vrt_model.specs.Unrolled.{Top, own_nets}
use Rattle.vrt_model.specs.declared.circuit.Hold.{Hold}
use Rattle.vrt_model.specs.declared.design.Design.{Design}
use Rattle.vrt_model.specs.declared.rules.HoldRule.{HoldRule}
use Rattle.vrt_model.specs.declared.rules.Rules.{Rules}

-- the own nets of a place have numbers
pub record IsRoomy (design : Design) (rules : Rules) (tables : NetTables) (p : Place) : Type 0 where
  pub tables_are : AreNetTables design rules tables
  pub cell : p.cell < length design.cells
  pub room : p.base + length (own_nets design rules (cell_at design p.cell)) < 2 ^ 32

abbrev pub AreRoomy : Design → Rules → NetTables → List Place → Type 0
AreRoomy design rules tables places = (p : Place) → Among places p → IsRoomy design rules tables p

-- ---- the one that counts

-- of two the one that is less deep, else the first
abbrev pub closer_by : {X : Type 0} → (X → ℕ) → Option X → Option X → Option X
closer_by = earlier

abbrev pub depth_of : Spot → ℕ
depth_of s = s.depth

-- ---- rules that fall on a net

-- the flat net of a name in the cell of a place
abbrev pub number_in : Design → Rules → Unrolled → Place → List ℕ → ℕ
number_in design rules unrolled p name = number_by p.ports p.base unrolled.globals (net_in design rules (cell_at design p.cell) name)

-- a rule of the cell of a place, if it falls on a net there
abbrev pub spot_by : Design → Rules → Unrolled → ℕ → ℕ → Place → ℕ → HoldRule → Option Spot
spot_by design rules unrolled n number p at rule =
    cond (number_in design rules unrolled p rule.net == n) (let one : Spot = record { place = number; depth = p.depth; rule = at } in Some one) None

abbrev pub spot_at : Design → Rules → Unrolled → ℕ → ℕ → Place → ℕ → Option Spot
spot_at design rules unrolled n number p at = option_and_then (spot_by design rules unrolled n number p at) (slice_get rules.holds at)

-- of rules of the cell of a place the one that counts
abbrev pub best_at : Design → Rules → Unrolled → ℕ → ℕ → Place → List ℕ → Option Spot
best_at design rules unrolled n number p [] = None
best_at design rules unrolled n number p (at ∷ lines) = closer_by depth_of (spot_at design rules unrolled n number p at) (best_at design rules unrolled n number p lines)

-- the places of the rules of the cell of a place
abbrev pub own_places : Design → ByCell → Place → List ℕ
own_places design holds p = places_in holds (cell_at design p.cell).name

-- of those at places from a number on
abbrev pub best_from : Design → Rules → ByCell → Unrolled → ℕ → ℕ → List Place → Option Spot
best_from design rules holds unrolled n number [] = None
best_from design rules holds unrolled n number (p ∷ places) =
    closer_by depth_of (best_at design rules unrolled n number p (own_places design holds p)) (best_from design rules holds unrolled n (suc number) places)

-- ---- a table of the one that counts on each net

-- one more is noted at each net, or none
pub record HasNoted (more : ℕ → Option Spot) (old new : List (Option Spot)) : Type 0 where
  pub len : length new ≡ length old
  pub noted : (n : ℕ) → n < length old → get_or new n None ≡ closer_by depth_of (get_or old n None) (more n)

-- ---- all holds

-- a hold is that of the rule that counts, none where there is no rule
abbrev pub HoldBy : Design → Rules → Unrolled → ℕ → Option Spot → Option Hold → Type 0
HoldBy design rules unrolled n None None = Unit {0}
HoldBy design rules unrolled n None (Some hold) = ⊥
HoldBy design rules unrolled n (Some s) None = slice_get rules.holds s.rule ≡ None
HoldBy design rules unrolled n (Some s) (Some hold) = (rule : HoldRule) → slice_get rules.holds s.rule ≡ Some rule → IsHold design rules unrolled s.place rule n hold

-- the holds of so many nets from one on
abbrev pub holds_from : Top → ℕ → ℕ → List Hold
holds_from t n zero = []
holds_from t n (suc count) = cons_option (option_map (flat_hold t n) (rule_on t n)) (holds_from t (suc n) count)
