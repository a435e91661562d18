-- The flat nets of the ports of a whole.
use Rattle.std.specs.Prelude.{◌≡◌, ℕ, suc, ◌+◌, Bool, cond, List, map, filter, length, Option, Some, None, is_none}
use Rattle.net_tables.specs.declared.types.CellNet.{CellNet}
use Rattle.net_tables.specs.declared.types.CellNet.TheVariants.{Supply, Port, Global, Own}
use Rattle.vrt_model.specs.CellRules.{supply_of}
use Rattle.vrt_model.specs.Comparison.{port_nets}
use Rattle.vrt_model.specs.declared.ids.Net.{Net}
use Rattle.vrt_model.specs.declared.rules.Rules.{Rules}

-- which supply a net of a cell is
abbrev pub supply_value : CellNet → Option Bool
supply_value (Supply value) = Some value
supply_value (Port k) = None
supply_value (Global j) = None
supply_value (Own i) = None

-- a port is a supply, or else the next net
abbrev pub net_by : Option Bool → ℕ → ℕ
net_by None next = next
net_by (Some value) next = cond value 1 0

abbrev pub net_behind : Option Bool → ℕ → ℕ
net_behind None next = suc next
net_behind (Some value) next = next

-- the nets of ports, and the net behind them
pub record IsNumbered (rules : Rules) (names : List (List ℕ)) (nets : List Net) (next : ℕ) : Type 0 where
  pub nets_are : map (λ (n : Net). n.0) nets ≡ port_nets rules names
  pub next_is : next ≡ 2 + length (filter (λ name. is_none (supply_of rules name)) names)
