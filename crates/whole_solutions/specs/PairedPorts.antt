-- The ports of a cell that pairs with a model are as the law of instances asks.
use Rattle.std.specs.Prelude.{◌≡◌, ℕ, List, Some}
use Rattle.vrt_model.specs.CellRules.{assumed}
use Rattle.vrt_model.specs.Comparison.{cell_at}
use Rattle.vrt_model.specs.Expressions.{names_in}
use Rattle.vrt_model.specs.Lists.{Among, place_of}
use Rattle.vrt_model.specs.Unsupported.{IsSupported, comparison_of}
use Rattle.vrt_model.specs.declared.blif.Blif.{Blif}
use Rattle.vrt_model.specs.declared.design.Design.{Design}
use Rattle.vrt_model.specs.declared.rules.Expr.{Expr}
use Rattle.vrt_model.specs.declared.rules.Rules.{Rules}
use Rattle.whole_solutions.specs.Instances.{HasGivenPorts}

-- The law: in the comparison of a supported cell, each net that carries a clock is that of a port with this clock, and each port
-- that an `assume` names is at a net with a given value, where each name in an `assume` of the cell is that of a port.
abbrev pub PairedPortsAreGiven : Type 0
PairedPortsAreGiven =
    (design : Design) (blif : Blif) (rules : Rules) (cell m phase : ℕ) → IsSupported design blif rules cell m
    → ((e : Expr) (name : List ℕ) → Among (assumed rules (cell_at design cell).name phase) e → Among (names_in e) name → (place : ℕ) × (place_of (cell_at design cell).ports name ≡ Some place))
    → HasGivenPorts (comparison_of design blif rules cell m) phase
