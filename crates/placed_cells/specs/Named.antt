-- What the rules name, where a netlist and its rules can be checked cell by cell.
use Rattle.std.specs.Prelude.{◌≡◌, ℕ, ◌<◌, List, Some, length}
use Rattle.vrt_model.specs.CellRules.{assumed}
use Rattle.vrt_model.specs.Comparison.{cell_at}
use Rattle.vrt_model.specs.Expressions.{names_in}
use Rattle.vrt_model.specs.Hierarchy.{AreHoldNets, IsOrdered}
use Rattle.vrt_model.specs.Inputs.{IsDesign}
use Rattle.vrt_model.specs.Lists.{Among, place_of}
use Rattle.vrt_model.specs.declared.design.Design.{Design}
use Rattle.vrt_model.specs.declared.rules.Expr.{Expr}
use Rattle.vrt_model.specs.declared.rules.Rules.{Rules}

-- The law: each `hold` rule is on a net of its cell.
abbrev pub HoldNetsAreThere : Type 0
HoldNetsAreThere = (design : Design) (rules : Rules) → IsOrdered design rules → AreHoldNets design rules

-- The law: each name in an `assume` of a cell is that of a port.
abbrev pub AssumedPortsAreThere : Type 0
AssumedPortsAreThere =
    (design : Design) (rules : Rules) (cell phase : ℕ) (e : Expr) (name : List ℕ)
    → IsDesign design → IsOrdered design rules → cell < length design.cells
    → Among (assumed rules (cell_at design cell).name phase) e → Among (names_in e) name
    → (place : ℕ) × (place_of (cell_at design cell).ports name ≡ Some place)
