-- The nets of all cells.
use Rattle.std.specs.Prelude.{◌≡◌, map}
use Rattle.net_tables.specs.Names.{AreShared}
use Rattle.net_tables.specs.Nets.{nets_in}
use Rattle.net_tables.specs.declared.tables.NetTables.{NetTables}
use Rattle.vrt_model.specs.declared.design.Design.{Design}
use Rattle.vrt_model.specs.declared.rules.Rules.{Rules}

-- for each cell its nets, with what is looked up in every cell
pub record AreNetTables (design : Design) (rules : Rules) (tables : NetTables) : Type 0 where
  pub shared_are : AreShared design rules tables.shared
  pub cells_are : tables.cells ≡ map (nets_in design rules) design.cells
