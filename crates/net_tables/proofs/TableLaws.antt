-- What is found in the tables of a netlist.
use Rattle.std.proofs.Common.{◌≡◌, ◌<◌, [], ℕ, List, get_or, length, Option, Some, None, ap, sym, ◌∙◌}
use Rattle.std.specs.Prelude.{option_map, slice_get, unwrap_or}
use Rattle.std.proofs.lemmas.Option.{none-some, slice_get-get_or, slice_get-map}
use Rattle.net_tables.proofs.NetLaws.{net_is}
use Rattle.net_tables.specs.Names.{net_by}
use Rattle.net_tables.specs.Nets.{net_in, nets_in}
use Rattle.net_tables.specs.Tables.{AreNetTables}
use Rattle.net_tables.specs.declared.tables.NetTables.{NetTables}
use Rattle.net_tables.specs.declared.types.CellNets.{CellNets}
use Rattle.vrt_model.specs.Comparison.{cell_at}
use Rattle.vrt_model.specs.declared.design.Cell.{Cell}
use Rattle.vrt_model.specs.declared.design.Design.{Design}
use Rattle.vrt_model.specs.declared.rules.Rules.{Rules}

abbrev empty : Cell
empty = record { line = 0; name = []; ports = []; devices = []; instances = [] }

module _ (design : Design) (rules : Rules) (tables : NetTables) (are : AreNetTables design rules tables) (k : ℕ) where
  at_is : slice_get tables.cells k ≡ option_map (nets_in design rules) (slice_get design.cells k)
  at_is = ap (λ (all : List CellNets). slice_get all k) are.cells_are ∙ slice_get-map (nets_in design rules) design.cells k

  -- the nets of a cell that is there
  pub there : (nets : CellNets) → slice_get tables.cells k ≡ Some nets → nets ≡ nets_in design rules (cell_at design k)
  there nets e = by_cell (slice_get design.cells k) (sym at_is ∙ e) where
    by_cell : (o : Option Cell) → option_map (nets_in design rules) o ≡ Some nets
        → nets ≡ nets_in design rules (unwrap_or o empty)
    by_cell None h = cc
    by_cell (Some cell) h = let is : nets_in design rules cell ≡ nets = cc in sym is

  pub found : (name : List ℕ) (nets : CellNets) → slice_get tables.cells k ≡ Some nets → net_by tables.shared nets.names name ≡ net_in design rules (cell_at design k) name
  found name nets e =
      ap (λ (all : CellNets). net_by tables.shared all.names name) (there nets e) ∙ net_is design rules tables.shared are.shared_are (cell_at design k) name

  pub not_past : k < length design.cells → slice_get tables.cells k ≡ None → ⊥
  not_past lt e =
      let there : slice_get tables.cells k ≡ Some (nets_in design rules (get_or design.cells k empty)) =
      at_is ∙ ap (option_map (nets_in design rules)) (slice_get-get_or design.cells k empty lt) in none-some _ (sym e ∙ there)
