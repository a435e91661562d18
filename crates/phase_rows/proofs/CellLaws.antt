-- What is known of a cell of a netlist and its rules.
use Rattle.std.proofs.Common.{◌≡◌, ℕ, ◌<◌, Option, Some, None, length, refl, sym, ◌∙◌}
use Rattle.std.specs.Prelude.{bytes_eq, slice_get, unwrap_or, []}
use Rattle.std.proofs.lemmas.Option.{none-some, slice_get-get_or}
use Rattle.constraints.proofs.OrderedLaws.{are_named}
use Rattle.constraints.specs.Obliged.{AreNamed}
use Rattle.vrt_model.proofs.Members.{all_among}
use Rattle.vrt_model.specs.Comparison.{cell_at}
use Rattle.vrt_model.specs.Hierarchy.{IsOrdered}
use Rattle.vrt_model.specs.Inputs.{AllApart, IsCell, IsDesign}
use Rattle.vrt_model.specs.Lists.{At}
use Rattle.vrt_model.specs.declared.design.Cell.{Cell}
use Rattle.vrt_model.specs.declared.design.Design.{Design}
use Rattle.vrt_model.specs.declared.rules.Rules.{Rules}

cell_there : (design : Design) (k : ℕ) → k < length design.cells → At design.cells k (cell_at design k)
cell_there design k low = by_item (slice_get design.cells k) refl
  where
    by_item : (o : Option Cell) → slice_get design.cells k ≡ o → o ≡ Some (unwrap_or o (record { line = 0; name = []; ports = []; devices = []; instances = [] }))
    by_item None e =
        let past = slice_get-get_or design.cells k (record { line = 0; name = []; ports = []; devices = []; instances = [] }) low in
        absurd (none-some _ (sym e ∙ past))
    by_item (Some cell) e = refl

-- the ports of a cell have different names
pub ports_apart : (design : Design) (k : ℕ) → IsDesign design → k < length design.cells → AllApart bytes_eq (cell_at design k).ports
ports_apart design k is low =
    let good : IsCell (cell_at design k) = all_among IsCell design.cells (cell_at design k) is.cells (k, cell_there design k low) in good.ports

-- the lines of a cell name its ports
pub lines_named : (design : Design) (rules : Rules) (k : ℕ) → IsDesign design → IsOrdered design rules → k < length design.cells → AreNamed rules (cell_at design k)
lines_named design rules k is ordered low = are_named design rules k is ordered low
