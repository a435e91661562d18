-- The comparisons of the supported cells of a netlist, models and rules as readers give them.
use Rattle.std.proofs.Common.{ℕ, List}
use Rattle.formed_cells.proofs.FormedLaws.{supported_cells_are_formed}
use Rattle.formed_cells.specs.Formed.{IsFormed}
use Rattle.substitution_laws.specs.Chosen.{IsChoiceByFacts}
use Rattle.vrt_model.specs.Cut.{Cut}
use Rattle.vrt_model.specs.Unsupported.{IsSupported, comparison_of}
use Rattle.vrt_model.specs.declared.blif.Blif.{Blif}
use Rattle.vrt_model.specs.declared.whole.CellFacts.{CellFacts}

-- each is well formed
pub formed_cell : (cut : Cut) (blif : Blif) (facts : List CellFacts) (cell m : ℕ) → IsChoiceByFacts cut blif facts → IsSupported cut.top.design blif cut.top.rules cell m
    → IsFormed (comparison_of cut.top.design blif cut.top.rules cell m)
formed_cell cut blif facts cell m h supported = supported_cells_are_formed cut.top.design blif cut.top.rules cell m h.read supported
