-- What is written of an equal cell stands for its model.
use Rattle.std.specs.Prelude.{◌≡◌, ℕ, List, Ok, length}
use Rattle.blif_reader.specs.Cards.{cards_of}
use Rattle.blif_reader.specs.Models.{blif_of}
use Rattle.cell_writer.specs.Written.{WriteGives}
use Rattle.formed_cells.specs.Formed.{AreRead}
use Rattle.vrt_model.specs.Equal.{IsEqual}
use Rattle.vrt_model.specs.FlatBlif.{model_at}
use Rattle.vrt_model.specs.Unsupported.{IsSupported, comparison_of}
use Rattle.vrt_model.specs.declared.blif.Blif.{Blif}
use Rattle.vrt_model.specs.declared.design.Design.{Design}
use Rattle.vrt_model.specs.declared.rules.Rules.{Rules}
use Rattle.written_logic.specs.Standing.{StandsFor}

-- what is read of the text is one model, which stands for the models of the cell
pub record StandsAlone (design : Design) (rules : Rules) (cell : ℕ) (text : List ℕ) : Type 0 where
  pub one : length (blif_of (cards_of text)).models ≡ 1
  pub stands : StandsFor design rules cell text

-- The law: the text of an equal cell in whose way nothing stands.
abbrev pub WrittenCellsStand : Type 0
WrittenCellsStand =
    (design : Design) (blif : Blif) (rules : Rules) (cell m budget : ℕ) (text : List ℕ)
    → AreRead blif rules → IsSupported design blif rules cell m → IsEqual (comparison_of design blif rules cell m)
    → WriteGives (comparison_of design blif rules cell m) blif (model_at blif m) budget (Ok text) → StandsAlone design rules cell text
