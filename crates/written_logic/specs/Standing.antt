-- A text that stands for the models of a cell.
use Rattle.std.specs.Prelude.{ℕ, ◌≤◌, List}
use Rattle.blif_reader.specs.Cards.{cards_of}
use Rattle.blif_reader.specs.Models.{blif_of}
use Rattle.blif_reader.specs.Refused.{fault_of}
use Rattle.formed_cells.specs.Formed.{AreRead}
use Rattle.model_writer.specs.Counts.{signal_count}
use Rattle.text_lines.specs.Faults.{IsClean}
use Rattle.vrt_model.specs.Equal.{IsEqual}
use Rattle.vrt_model.specs.FlatBlif.{model_at}
use Rattle.vrt_model.specs.Limits.{most_signals}
use Rattle.vrt_model.specs.Models.{AreModels}
use Rattle.vrt_model.specs.Unsupported.{IsSupported, comparison_of}
use Rattle.vrt_model.specs.declared.blif.Blif.{Blif}
use Rattle.vrt_model.specs.declared.design.Design.{Design}
use Rattle.vrt_model.specs.declared.rules.Rules.{Rules}
use Rattle.written_logic.specs.Logics.{HasFreeNames, IsCombinational, IsLogicOf}
use Rattle.written_models.specs.Written.{Logic, written_text}

-- no card of the text has a fault, what is read can be unrolled, and with it in the place of all models nothing stands against the cell and it is
-- equal
pub record StandsFor (design : Design) (rules : Rules) (cell : ℕ) (text : List ℕ) : Type 0 where
  pub clean : IsClean fault_of (cards_of text)
  pub good : AreModels (blif_of (cards_of text))
  pub supported : IsSupported design (blif_of (cards_of text)) rules cell 0
  pub equal : IsEqual (comparison_of design (blif_of (cards_of text)) rules cell 0)

-- an equal cell without state and clock ports, in the way of which nothing stands, and what is written of it, with free names and few signals
pub record IsWrittenCell (design : Design) (blif : Blif) (rules : Rules) (cell m : ℕ) (l : Logic) : Type 0 where
  pub read : AreRead blif rules
  pub supported : IsSupported design blif rules cell m
  pub equal : IsEqual (comparison_of design blif rules cell m)
  pub combinational : IsCombinational (comparison_of design blif rules cell m)
  pub logic : IsLogicOf (comparison_of design blif rules cell m) (model_at blif m) l
  pub free : HasFreeNames l
  pub few : signal_count l ≤ most_signals

-- The law: its text stands for its model.
abbrev pub WrittenTextsStand : Type 0
WrittenTextsStand =
    (design : Design) (blif : Blif) (rules : Rules) (cell m : ℕ) (l : Logic) → IsWrittenCell design blif rules cell m l
    → StandsFor design rules cell (written_text l)
