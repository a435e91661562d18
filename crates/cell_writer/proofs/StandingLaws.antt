-- The text that is written stands for the model of the cell.
use Rattle.std.proofs.Common.{◌≡◌, ℕ, List, ap, length, subst, sym}
use Rattle.blif_reader.specs.Cards.{cards_of}
use Rattle.blif_reader.specs.Models.{blif_of}
use Rattle.cell_writer.proofs.RefusedLaws.{combinational, free_names}
use Rattle.cell_writer.specs.Refused.{MayBeWritten}
use Rattle.cell_writer.specs.Standing.{StandsAlone, WrittenCellsStand}
use Rattle.cell_writer.specs.Written.{IsText}
use Rattle.formed_cells.specs.Formed.{AreRead}
use Rattle.vrt_model.specs.Equal.{IsEqual}
use Rattle.vrt_model.specs.FlatBlif.{model_at}
use Rattle.vrt_model.specs.Unsupported.{IsSupported, comparison_of}
use Rattle.vrt_model.specs.declared.blif.Blif.{Blif}
use Rattle.vrt_model.specs.declared.design.Design.{Design}
use Rattle.vrt_model.specs.declared.rules.Rules.{Rules}
use Rattle.written_logic.proofs.LogicModels.{written_texts_stand}
use Rattle.written_logic.proofs.Writable.{writable}
use Rattle.written_logic.specs.Logics.{HasFreeNames}
use Rattle.written_logic.specs.Standing.{StandsFor}
use Rattle.written_models.proofs.WrittenNames.{written_texts_are_read}
use Rattle.written_models.specs.Written.{Logic, written_text}

module _ (design : Design) (blif : Blif) (rules : Rules) (cell m : ℕ) (text : List ℕ) (read : AreRead blif rules) (supported : IsSupported design blif rules cell m)
    (equal : IsEqual (comparison_of design blif rules cell m)) (may : MayBeWritten (comparison_of design blif rules cell m) (model_at blif m)) (l : Logic)
    (is : IsText (comparison_of design blif rules cell m) (model_at blif m) l text) where
  free : HasFreeNames l
  free = free_names (comparison_of design blif rules cell m) (model_at blif m) l may is.logic.interface

  stands : StandsFor design rules cell (written_text l)
  stands =
      written_texts_stand design blif rules cell m l
      (record {
        read = read;
        supported = supported;
        equal = equal;
        combinational = combinational (comparison_of design blif rules cell m) (model_at blif m) may;
        logic = is.logic;
        free = free;
        few = is.signals;
      })

  one : length (blif_of (cards_of (written_text l))).models ≡ 1
  one =
      ap (λ (b : Blif). length b.models)
      (written_texts_are_read l (writable design blif rules cell m l read supported is.logic.interface free is.signals)).model

  pub stands_alone : StandsAlone design rules cell text
  stands_alone = subst (λ (t : List ℕ). StandsAlone design rules cell t) (sym is.is) (record { one = one; stands = stands })

pub written_cells_stand : WrittenCellsStand
written_cells_stand design blif rules cell m budget text read supported equal gives = stands_alone design blif rules cell m text read supported equal gives.0 gives.1.0 gives.1.1
