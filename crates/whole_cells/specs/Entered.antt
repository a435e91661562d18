-- Chosen instances, each with an entry in the table of cells.
use Rattle.std.specs.Prelude.{◌≡◌, ℕ, suc, true, List, Option, Some, None}
use Rattle.checked_chain.specs.Arcs.{AreWholeOutputsApart}
use Rattle.formed_cells.specs.Formed.{AreRead}
use Rattle.net_places.specs.Links.{IsUnrolled}
use Rattle.net_places.specs.declared.places.Place.{Place}
use Rattle.net_places.specs.declared.whole.Unrolled.{Unrolled}
use Rattle.whole_circuits.specs.WholeCells.{AreWholeCells}
use Rattle.whole_circuits.specs.declared.whole_cell.WholeCell.{WholeCell}
use Rattle.vrt_model.specs.Cut.{Cut}
use Rattle.vrt_model.specs.Facts.{IsTrueOf}
use Rattle.vrt_model.specs.Hierarchy.{bad_card}
use Rattle.vrt_model.specs.Lists.{Among, At}
use Rattle.vrt_model.specs.Unrolled.{Top}
use Rattle.vrt_model.specs.Unsupported.{supply_tie}
use Rattle.vrt_model.specs.declared.blif.Blif.{Blif}
use Rattle.vrt_model.specs.declared.whole.CellFacts.{CellFacts}
use Rattle.whole_cells.specs.Entries.{IsEntry}

-- a cell unrolled, in which each port is tied to a net, and a table with the entry of the cell of each of its places
pub record IsEntered (t : Top) (blif : Blif) (facts : List CellFacts) (unrolled : Unrolled) (cells : List (Option WholeCell)) : Type 0 where
  pub cards : bad_card t.design ≡ None
  pub ties : supply_tie t ≡ None
  pub unrolled_is : IsUnrolled t unrolled
  pub entries :
      (place : Place) (entry : Option WholeCell) → Among unrolled.places place → At cells place.cell entry → IsEntry t blif facts place.cell entry

-- each chosen instance is of a cell whose instances may be left whole
abbrev pub AreEntered : Cut → Unrolled → List (Option WholeCell) → Type 0
AreEntered cut unrolled cells = (i : ℕ) (place : Place) → cut.choice i ≡ true → At unrolled.places (suc i) place → (own : WholeCell) × At cells place.cell (Some own)

-- The law: then the table has what these instances have in common.
abbrev pub EnteredAreWholeCells : Type 0
EnteredAreWholeCells =
    (cut : Cut) (blif : Blif) (facts : List CellFacts) (unrolled : Unrolled) (cells : List (Option WholeCell))
    → IsEntered cut.top blif facts unrolled cells → AreEntered cut unrolled cells → AreWholeCells cut blif facts unrolled cut.top.rules.phases cells

-- The law: and the outputs of their cells have different signals, where facts are true.
abbrev pub EnteredAreApart : Type 0
EnteredAreApart =
    (cut : Cut) (blif : Blif) (facts : List CellFacts) (unrolled : Unrolled) (cells : List (Option WholeCell))
    → AreRead blif cut.top.rules → ((cell : ℕ) (f : CellFacts) → At facts cell f → IsTrueOf cut.top.design blif cut.top.rules cell f)
    → IsEntered cut.top blif facts unrolled cells → AreEntered cut unrolled cells → AreWholeOutputsApart cut blif
