-- What was made of an equal cell is what the definitions compare.
use Rattle.std.proofs.Common.{◌≡◌, ℕ, List, Result, Ok, Err, Option, Some, ap, subst, sym, ◌∙◌}
use Rattle.std.specs.Prelude.{IfOk}
use Rattle.cell_room.proofs.Causes.{comparison_is}
use Rattle.cell_compare.specs.Cells.{IsFlattenedTo}
use Rattle.cell_room.specs.Compared.{IsFlattened, comparison}
use Rattle.cell_room.specs.Flat.{Flattened}
use Rattle.domino_cells.specs.Cells.{IsEqualIn}
use Rattle.domino_order.specs.Arrivals.{ArrivalTells}
use Rattle.domino_order.specs.declared.arrival.Arrival.{Arrival}
use Rattle.vrt_model.specs.Comparison.{Comparison}
use Rattle.vrt_model.specs.Equal.{IsPhaseEqual}
use Rattle.vrt_model.specs.PairedPorts.{Model, paired_model}
use Rattle.vrt_model.specs.Unsupported.{comparison_of}
use Rattle.vrt_model.specs.declared.NoMemory.{NoMemory}
use Rattle.vrt_model.specs.declared.blif.Blif.{Blif}
use Rattle.vrt_model.specs.declared.design.Design.{Design}
use Rattle.vrt_model.specs.declared.rules.Rules.{Rules}
use Rattle.vrt_model.specs.declared.verdict.Verdict.{Verdict}

-- a cell pairs with one model
same_model : (design : Design) (blif : Blif) (rules : Rules) (cell m n : ℕ) → paired_model design blif rules cell ≡ Model m → paired_model design blif rules cell ≡ Model n → m ≡ n
same_model design blif rules cell m n a b = (let e : Model m ≡ Model n = sym a ∙ b in cc)

-- what was made of a cell
pub made_of : (design : Design) (blif : Blif) (rules : Rules) (cell : ℕ) (verdict : Option Verdict) (made : Option Flattened) (f : Flattened) → made ≡ Some f → IsFlattenedTo design blif rules cell verdict made
    → (m : ℕ) × IsFlattened design blif rules cell m f
made_of design blif rules cell verdict made f e is = subst (λ (o : Option Flattened). IsFlattenedTo design blif rules cell verdict o) e is

module _ (design : Design) (blif : Blif) (rules : Rules) (cell : ℕ) (f : Flattened) (made : (m : ℕ) × IsFlattened design blif rules cell m f) where
  same : (n : ℕ) → IsEqualIn design blif rules cell n → comparison design rules cell f ≡ comparison_of design blif rules cell n
  same n is =
      comparison_is design blif rules cell made.0 f made.1
      ∙ ap (comparison_of design blif rules cell) (same_model design blif rules cell made.0 n made.1.paired is.supported.paired)

  pub made_equal : (phase n : ℕ) → IsEqualIn design blif rules cell n → IsPhaseEqual (comparison_of design blif rules cell n) phase → IsPhaseEqual (comparison design rules cell f) phase
  made_equal phase n is equal = subst (λ (k : Comparison). IsPhaseEqual k phase) (sym (same n is)) equal

  pub tells_of : (budget phase : ℕ) (rising : List ℕ) (result : Result Arrival NoMemory) → IfOk result (λ a. (any : Blif) → ArrivalTells (comparison design rules cell f) any budget phase rising a)
      → IfOk result (λ a. (n : ℕ) → IsEqualIn design blif rules cell n → ArrivalTells (comparison_of design blif rules cell n) blif budget phase rising a)
  tells_of budget phase rising (Ok a) tells = λ n is. subst (λ (k : Comparison). ArrivalTells k blif budget phase rising a) (same n is) (tells blif)
  tells_of budget phase rising (Err e) tells = tt
