-- What is known of the first cell alone.
use Rattle.std.proofs.Common.{ℕ, zero, suc, List, [], ◌∷◌, subst}
use Rattle.std.proofs.lemmas.Option.{none-some, same_Some}
use Rattle.cell_compare.specs.Cells.{HasFacts}
use Rattle.checked_cells.specs.Given.{AreTrueFacts}
use Rattle.vrt_model.specs.Facts.{IsTrueOf}
use Rattle.vrt_model.specs.Lists.{At}
use Rattle.vrt_model.specs.declared.blif.Blif.{Blif}
use Rattle.vrt_model.specs.declared.design.Design.{Design}
use Rattle.vrt_model.specs.declared.rules.Rules.{Rules}
use Rattle.vrt_model.specs.declared.verdict.Verdict.{Verdict}
use Rattle.vrt_model.specs.declared.whole.CellFacts.{CellFacts}

pub first_is_known : (design : Design) (blif : Blif) (rules : Rules) (below : List CellFacts) (verdict : Verdict) (f : CellFacts) → HasFacts design blif rules below 0 verdict f
    → AreTrueFacts design blif rules (f ∷ [])
first_is_known design blif rules below verdict f has = record { told = told }
  where
    told : (cell : ℕ) (g : CellFacts) → At (f ∷ []) cell g → IsTrueOf design blif rules cell g
    told zero g e = subst (IsTrueOf design blif rules 0) (same_Some f g e) has.is_true
    told (suc n) g e = absurd (none-some g e)
