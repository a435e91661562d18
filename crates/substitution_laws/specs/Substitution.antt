-- A checked cell's model stands for it in the cells above.
use Rattle.std.specs.Prelude.{List}
use Rattle.replaced_cells.specs.Agreement.{AgreesWith}
use Rattle.substitution_laws.specs.Agreement.{IsCheckedByFacts}
use Rattle.vrt_model.specs.Checked.{with_circuit}
use Rattle.vrt_model.specs.CheckedVerdicts.{IsSamePlace}
use Rattle.vrt_model.specs.Comparison.{Comparison}
use Rattle.vrt_model.specs.Cut.{Cut}
use Rattle.vrt_model.specs.Places.{Finding, IsFinding, IsFirstInPhase}
use Rattle.vrt_model.specs.Verdicts.{Describes}
use Rattle.vrt_model.specs.declared.blif.Blif.{Blif}
use Rattle.vrt_model.specs.declared.circuit.Circuit.{Circuit}
use Rattle.vrt_model.specs.declared.verdict.FaultAt.{FaultAt}
use Rattle.vrt_model.specs.declared.whole.CellFacts.{CellFacts}

-- what describes the first finding of one comparison describes one of another at the same place
abbrev pub FirstStands : Comparison → Cut → Comparison → Type 0
FirstStands k cut j =
    (fault : FaultAt) (f : Finding) → Describes j fault f → IsFirstInPhase j f
    → (flat : Finding) × Describes k fault flat × IsFinding k flat × IsSamePlace cut fault.kind flat.at f.at

-- The law: nothing is wrong in the flat circuit exactly where nothing is wrong in the checked one, and the first fault of this stands in
-- that.
abbrev pub SubstitutionHolds : Type 0
SubstitutionHolds =
    (k : Comparison) (cut : Cut) (blif : Blif) (facts : List CellFacts) (c : Circuit)
    → IsCheckedByFacts k cut blif facts c
    → AgreesWith k (with_circuit k c) × FirstStands k cut (with_circuit k c)
