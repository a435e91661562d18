-- What is told of a cell after its verdict is true of its flat circuit.
use Rattle.std.specs.Prelude.{◌≡◌, ℕ, List}
use Rattle.checked_cells.specs.Given.{AreTrueFacts, IsReadCell}
use Rattle.substitution_laws.specs.Agreement.{IsCheckedByFacts}
use Rattle.vrt_model.specs.Checked.{with_circuit}
use Rattle.vrt_model.specs.Comparison.{CellPort, Comparison}
use Rattle.vrt_model.specs.Cut.{Cut}
use Rattle.vrt_model.specs.Equal.{IsEqual}
use Rattle.vrt_model.specs.Facts.{AreFacts, IsDriveOf, IsTrueDrive, IsTrueOf, output_ports}
use Rattle.vrt_model.specs.Lists.{Among}
use Rattle.vrt_model.specs.Unsupported.{IsSupported, comparison_of}
use Rattle.vrt_model.specs.WholeInstances.{all_outputs}
use Rattle.vrt_model.specs.declared.blif.Blif.{Blif}
use Rattle.vrt_model.specs.declared.circuit.Circuit.{Circuit}
use Rattle.vrt_model.specs.declared.design.Design.{Design}
use Rattle.vrt_model.specs.declared.rules.Rules.{Rules}
use Rattle.vrt_model.specs.declared.verdict.Verdict.{Verdict}
use Rattle.vrt_model.specs.declared.verdict.Verdict.TheVariants.{Equal}
use Rattle.vrt_model.specs.declared.whole.CellFacts.{CellFacts}
use Rattle.vrt_model.specs.declared.whole.Drive.{Drive}

-- The law: the drive of an output port of an equal cell, as it is told over the checked circuit, is true of the flat one.
abbrev pub ToldDrivesAreTrue : Type 0
ToldDrivesAreTrue =
    (k : Comparison) (cut : Cut) (blif : Blif) (facts : List CellFacts) (c : Circuit) (port : CellPort) (drive : Drive)
    → IsCheckedByFacts k cut blif facts c → IsEqual k → Among (output_ports k) port
    → IsDriveOf k (with_circuit k c) (all_outputs cut blif facts) port drive → IsTrueDrive k port drive

-- The law: so what is told of a supported cell after its verdict is true, where what was known of the cells below is, and the cell is equal
-- if that is the verdict.
abbrev pub ToldFactsAreTrue : Type 0
ToldFactsAreTrue =
    (design : Design) (blif : Blif) (rules : Rules) (cell m : ℕ) (below : List CellFacts) (verdict : Verdict) (f : CellFacts)
    → IsReadCell design blif rules cell → IsSupported design blif rules cell m → AreTrueFacts design blif rules below
    → (verdict ≡ Equal → IsEqual (comparison_of design blif rules cell m))
    → AreFacts (comparison_of design blif rules cell m) blif below verdict f → IsTrueOf design blif rules cell f
