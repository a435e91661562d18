-- What is found in the phases of a checked circuit is said of the cell.
use Rattle.std.specs.Prelude.{◌≡◌, ℕ, ◌<◌, List, length}
use Rattle.substitution_laws.specs.Agreement.{IsCheckedByFacts}
use Rattle.vrt_model.specs.Checked.{with_circuit}
use Rattle.vrt_model.specs.CheckedVerdicts.{HasCheckedVerdict}
use Rattle.vrt_model.specs.Comparison.{Comparison}
use Rattle.vrt_model.specs.Cut.{Cut}
use Rattle.vrt_model.specs.Held.{sources_of, variable_names}
use Rattle.vrt_model.specs.Verdicts.{EqualBefore, HasVerdict, MayPassBudget}
use Rattle.vrt_model.specs.declared.blif.Blif.{Blif}
use Rattle.vrt_model.specs.declared.circuit.Circuit.{Circuit}
use Rattle.vrt_model.specs.declared.verdict.Verdict.{Verdict}
use Rattle.vrt_model.specs.declared.verdict.Verdict.TheVariants.{Equal, Skipped, Fault, Vacuous, Budget, Unsupported}
use Rattle.vrt_model.specs.declared.whole.CellFacts.{CellFacts}

-- The law: the variables of a phase are those of the flat circuit, with the same names.
abbrev pub CheckedVariablesAreSame : Type 0
CheckedVariablesAreSame =
    (k : Comparison) (cut : Cut) (blif : Blif) (facts : List CellFacts) (c : Circuit) (phase : ℕ)
    → IsCheckedByFacts k cut blif facts c
    → (sources_of (with_circuit k c) phase ≡ sources_of k phase) × (variable_names (with_circuit k c) phase ≡ variable_names k phase)

-- a verdict as it is found phase by phase in the circuit; the budget may stand in place of the others where it may be passed in the flat one
abbrev pub IsFoundIn : Comparison → Blif → Circuit → ℕ → Verdict → Type 0
IsFoundIn k blif c budget (Budget nodes phase) =
    (phase < length k.rules.phases) × (nodes ≡ budget) × MayPassBudget k blif budget phase × EqualBefore (with_circuit k c) phase
IsFoundIn k blif c budget Equal = HasVerdict (with_circuit k c) blif budget Equal
IsFoundIn k blif c budget (Fault fault) = HasVerdict (with_circuit k c) blif budget (Fault fault)
IsFoundIn k blif c budget (Vacuous phase) = HasVerdict (with_circuit k c) blif budget (Vacuous phase)
IsFoundIn k blif c budget Skipped = HasVerdict (with_circuit k c) blif budget Skipped
IsFoundIn k blif c budget (Unsupported why) = HasVerdict (with_circuit k c) blif budget (Unsupported why)

-- The law: what is found in the checked circuit is the cell's verdict.
abbrev pub FoundVerdictsHold : Type 0
FoundVerdictsHold =
    (k : Comparison) (cut : Cut) (blif : Blif) (facts : List CellFacts) (c : Circuit) (budget : ℕ) (verdict : Verdict)
    → IsCheckedByFacts k cut blif facts c → IsFoundIn k blif c budget verdict → HasCheckedVerdict k blif facts budget verdict

-- The law: so is the verdict of the flat circuit, where no instance is left whole.
abbrev pub FlatVerdictsHold : Type 0
FlatVerdictsHold =
    (k : Comparison) (cut : Cut) (blif : Blif) (facts : List CellFacts) (budget : ℕ) (verdict : Verdict)
    → IsCheckedByFacts k cut blif facts k.circuit → HasVerdict k blif budget verdict → HasCheckedVerdict k blif facts budget verdict
