-- What is found in the phases of a checked circuit is the verdict of its cell.
use Rattle.std.proofs.Common.{ℕ, List, [], refl, subst, arith}
use Rattle.checked_cells.proofs.CircuitLaws.{chain}
use Rattle.checked_cells.specs.Verdicts.{CheckedVariablesAreSame, FlatVerdictsHold, FoundVerdictsHold, IsFoundIn}
use Rattle.checked_chain.proofs.SettingLaws.{settings_are_same, variables_are_same}
use Rattle.substitution_laws.proofs.ChainLaws.{is_itself}
use Rattle.substitution_laws.proofs.SubstitutionLaws.{substitution_holds}
use Rattle.substitution_laws.proofs.VerdictLaws.{checked_verdicts_hold, phase_equal}
use Rattle.substitution_laws.specs.Agreement.{IsCheckedByFacts}
use Rattle.vrt_model.specs.Checked.{with_circuit}
use Rattle.vrt_model.specs.CheckedVerdicts.{HasCheckedVerdict}
use Rattle.vrt_model.specs.Comparison.{Comparison}
use Rattle.vrt_model.specs.Cut.{Cut}
use Rattle.vrt_model.specs.Verdicts.{HasVerdict}
use Rattle.vrt_model.specs.declared.blif.Blif.{Blif}
use Rattle.vrt_model.specs.declared.circuit.Circuit.{Circuit}
use Rattle.vrt_model.specs.declared.verdict.Verdict.{Verdict}
use Rattle.vrt_model.specs.declared.verdict.Verdict.TheVariants.{Equal, Skipped, Fault, Vacuous, Budget, Unsupported}
use Rattle.vrt_model.specs.declared.whole.CellFacts.{CellFacts}

pub checked_variables_are_same : CheckedVariablesAreSame
checked_variables_are_same k cut blif facts c phase h = (
  (settings_are_same k blif facts cut c (chain k cut blif facts c h) phase []).0,
  variables_are_same k blif facts cut c (chain k cut blif facts c h) phase,
)

module _ (k : Comparison) (cut : Cut) (blif : Blif) (facts : List CellFacts) (c : Circuit) (budget : ℕ) (h : IsCheckedByFacts k cut blif facts c) where
  by_verdict : (verdict : Verdict) → IsFoundIn k blif c budget verdict → HasCheckedVerdict k blif facts budget verdict
  by_verdict (Budget nodes phase) (lt, given, may, equal) = (
    lt,
    given,
    may,
    λ p low. phase_equal k (with_circuit k c) (substitution_holds k cut blif facts c h).0 p (omega (arith, lt, low)) (equal p low),
  )
  by_verdict Equal is = checked_verdicts_hold k cut blif facts c budget Equal h is
  by_verdict (Fault fault) is = checked_verdicts_hold k cut blif facts c budget (Fault fault) h is
  by_verdict (Vacuous phase) is = checked_verdicts_hold k cut blif facts c budget (Vacuous phase) h is
  by_verdict Skipped is = absurd is
  by_verdict (Unsupported why) is = absurd is

pub found_verdicts_hold : FoundVerdictsHold
found_verdicts_hold k cut blif facts c budget verdict h is = by_verdict k cut blif facts c budget h verdict is

pub flat_verdicts_hold : FlatVerdictsHold
flat_verdicts_hold k cut blif facts budget verdict h is =
    checked_verdicts_hold k cut blif facts k.circuit budget verdict h
    (subst (λ (x : Comparison). HasVerdict x blif budget verdict) (is_itself k cut blif facts k.circuit h k.circuit refl) is)
