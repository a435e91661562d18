-- What is found phase by phase in the checked circuit of a cell is its verdict.
use Rattle.std.proofs.Common.{◌≡◌, ℕ, ◌≤◌, List, length, ap, sym, subst}
use Rattle.cell_compare.proofs.Passing.{passed_more}
use Rattle.cell_compare.specs.Phases.{IsChecked, MayUseUp}
use Rattle.checked_cells.proofs.CircuitLaws.{chain}
use Rattle.checked_cells.proofs.VerdictLaws.{checked_variables_are_same, found_verdicts_hold}
use Rattle.checked_cells.specs.Verdicts.{IsFoundIn}
use Rattle.phase_laws.proofs.PhaseWork.{spent_passes}
use Rattle.phase_laws.specs.Sums.{HasFewOutputs, work_within}
use Rattle.phase_terms.specs.Ready.{IsReady}
use Rattle.substitution_laws.proofs.BudgetLaws.{chain_has_no_more_work, fewer_devices}
use Rattle.substitution_laws.specs.Agreement.{IsCheckedByFacts}
use Rattle.vrt_model.specs.Budget.{work_of}
use Rattle.vrt_model.specs.Checked.{with_circuit}
use Rattle.vrt_model.specs.CheckedVerdicts.{HasCheckedVerdict}
use Rattle.vrt_model.specs.Comparison.{Comparison}
use Rattle.vrt_model.specs.Cut.{Cut}
use Rattle.vrt_model.specs.Held.{sources_of}
use Rattle.vrt_model.specs.Verdicts.{MayPassBudget}
use Rattle.vrt_model.specs.declared.blif.Blif.{Blif}
use Rattle.vrt_model.specs.declared.circuit.Circuit.{Circuit}
use Rattle.vrt_model.specs.declared.groups.Source.{Source}
use Rattle.vrt_model.specs.declared.verdict.Verdict.{Verdict}
use Rattle.vrt_model.specs.declared.verdict.Verdict.TheVariants.{Equal, Skipped, Fault, Vacuous, Budget, Unsupported}
use Rattle.vrt_model.specs.declared.whole.CellFacts.{CellFacts}
use Rattle.cell_room.proofs.CheckedLaws.{over_is, ready_with}

-- a budget that may be used up in a phase of the checked circuit lies below what the flat one may need
pub passed_over : (k : Comparison) (cut : Cut) (blif : Blif) (facts : List CellFacts) (c : Circuit) (budget phase : ℕ) → IsCheckedByFacts k cut blif facts c → IsReady k → budget ≤ 64000000
    → HasFewOutputs c (length k.circuit.devices) → MayUseUp (with_circuit k c) budget phase → MayPassBudget k blif budget phase
passed_over k cut blif facts c budget phase h ready small few (plan, is, spend) =
    let x = with_circuit k c in
    let all_ready : IsReady x = subst IsReady (sym (over_is k cut blif facts c h)) (ready_with k cut blif facts c ready h) in
    let devices : length c.devices ≤ length k.circuit.devices = fewer_devices k blif facts cut c (chain k cut blif facts c h) in
    let there = spent_passes x phase plan (length k.circuit.devices) all_ready is devices few budget small spend in
    let same : sources_of x phase ≡ sources_of k phase = (checked_variables_are_same k cut blif facts c phase h).0 in
    let less : work_within x (length k.circuit.devices) ≤ work_of k blif = chain_has_no_more_work k blif facts cut c (chain k cut blif facts c h) in
    passed_more (length (sources_of x phase)) (length (sources_of k phase)) (work_within x (length k.circuit.devices)) (work_of k blif) budget (ap (λ (ss : List Source). length ss) same) less there

-- what is found phase by phase in a checked circuit is the verdict
pub whole_found : (k : Comparison) (cut : Cut) (blif : Blif) (facts : List CellFacts) (c : Circuit) (budget : ℕ) (verdict : Verdict) → IsCheckedByFacts k cut blif facts c → IsReady k
    → budget ≤ 64000000 → HasFewOutputs c (length k.circuit.devices) → IsChecked (with_circuit k c) budget verdict → HasCheckedVerdict k blif facts budget verdict
whole_found k cut blif facts c budget verdict h ready small few found = found_verdicts_hold k cut blif facts c budget verdict h (by_verdict verdict found)
  where
    by_verdict : (verdict : Verdict) → IsChecked (with_circuit k c) budget verdict → IsFoundIn k blif c budget verdict
    by_verdict Equal found = found
    by_verdict (Fault fault) found = found
    by_verdict (Vacuous phase) found = found
    by_verdict (Budget nodes phase) found = (found.0, found.1, passed_over k cut blif facts c budget phase h ready small few found.2, found.3)
    by_verdict Skipped found = absurd found
    by_verdict (Unsupported why) found = absurd found
