-- Verdicts of the checked circuit are verdicts of the cell.
use Rattle.std.proofs.Common.{ℕ, ◌<◌, List, [], length, ap, sym, subst, arith}
use Rattle.checked_chain.proofs.SettingLaws.{settings_are_same}
use Rattle.checked_chain.specs.Holds.{IsOfChain}
use Rattle.replaced_cells.specs.Agreement.{AgreesWith}
use Rattle.substitution_laws.proofs.BudgetLaws.{chain_needs_no_more}
use Rattle.substitution_laws.proofs.EndsLaws.{chosen_ends_are_shown}
use Rattle.substitution_laws.proofs.SubstitutionLaws.{substitution_holds}
use Rattle.substitution_laws.specs.Agreement.{IsCheckedByFacts}
use Rattle.substitution_laws.specs.Substitution.{FirstStands}
use Rattle.substitution_laws.specs.Verdicts.{CheckedVerdictsHold}
use Rattle.vrt_model.specs.Checked.{with_circuit}
use Rattle.vrt_model.specs.CheckedVerdicts.{HasCheckedVerdict}
use Rattle.vrt_model.specs.Comparison.{Comparison}
use Rattle.vrt_model.specs.Cut.{Cut}
use Rattle.vrt_model.specs.Equal.{IsPhaseEqual, IsVacuous}
use Rattle.vrt_model.specs.Verdicts.{EqualBefore, HasVerdict, MayPassBudget}
use Rattle.vrt_model.specs.declared.blif.Blif.{Blif}
use Rattle.vrt_model.specs.declared.circuit.Circuit.{Circuit}
use Rattle.vrt_model.specs.declared.groups.Source.{Source}
use Rattle.vrt_model.specs.declared.verdict.Verdict.{Verdict}
use Rattle.vrt_model.specs.declared.verdict.Verdict.TheVariants.{Equal, Skipped, Fault, Vacuous, Budget, Unsupported}
use Rattle.vrt_model.specs.declared.whole.CellFacts.{CellFacts}

-- ---- phases of comparisons that agree

module _ (k j : Comparison) (agrees : AgreesWith k j) where
  pub phase_equal : (phase : ℕ) → phase < length k.rules.phases → IsPhaseEqual j phase → IsPhaseEqual k phase
  phase_equal phase lt equal = record {
    met = (equal.met.0, (agrees.meets phase equal.met.0).1 equal.met.1);
    agree = λ bits meets. (agrees.agree phase bits lt meets).1 (equal.agree bits ((agrees.meets phase bits).0 meets));
  }

  equal_before : (phase : ℕ) → phase < length k.rules.phases → EqualBefore j phase → EqualBefore k phase
  equal_before phase lt before p low = phase_equal p (omega (arith, lt, low)) (before p low)

  vacuous : (phase : ℕ) → IsVacuous j phase → IsVacuous k phase
  vacuous phase none bits meets = none bits ((agrees.meets phase bits).0 meets)

-- ---- the checked circuit

module _ (k : Comparison) (cut : Cut) (blif : Blif) (facts : List CellFacts) (c : Circuit) (budget : ℕ) (h : IsCheckedByFacts k cut blif facts c) where
  abbrev whole : AgreesWith k (with_circuit k c) × FirstStands k cut (with_circuit k c)
  whole = substitution_holds k cut blif facts c h

  chain : IsOfChain k blif facts cut c
  chain = record { top = h.top; flat = h.flat; groups = h.groups; circuit = h.circuit; ends = chosen_ends_are_shown cut blif facts h.choice }

  before : (phase : ℕ) → phase < length k.rules.phases → EqualBefore (with_circuit k c) phase → EqualBefore k phase
  before = equal_before k (with_circuit k c) whole.0

  may_pass : (phase : ℕ) → MayPassBudget (with_circuit k c) blif budget phase → MayPassBudget k blif budget phase
  may_pass phase may =
      let same = ap (λ (sources : List Source). length sources) (settings_are_same k blif facts cut c chain phase []).0 in
      let many = may.0 in
      let passed = may.1 in
      let less = chain_needs_no_more k blif facts cut c phase chain in
      (omega (arith, same, many), omega (arith, passed, less))

  by_verdict : (verdict : Verdict) → HasVerdict (with_circuit k c) blif budget verdict → HasCheckedVerdict k blif facts budget verdict
  by_verdict Equal equal = λ phase lt. phase_equal k (with_circuit k c) whole.0 phase lt (equal phase lt)
  by_verdict (Fault fault) (earlier, (f, describes, first)) =
      let flat = whole.1 fault f describes first.in_phase in
      let lt = subst (λ (p : ℕ). p < length k.rules.phases) (sym describes.phase) first.in_phase.found.phase in (
        before fault.phase lt earlier,
        (cut, c, flat.0, f, h.top, record { chosen = h.choice.tried; circuit = h.circuit }, flat.1, flat.2, describes, first, flat.3),
      )
  by_verdict (Vacuous phase) (lt, none, earlier) = (lt, vacuous k (with_circuit k c) whole.0 phase none, before phase lt earlier)
  by_verdict (Budget nodes phase) (lt, given, may, earlier) = (lt, given, may_pass phase may, before phase lt earlier)
  by_verdict Skipped is = absurd is
  by_verdict (Unsupported why) is = absurd is

pub checked_verdicts_hold : CheckedVerdictsHold
checked_verdicts_hold k cut blif facts c budget verdict h is = by_verdict k cut blif facts c budget h verdict is
