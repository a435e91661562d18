-- Phases that are equal have no finding, so that the first finding of a later phase is the first.
use Rattle.std.proofs.Common.{◌≡◌, ◌⊎◌, ℕ, ◌*◌, ◌^◌, ◌≤◌, ◌<◌, Option, Some, None, length, arith, refl, sym, subst, inl, inr}
use Rattle.std.proofs.Math.Nat.{mul-le-mul_left}
use Rattle.std.proofs.lemmas.Bool.{cases_lt}
use Rattle.cell_compare.specs.Phases.{IsChecked, IsStop, MayUseUp, PhaseTells}
use Rattle.phase_laws.specs.Sums.{phase_operations, search_operations}
use Rattle.phase_terms.specs.Found.{MaySpend}
use Rattle.phase_terms.specs.Plans.{IsPhasePlan}
use Rattle.phase_terms.specs.declared.plan.PhasePlan.{PhasePlan}
use Rattle.vrt_model.specs.Comparison.{Comparison}
use Rattle.vrt_model.specs.Equal.{IsPhaseEqual}
use Rattle.vrt_model.specs.Held.{sources_of}
use Rattle.vrt_model.specs.Places.{Finding, IsFinding, IsFirst, IsFirstInPhase}
use Rattle.vrt_model.specs.Verdicts.{Describes, EqualBefore}
use Rattle.vrt_model.specs.declared.verdict.FaultAt.{FaultAt}
use Rattle.vrt_model.specs.declared.verdict.Verdict.{Verdict}
use Rattle.vrt_model.specs.declared.verdict.Verdict.TheVariants.{Equal, Skipped, Fault, Vacuous, Budget, Unsupported}

-- an equal phase has no finding
not_found : (k : Comparison) (phase : ℕ) (f : Finding) → EqualBefore k phase → f.phase < phase → IsFinding k f → ⊥
not_found k phase f equal lt is =
    let s = is.stands in
    ((equal f.phase lt).agree f.bits is.meets).no_fault s.0 s.1 s.2 s.3 f.kind f.at s.4

-- the first finding of a phase is the first where each phase before it is equal
first_of_all : (k : Comparison) (fault : FaultAt) (phase : ℕ) → EqualBefore k phase → fault.phase ≡ phase → ((f : Finding) × Describes k fault f × IsFirstInPhase k f)
    → EqualBefore k fault.phase × ((f : Finding) × Describes k fault f × IsFirst k f)
first_of_all k fault phase equal same found = (equal_here, (found.0, found.1, record { in_phase = found.2; no_earlier = λ other is. later other is (cases_lt other.phase found.0.phase) }))
  where
    equal_here : EqualBefore k fault.phase
    equal_here = subst (EqualBefore k) (sym same) equal

    later : (other : Finding) → IsFinding k other → (other.phase < found.0.phase) ⊎ (found.0.phase ≤ other.phase) → found.0.phase ≤ other.phase
    later other is (inl lt) = absurd (not_found k found.0.phase other (subst (EqualBefore k) found.1.phase equal_here) lt is)
    later other is (inr le) = le

-- where a phase stops the search and each before it is equal, that is what is found
pub stopped : (k : Comparison) (budget phase : ℕ) (verdict : Verdict) → EqualBefore k phase → phase < length k.rules.phases → IsStop k budget phase verdict → IsChecked k budget verdict
stopped k budget phase Equal equal lt stop = absurd stop
stopped k budget phase (Fault fault) equal lt stop = first_of_all k fault phase equal stop.0 stop.1
stopped k budget phase (Vacuous p) equal lt stop = subst (λ (q : ℕ). IsChecked k budget (Vacuous q)) (sym stop.0) (lt, stop.1, equal)
stopped k budget phase (Budget nodes p) equal lt stop = subst (λ (q : ℕ). IsChecked k budget (Budget nodes q)) (sym stop.0) (lt, stop.1, stop.2, equal)
stopped k budget phase Skipped equal lt stop = absurd stop
stopped k budget phase (Unsupported why) equal lt stop = absurd stop

-- where none stops it, it is equal
pub equal_phase : (k : Comparison) (budget phase : ℕ) (found : Option Verdict) → ((verdict : Verdict) → found ≡ Some verdict → ⊥) → PhaseTells k budget phase found → IsPhaseEqual k phase
equal_phase k budget phase None none tells = tells
equal_phase k budget phase (Some verdict) none tells = absurd (none verdict refl)

-- a search that uses up a budget may do so by all operations of its phase
pub used_up : (k : Comparison) (budget other phase : ℕ) (plan : PhasePlan) → other ≡ budget → IsPhasePlan k phase plan → MaySpend k other phase (search_operations k phase plan) → MayUseUp k budget phase
used_up k budget other phase plan same is spend =
    let v : ℕ = length (sources_of k phase) in
    let few : ℕ = search_operations k phase plan in
    let many : ℕ = phase_operations k phase plan in
    let passed = spend.passed in
    let product : 2 ^ v * few ≤ 2 ^ v * many = mul-le-mul_left {m = few} {n = many} (2 ^ v) (omega arith) in
    (plan, is, record { many = spend.many; passed = omega (arith, passed, product, same) })
