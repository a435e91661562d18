-- The model has exactly one assignment at each list of bits, and each list of bits is that of a case.
use Rattle.std.proofs.Common.{◌≡◌, ℕ, ◌<◌, ◌++◌, Bool, false, List, Option, Some, length, ap, refl, sym, subst, ◌∙◌, inl, inr}
use Rattle.std.specs.Prelude.{find, option_map, unwrap_or, ◌==◌}
use Rattle.std.proofs.lemmas.Bool.{eqb-true}
use Rattle.std.proofs.lemmas.Option.{none-some, same_Some}
use Rattle.blif_eval.specs.OneAssignment.{HasOneAssignment}
use Rattle.blif_eval.specs.Plans.{HasKnownBits}
use Rattle.fault_places.specs.Searches.{HasCases}
use Rattle.phase_laws.proofs.Observed.{observed_nets}
use Rattle.phase_laws.specs.Models.{AreGiven, HasCaseAt, HasOneModel, IsAssignedAt, default_bit}
use Rattle.phase_terms.specs.Plans.{AreCarried, IsPhasePlan}
use Rattle.phase_terms.specs.Ready.{IsReady}
use Rattle.phase_terms.specs.declared.plan.PhasePlan.{PhasePlan}
use Rattle.vrt_model.proofs.Members.{find_among}
use Rattle.vrt_model.proofs.Tests.{some_or_none}
use Rattle.vrt_model.specs.Assignment.{Assignment, HasInterface}
use Rattle.vrt_model.specs.Comparison.{Comparison, is_observed, phase_at}
use Rattle.vrt_model.specs.Faults.{Assigns}
use Rattle.vrt_model.specs.Held.{setting_of}
use Rattle.vrt_model.specs.Lists.{Among}
use Rattle.vrt_model.specs.ModelArcs.{carried_bits}
use Rattle.vrt_model.specs.Reading.{clock_bit}
use Rattle.vrt_model.specs.declared.pairing.ClockedSignal.{ClockedSignal}
use Rattle.vrt_model.specs.declared.rules.Phase.{Phase}

-- ---- signals that carry clocks

-- a signal with a carried bit is that of a clock with this bit
carried_clock : (phase : Phase) (clocked : List ClockedSignal) (s : ℕ) (b : Bool) → carried_bits phase clocked s ≡ Some b
    → (c : ClockedSignal) × Among clocked c × (c.signal ≡ s) × (clock_bit phase c.clock ≡ b)
carried_clock phase clocked s b e =
    elim (some_or_none (find (λ (c : ClockedSignal). c.signal == s) clocked)) [
      | inl f ↦
          let m = find_among (λ (c : ClockedSignal). c.signal == s) clocked f.0 f.1 in
          let bit : Some (clock_bit phase f.0.clock) ≡ Some b = sym (ap (option_map (λ (c : ClockedSignal). clock_bit phase c.clock)) f.1) ∙ e in
          (f.0, m.0, eqb-true f.0.signal s m.1, same_Some (clock_bit phase f.0.clock) b bit)
      | inr n ↦ absurd (none-some b (sym (ap (option_map (λ (c : ClockedSignal). clock_bit phase c.clock)) n) ∙ e))
    ]

module _ (k : Comparison) (phase : ℕ) (given : List Bool → ℕ → Bool) (ready : IsReady k) (are : AreGiven k phase given) (bits : List Bool) where
  -- ---- the interface

  interface_of : (g : Assignment) → Assigns k phase (setting_of k phase bits) g → HasInterface k.model (given bits) g
  interface_of g is s m =
      elim (ready.inputs.all s m) [
        | inl c ↦ subst (λ (x : ℕ). g.signal x ≡ given bits x) c.2 (is.clocks c.0 c.1 ∙ sym (are.clocked bits c.0 c.1))
        | inr t ↦ subst (λ (x : ℕ). g.signal x ≡ given bits x) t.2 (is.inputs t.0 t.1 ∙ sym (are.tied bits t.0 t.1))
      ]

  -- an assignment in the surroundings of the cell is one with the bits that are given
  pub to_assigned : (g : Assignment) → Assigns k phase (setting_of k phase bits) g → IsAssignedAt k phase given bits g
  to_assigned g is = record { interface = interface_of g is; obeys = is.obeys }

  pub from_assigned : (g : Assignment) → IsAssignedAt k phase given bits g → Assigns k phase (setting_of k phase bits) g
  from_assigned g is = record {
    clocks = λ c m. is.interface c.signal (ready.inputs.clocked c m) ∙ are.clocked bits c m;
    inputs = λ t m. is.interface t.signal (ready.inputs.tied t m) ∙ are.tied bits t m;
    obeys = is.obeys;
  }

  -- ---- what is known

  known_bits : (known : List (Option Bool)) → AreCarried k phase known → HasKnownBits k.model known (default_bit k phase) (given bits)
  known_bits known carried = record {
    signals = λ s b lt e.
        let c = carried_clock (phase_at k.rules phase) k.pairing.clocked s b (sym (carried.signals s lt) ∙ e) in (
          subst (λ (x : ℕ). Among (k.model.inputs ++ k.model.clocks) x) c.2 (ready.inputs.clocked c.0 c.1),
          subst (λ (x : ℕ). given bits x ≡ b) c.2 (are.clocked bits c.0 c.1 ∙ c.3),
        );
    clock = λ b e. ap (λ (o : Option Bool). unwrap_or o false) (sym carried.clock ∙ e);
  }

  one_here : (plan : PhasePlan) → IsPhasePlan k phase plan → HasOneAssignment k.model (default_bit k phase) (setting_of k phase bits).elements (given bits)
  one_here plan is = is.model.assigned (default_bit k phase) (setting_of k phase bits).elements (given bits) (known_bits is.known is.carried)

-- exactly one assignment at each list of bits
pub one_model : (k : Comparison) (phase : ℕ) (plan : PhasePlan) (given : List Bool → ℕ → Bool) → IsReady k → IsPhasePlan k phase plan → AreGiven k phase given → HasOneModel k phase
one_model k phase plan given ready is are = record {
  some = λ bits. (let h = (one_here k phase given ready are bits plan is).some in (h.0, from_assigned k phase given ready are bits h.0 h.1));
  one = λ bits g h one two.
      let same = (one_here k phase given ready are bits plan is).one g h (to_assigned k phase given ready are bits g one) (to_assigned k phase given ready are bits h two) in
      record { signals = same.signal; elements = same.next };
}

-- ---- cases

-- a case at each list of bits
pub case_at : (k : Comparison) (phase : ℕ) (plan : PhasePlan) → IsReady k → phase < length k.rules.phases → IsPhasePlan k phase plan → HasOneModel k phase → HasCaseAt k phase
case_at k phase plan ready range is model bits =
    let solved = is.parts.4 (is_observed k phase) (setting_of k phase bits) (observed_nets k phase ready).0 (ready.wholes phase range).determined in
    let g = model.some bits in
    (record { bits = bits; solution = solved.bits; assignment = g.0; solves = solved.solves; assigns = g.1 }, refl)

pub has_cases : (k : Comparison) (phase : ℕ) (plan : PhasePlan) → IsReady k → phase < length k.rules.phases → IsPhasePlan k phase plan → HasOneModel k phase → HasCases k phase
has_cases k phase plan ready range is model bits width = case_at k phase plan ready range is model bits
