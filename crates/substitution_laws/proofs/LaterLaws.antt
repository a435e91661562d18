-- The first fault of the checked circuit, where it is found once all nets are solved, is one of the flat circuit.
use Rattle.std.proofs.Common.{◌≡◌, ℕ, zero, suc, ◌<◌, Bool, true, false, List, [], ◌∷◌, length, Option, refl, ap₂, sym, ◌∙◌, subst, arith, inl, inr}
use Rattle.std.specs.Prelude.{IsSome, nat_eq, nat_lt, ◌&&◌, ◌||◌}
use Rattle.std.proofs.lemmas.Bool.Decides.{nat_tests}
use Rattle.std.proofs.lemmas.Bool.{cases_Bool, false≢true}
use Rattle.channel_parts.specs.OneSolution.{HasOneSolution}
use Rattle.checked_chain.proofs.EndLaws.{chain_begins_flat}
use Rattle.checked_chain.proofs.FindingLaws.{descriptions_move}
use Rattle.checked_chain.proofs.SettingLaws.{constraints_are_same, settings_are_same}
use Rattle.checked_chain.proofs.StepLaws.{none_more_is_same}
use Rattle.checked_chain.proofs.ThereLaws.{chain_is_there}
use Rattle.checked_chain.specs.Holds.{IsOfChain}
use Rattle.firm_faults.specs.FirmGround.{IsFoundByRank}
use Rattle.placed_cells.specs.Above.{net_above}
use Rattle.replaced_cells.proofs.BrokenLaws.{breaks_constrained, breaks_there, ports_same}
use Rattle.replaced_cells.proofs.GoesDown.{bits_go_down}
use Rattle.replaced_cells.proofs.ObservedFaults.{observed_bits_show_faults}
use Rattle.replaced_cells.proofs.PrintedLaws.{apart_printed, differs_printed, enter_printed, next_printed, printed_below}
use Rattle.replaced_cells.proofs.SharedFaults.{bit_same, calm_below, faults_stand_below}
use Rattle.replaced_cells.proofs.SolvedAlike.{plain_there}
use Rattle.replaced_cells.specs.Agreement.{HaveSameBits}
use Rattle.replaced_cells.specs.Faults.{IsSameIn}
use Rattle.replaced_cells.specs.OneMoreWhole.{IsOneMoreWhole, all_bits}
use Rattle.replaced_instances.specs.Steps.{compared_at, compared_at_step, drive_at, exposed_at, fresh_place, is_outside_at}
use Rattle.substitution_laws.proofs.ChainLaws.{always_solved, at_last, determined_at, is_itself, nets_observed, of_chain, ranges_at, step_at}
use Rattle.substitution_laws.proofs.ChosenLaws.{chosen_instances_are_steps}
use Rattle.substitution_laws.proofs.EndsLaws.{chosen_ends_are_shown}
use Rattle.substitution_laws.proofs.FirstLaws.{flat_solved}
use Rattle.substitution_laws.proofs.OneMoreLaws.{instance_is, one_more}
use Rattle.substitution_laws.proofs.PrintedBits.{printed_same}
use Rattle.substitution_laws.proofs.WholeCells.{IsChosenAt, shown}
use Rattle.substitution_laws.specs.Agreement.{IsCheckedByFacts}
use Rattle.substitution_laws.specs.LaterFaults.{IsFoundLater, LaterFaultsStandBelow}
use Rattle.substitution_laws.specs.Steps.{IsStepOf}
use Rattle.vrt_model.specs.Assignment.{Assignment}
use Rattle.vrt_model.specs.Checked.{IsCircuitWith, before, with_circuit}
use Rattle.vrt_model.specs.CheckedVerdicts.{IsSamePlace}
use Rattle.vrt_model.specs.Comparison.{Comparison, is_observed, phase_at}
use Rattle.vrt_model.specs.Cut.{Cut, NumberedPlace}
use Rattle.vrt_model.specs.Faults.{Assigns, BreaksConstraint, IsPrintedWith, Responds, Solves, Stands}
use Rattle.vrt_model.specs.FlatCircuit.{flat_instance}
use Rattle.vrt_model.specs.Held.{setting_of}
use Rattle.vrt_model.specs.Known.{IsPlain}
use Rattle.vrt_model.specs.Lists.{Among}
use Rattle.vrt_model.specs.Places.{Finding, IsFinding, IsFirstInPhase, comes_before, greatest_rank, named_nets, standing}
use Rattle.vrt_model.specs.Reading.{Partial, bare}
use Rattle.vrt_model.specs.Response.{Fight as FightResponse}
use Rattle.vrt_model.specs.Solution.{SameObserved}
use Rattle.vrt_model.specs.State.{Setting}
use Rattle.vrt_model.specs.Unrolled.{Place, Top, all_places}
use Rattle.vrt_model.specs.Verdicts.{Describes}
use Rattle.vrt_model.specs.declared.blif.Blif.{Blif}
use Rattle.vrt_model.specs.declared.circuit.Circuit.{Circuit}
use Rattle.vrt_model.specs.declared.circuit.FlatInstance.{FlatInstance}
use Rattle.vrt_model.specs.declared.verdict.FaultAt.{FaultAt}
use Rattle.vrt_model.specs.declared.verdict.FaultKind.{FaultKind}
use Rattle.vrt_model.specs.declared.verdict.FaultKind.TheVariants.{Fight, FightKept, Float, Unsettled, Constraint, Differs, Next, Apart, Enter}
use Rattle.vrt_model.specs.declared.whole.CellFacts.{CellFacts}
use Rattle.whole_ranks.proofs.DefinedLaws.{solutions_are_defined}
use Rattle.channel_parts.specs.OneSolution.{AreDetermined}
use Rattle.whole_solutions.proofs.ObservedCases.{instance_observed}

-- ---- the order of stages

-- a later stage begins with a greater number
later_stage : (k : Comparison) (phase : ℕ) (rank least : ℕ → ℕ) (kind : FaultKind) (at : ℕ) → IsFoundLater kind → (s : ℕ) × (rest : List ℕ) × (standing k phase rank least kind at ≡ suc s ∷ rest)
later_stage k phase rank least Fight at ok = absurd ok
later_stage k phase rank least Float at ok = absurd ok
later_stage k phase rank least Constraint at ok = absurd ok
later_stage k phase rank least FightKept at ok = (0, at ∷ 0 ∷ [], refl)
later_stage k phase rank least Unsettled at ok = (0, at ∷ 1 ∷ [], refl)
later_stage k phase rank least Differs at ok = (1, at ∷ [], refl)
later_stage k phase rank least Next at ok = (2, at ∷ [], refl)
later_stage k phase rank least Apart at ok = (3, at ∷ [], refl)
later_stage k phase rank least Enter at ok = (4, at ∷ [], refl)

-- and the first one with 0
first_stage : (k : Comparison) (phase : ℕ) (rank least : ℕ → ℕ) (kind : FaultKind) (at : ℕ) → IsFoundByRank kind → (rest : List ℕ) × (standing k phase rank least kind at ≡ 0 ∷ rest)
first_stage k phase rank least Fight at ok = (rank at ∷ 0 ∷ least at ∷ at ∷ 0 ∷ [], refl)
first_stage k phase rank least Float at ok = (rank at ∷ 0 ∷ least at ∷ at ∷ 1 ∷ [], refl)
first_stage k phase rank least Constraint at ok = (greatest_rank rank (named_nets k phase at) ∷ 1 ∷ at ∷ [], refl)
first_stage k phase rank least FightKept at ok = absurd ok
first_stage k phase rank least Unsettled at ok = absurd ok
first_stage k phase rank least Differs at ok = absurd ok
first_stage k phase rank least Next at ok = absurd ok
first_stage k phase rank least Apart at ok = absurd ok
first_stage k phase rank least Enter at ok = absurd ok

-- which comes first
never_before : (s : ℕ) (xs ys : List ℕ) → comes_before (suc s ∷ xs) (0 ∷ ys) ≡ false
never_before s xs ys =
    let low : nat_lt (suc s) 0 ≡ false = grind (arith, nat_tests) in
    let same : nat_eq (suc s) 0 ≡ false = grind (arith, nat_tests) in
    ap₂ (λ (a b : Bool). a || (b && comes_before xs ys)) low same

not_both : (kind : FaultKind) → IsFoundLater kind → IsFoundByRank kind → ⊥
not_both Fight l b = l
not_both Float l b = l
not_both Constraint l b = l
not_both FightKept l b = b
not_both Unsettled l b = b
not_both Differs l b = b
not_both Next l b = b
not_both Apart l b = b
not_both Enter l b = b

-- such a fault keeps its place from circuit to circuit
kept_place : (c d : Circuit) (kind : FaultKind) (m n : ℕ) → IsFoundLater kind → IsSameIn c d kind m n → m ≡ n
kept_place c d Fight m n ok is = absurd ok
kept_place c d Float m n ok is = absurd ok
kept_place c d Constraint m n ok is = absurd ok
kept_place c d FightKept m n ok is = is
kept_place c d Unsettled m n ok is = is
kept_place c d Differs m n ok is = is
kept_place c d Next m n ok is = is
kept_place c d Apart m n ok is = is
kept_place c d Enter m n ok is = is

-- and from the checked circuit to the flat one
own_place : (cut : Cut) (kind : FaultKind) (at : ℕ) → IsFoundLater kind → IsSamePlace cut kind at at
own_place cut Fight at ok = absurd ok
own_place cut Float at ok = absurd ok
own_place cut Constraint at ok = absurd ok
own_place cut FightKept at ok = refl
own_place cut Unsettled at ok = refl
own_place cut Differs at ok = refl
own_place cut Next at ok = refl
own_place cut Apart at ok = refl
own_place cut Enter at ok = refl

-- where a fault of a later stage is first, none of the first stage stands
module _ (k : Comparison) (f : Finding) (first : IsFirstInPhase k f) (later : IsFoundLater f.kind) where
  abbrev found : IsFinding k f
  found = first.found

  abbrev setting_there : Setting
  setting_there = setting_of k f.phase f.bits

  nothing_bare : (kind : FaultKind) (at : ℕ) → IsFoundByRank kind → ¬ Stands k f.phase setting_there found.stands.0 found.stands.1 kind at
  nothing_bare kind at bare stands =
      let order = first.first in
      let other : Finding = record { phase = f.phase; kind = kind; at = at; bits = f.bits } in
      let is : IsFinding k other = record { phase = found.phase; meets = found.meets; stands = (found.stands.0, found.stands.1, found.stands.2, found.stands.3, stands) } in
      elim (order.3 other is refl) [
        | inl before_it ↦
            let high = later_stage k f.phase order.0 order.1 f.kind f.at later in
            let low = first_stage k f.phase order.0 order.1 kind at bare in
            false≢true (sym (ap₂ comes_before high.2 low.1 ∙ never_before high.0 high.1 low.0) ∙ before_it)
        | inr same ↦ not_both f.kind later (subst IsFoundByRank (sym same.0) bare)
      ]

-- ---- along the chain

module _ (k : Comparison) (cut : Cut) (blif : Blif) (facts : List CellFacts) (c : Circuit) (h : IsCheckedByFacts k cut blif facts c)
    (phase : ℕ) (vals : List Bool) (lt : phase < length k.rules.phases) (g : Assignment) (kind : FaultKind) (later : IsFoundLater kind) (at : ℕ) (value wanted : Option Bool) where
  abbrev t : Top
  t = cut.top

  abbrev setting : Setting
  setting = setting_of k phase vals

  -- a fault of a circuit with a solution that has all bits, with which no net fights in the bare circuit and no constraint of an instance
  -- that is chosen is broken, with its printed values
  record IsThere (d : Circuit) : Type 0 where
    bits : Partial
    solves : Solves (with_circuit k d) phase setting bits
    defined : (n : ℕ) → is_observed (with_circuit k d) phase n ≡ true → IsSome (bits n)
    calm : (n : ℕ) → IsPlain d n → ¬ Responds (with_circuit k d) phase setting bits bare n FightResponse
    unbroken : (j : ℕ) (p : NumberedPlace) → IsChosenAt cut j p → ¬ BreaksConstraint k.design k.rules phase bits (flat_instance p.at)
    stands : Stands (with_circuit k d) phase setting bits g kind at
    printed : (e : Assignment) → Assigns k phase setting e → IsPrintedWith (with_circuit k d) phase setting bits e kind at value wanted

  one_solution : (n : ℕ) (d : Circuit) → n < length (all_places t) → IsCircuitWith (before cut n) blif facts d → HasOneSolution d (phase_at k.rules phase) (is_observed (with_circuit k d) phase) setting
  one_solution n d low circuit =
      subst (λ (s : Setting). HasOneSolution d (phase_at k.rules phase) (is_observed (with_circuit k d) phase) s)
      (settings_are_same k blif facts (before cut n) d (of_chain k cut blif facts c h n d circuit) phase vals).1
      (always_solved k cut blif facts c h n d circuit low phase vals lt)

  module _ (i : ℕ) (d e : Circuit) (low : suc i < length (all_places t)) (chosen : cut.choice i ≡ true) (circuit : IsCircuitWith (before cut i) blif facts d) (after : IsCircuitWith (before cut (suc i)) blif facts e)
      (there : IsThere e) where
    abbrev step : (p : NumberedPlace) × (m : ℕ) × (depth : ℕ) × (front : List Place) × (back : List Place) × IsStepOf k cut blif facts i p m depth front back d e
    step = step_at k cut blif facts c h i d e low chosen circuit after

    abbrev p : NumberedPlace
    p = step.0

    abbrev q : Comparison
    q = compared_at t blif p step.1

    abbrev above : ℕ → ℕ
    above n = net_above t p.at n

    lt_here : phase < length t.rules.phases
    lt_here = subst (λ (u : Top). phase < length u.rules.phases) (sym h.top) lt

    one : IsOneMoreWhole (with_circuit k d) q phase e above (λ j. j) (fresh_place (before cut i) blif facts q) (is_outside_at t step.2 p.at) (compared_at_step cut blif facts i p q) (exposed_at cut blif facts i p q) (drive_at facts p q)
    one = one_more k cut blif facts i p step.1 step.2 step.3 step.4 d e step.5 phase lt_here

    own_unbroken : ¬ BreaksConstraint k.design k.rules phase there.bits one.instance.0
    unfolding one
    own_unbroken =
        subst (λ (y : FlatInstance). ¬ BreaksConstraint k.design k.rules phase there.bits y)
        (sym (instance_is k cut blif facts i p step.1 step.2 step.3 step.4 d e step.5 phase lt_here))
        (there.unbroken i p (record { place = step.5.step.chosen.place; chosen = chosen }))

    down : HaveSameBits (with_circuit k d) q phase e above (λ j. j) (fresh_place (before cut i) blif facts q) (is_outside_at t step.2 p.at) setting
    down =
        bits_go_down (with_circuit k d) q phase e above (λ j. j) (fresh_place (before cut i) blif facts q) (is_outside_at t step.2 p.at) (compared_at_step cut blif facts i p q) (exposed_at cut blif facts i p q) (drive_at facts p q) setting there.bits one
        there.solves there.defined (λ n is. there.calm (above n) (plain_there (with_circuit k d) q phase e above (λ j. j) (fresh_place (before cut i) blif facts q) (is_outside_at t step.2 p.at) (compared_at_step cut blif facts i p q) (exposed_at cut blif facts i p q) (drive_at facts p q) one (above n) (one.placed.plain n (one.placed.exposed_plain n is)))) own_unbroken

    abbrev below : Partial
    below = all_bits down.0.reading

    abbrev whole : Partial
    whole = all_bits down.1.reading

    same_there : SameObserved (is_observed (with_circuit k e) phase) there.bits whole
    same_there n seen =
        let unique = one_solution (suc i) e low after in
        sym (unique.only there.bits there.solves n seen) ∙ unique.only whole down.3.whole_solves n seen

    -- nothing fights by the bits of the state, and so nothing does in the circuit
    calm_there : (n : ℕ) → IsPlain e n → ¬ Responds (with_circuit k e) phase setting whole bare n FightResponse
    calm_there n plain fights =
        there.calm n plain
        (observed_bits_show_faults (with_circuit k e) phase setting whole there.bits g Fight n (λ m seen. sym (same_there m seen)) (plain, fights)).1

    calm_here : (n : ℕ) → IsPlain d n → ¬ Responds (with_circuit k d) phase setting below bare n FightResponse
    calm_here =
        calm_below (with_circuit k d) q phase e above (λ j. j) (fresh_place (before cut i) blif facts q) (is_outside_at t step.2 p.at) (compared_at_step cut blif facts i p q) (exposed_at cut blif facts i p q) (drive_at facts p q)
        setting down.0 down.1 down.2 one down.3 calm_there

    kept_bit : (n : ℕ) → is_outside_at t step.2 p.at n ≡ true → whole n ≡ below n
    kept_bit n stays =
        bit_same (with_circuit k d) q phase e above (λ j. j) (fresh_place (before cut i) blif facts q) (is_outside_at t step.2 p.at) (compared_at_step cut blif facts i p q) (exposed_at cut blif facts i p q) (drive_at facts p q) setting down.0 down.1 down.2 one
        down.3 n stays

    unbroken_below : (j : ℕ) (o : NumberedPlace) → IsChosenAt cut j o → ¬ BreaksConstraint k.design k.rules phase below (flat_instance o.at)
    unbroken_below j o is broken =
        let y = flat_instance o.at in
        let other = chosen_instances_are_steps cut blif facts j o h.choice is.place is.chosen in
        let on : Among e.instances y = subst (λ (ys : List FlatInstance). Among ys y) (sym after.instances) (shown cut blif facts h.choice j o other.0 other.1 other.2 (suc i)) in
        let at_whole = breaks_there k.design k.rules phase below whole y y refl (ports_same y below whole (λ net there_on. sym (kept_bit net.0 (one.hides.instance_ports y net on there_on)))) broken in
        let constrained = breaks_constrained k.design k.rules phase whole y at_whole in
        there.unbroken j o is
        (breaks_there k.design k.rules phase whole there.bits y y refl
        (ports_same y whole there.bits (λ net there_on. sym (same_there net.0 (instance_observed (with_circuit k e) phase net.0 (y, net, on, there_on, refl, constrained))))) at_whole)

    stands_below : Stands (with_circuit k d) phase setting below g kind at
    stands_below =
        let st = observed_bits_show_faults (with_circuit k e) phase setting there.bits whole g kind at same_there there.stands in
        let found =
        faults_stand_below (with_circuit k d) q phase e above (λ j. j) (fresh_place (before cut i) blif facts q) (is_outside_at t step.2 p.at) (compared_at_step cut blif facts i p q) (exposed_at cut blif facts i p q) (drive_at facts p q) setting down.0 down.1
        down.2 g one down.3 kind at st in
        subst (λ (n : ℕ). Stands (with_circuit k d) phase setting below g kind n) (kept_place d e kind found.0 at later found.1) found.2

    printed_down : (x : Assignment) (other : FaultKind) → IsFoundLater other → Stands (with_circuit k e) phase setting whole g other at
        → IsPrintedWith (with_circuit k e) phase setting whole x other at value wanted → IsPrintedWith (with_circuit k d) phase setting below x other at value wanted
    printed_down x Fight ok st p_there = absurd ok
    printed_down x Float ok st p_there = absurd ok
    printed_down x Constraint ok st p_there = absurd ok
    printed_down x FightKept ok st (inl no_value) = absurd no_value.1
    printed_down x FightKept ok st (inr (none, c, w)) = inr (λ n v want. want, c, w)
    printed_down x Unsettled ok st p_there =
        printed_below (with_circuit k d) q phase e above (λ j. j) (fresh_place (before cut i) blif facts q) (is_outside_at t step.2 p.at) (compared_at_step cut blif facts i p q) (exposed_at cut blif facts i p q) (drive_at facts p q) setting down.0 down.1 down.2
        one down.3 x Unsettled at at value wanted refl st p_there
    printed_down x Differs ok st p_there =
        differs_printed (with_circuit k d) q phase e above (λ j. j) (fresh_place (before cut i) blif facts q) (is_outside_at t step.2 p.at) (compared_at_step cut blif facts i p q) (exposed_at cut blif facts i p q) (drive_at facts p q) setting down.0 down.1 down.2
        one down.3 x at value wanted p_there
    printed_down x Next ok st p_there =
        next_printed (with_circuit k d) q phase e above (λ j. j) (fresh_place (before cut i) blif facts q) (is_outside_at t step.2 p.at) (compared_at_step cut blif facts i p q) (exposed_at cut blif facts i p q) (drive_at facts p q) setting down.0 down.1 down.2 one
        down.3 x at value wanted p_there
    printed_down x Apart ok st p_there =
        apart_printed (with_circuit k d) q phase e above (λ j. j) (fresh_place (before cut i) blif facts q) (is_outside_at t step.2 p.at) (compared_at_step cut blif facts i p q) (exposed_at cut blif facts i p q) (drive_at facts p q) setting down.0 down.1 down.2
        one down.3 x at value wanted p_there
    printed_down x Enter ok st p_there =
        enter_printed (with_circuit k d) q phase e above (λ j. j) (fresh_place (before cut i) blif facts q) (is_outside_at t step.2 p.at) (compared_at_step cut blif facts i p q) (exposed_at cut blif facts i p q) (drive_at facts p q) setting down.0 down.1 down.2
        one down.3 x at value wanted p_there

    printed_below_it : (x : Assignment) → Assigns k phase setting x → IsPrintedWith (with_circuit k d) phase setting below x kind at value wanted
    printed_below_it x assigns =
        printed_down x kind later (observed_bits_show_faults (with_circuit k e) phase setting there.bits whole g kind at same_there there.stands)
        (printed_same (with_circuit k e) phase setting there.bits whole same_there g x kind at value wanted later there.stands (there.printed x assigns))

    there_below : IsThere d
    there_below = record { bits = below; solves = down.3.solves; defined = λ n seen. refl; calm = calm_here; unbroken = unbroken_below; stands = stands_below; printed = printed_below_it }

  abbrev IsThereFlat : Comparison → Type 0
  IsThereFlat x =
      (a : Partial) × Solves x phase setting a × Stands x phase setting a g kind at × ((e : Assignment) → Assigns k phase setting e → IsPrintedWith x phase setting a e kind at value wanted)

  goes_down : (n : ℕ) (d : Circuit) → n < length (all_places t) → IsCircuitWith (before cut n) blif facts d → IsThere d → IsThereFlat k
  goes_down zero d low circuit there =
      subst IsThereFlat (sym (is_itself k cut blif facts c h d ((chain_begins_flat cut blif facts d).0 circuit ∙ sym h.flat))) (there.bits, there.solves, there.stands, there.printed)
  goes_down (suc i) d low circuit there =
      elim (cases_Bool (cut.choice i)) [
        | inr not_chosen ↦ goes_down i d (omega (arith, low)) (subst (λ (x : Cut). IsCircuitWith x blif facts d) (none_more_is_same cut i not_chosen) circuit) there
        | inl chosen ↦
            let before_it = chain_is_there cut blif facts c i h.circuit in
            goes_down i before_it.0 (omega (arith, low)) before_it.1 (there_below i before_it.0 d low chosen before_it.1 circuit there)
      ]

-- ---- the first fault

module _ (k : Comparison) (cut : Cut) (blif : Blif) (facts : List CellFacts) (c : Circuit) (f : Finding) (h : IsCheckedByFacts k cut blif facts c) (later : IsFoundLater f.kind)
    (first : IsFirstInPhase (with_circuit k c) f) where
  abbrev last_found : IsFinding (with_circuit k c) f
  last_found = first.found

  abbrev last : (n : ℕ) × (n < length (all_places cut.top)) × IsCircuitWith (before cut n) blif facts c
  last = at_last k cut blif facts c h

  chain : IsOfChain k blif facts cut c
  chain = record { top = h.top; flat = h.flat; groups = h.groups; circuit = h.circuit; ends = chosen_ends_are_shown cut blif facts h.choice }

  same_setting : setting_of (with_circuit k c) f.phase f.bits ≡ setting_of k f.phase f.bits
  same_setting = (settings_are_same k blif facts cut c chain f.phase f.bits).1

  none_of : (kind : FaultKind) (at : ℕ) → IsFoundByRank kind → ¬ Stands (with_circuit k c) f.phase (setting_of (with_circuit k c) f.phase f.bits) last_found.stands.0 last_found.stands.1 kind at
  none_of kind at bare stands = nothing_bare (with_circuit k c) f first later kind at bare stands

  all_defined : (n : ℕ) → is_observed (with_circuit k c) f.phase n ≡ true → IsSome (last_found.stands.0 n)
  all_defined n seen =
      let lt = subst (λ (u : Top). f.phase < length u.rules.phases) (sym h.top) last_found.phase in
      let determined = subst (λ (u : Top). AreDetermined c (phase_at u.rules f.phase) (is_observed (with_circuit k c) f.phase)) h.top (determined_at k cut blif facts c h last.0 c last.2 f.phase lt) in
      let order = first.first in
      let bit =
      solutions_are_defined c (phase_at k.rules f.phase) (is_observed (with_circuit k c) f.phase) (setting_of (with_circuit k c) f.phase f.bits) order.0 last_found.stands.0 (ranges_at k cut blif facts c h last.0 c last.2)
      (nets_observed k cut blif facts c h last.0 c last.2 f.phase lt) determined order.2.ranking last_found.stands.2
      (λ m plain fights. none_of Fight m tt (plain, fights))
      (λ m s floats. none_of Float m tt (s, floats)) n seen in
      subst IsSome (sym bit.1) refl

  all_unbroken : (j : ℕ) (p : NumberedPlace) → IsChosenAt cut j p → ¬ BreaksConstraint k.design k.rules f.phase last_found.stands.0 (flat_instance p.at)
  all_unbroken j p is broken =
      let other = chosen_instances_are_steps cut blif facts j p h.choice is.place is.chosen in
      let on : Among c.instances (flat_instance p.at) = subst (λ (ys : List FlatInstance). Among ys (flat_instance p.at)) (sym last.2.instances) (shown cut blif facts h.choice j p other.0 other.1 other.2 last.0) in
      none_of Constraint on.0 tt (flat_instance p.at, on.1, broken)

  module _ (fault : FaultAt) (describes : Describes (with_circuit k c) fault f) where
    abbrev g : Assignment
    g = last_found.stands.1

    flat_below : (a : Partial) × Solves k f.phase (setting_of k f.phase f.bits) a × Stands k f.phase (setting_of k f.phase f.bits) a g f.kind f.at
        × ((e : Assignment) → Assigns k f.phase (setting_of k f.phase f.bits) e → IsPrintedWith k f.phase (setting_of k f.phase f.bits) a e f.kind f.at fault.circuit fault.wanted)
    flat_below =
        goes_down k cut blif facts c h f.phase f.bits last_found.phase g f.kind later f.at fault.circuit fault.wanted last.0 c last.1 last.2
        (record {
          bits = last_found.stands.0;
          solves = subst (λ (s : Setting). Solves (with_circuit k c) f.phase s last_found.stands.0) same_setting last_found.stands.2;
          defined = all_defined;
          calm = λ n plain fights. none_of Fight n tt (plain, subst (λ (s : Setting). Responds (with_circuit k c) f.phase s last_found.stands.0 bare n FightResponse) (sym same_setting) fights);
          unbroken = all_unbroken;
          stands = subst (λ (s : Setting). Stands (with_circuit k c) f.phase s last_found.stands.0 g f.kind f.at) same_setting last_found.stands.4;
          printed = λ e assigns.
              subst (λ (s : Setting). IsPrintedWith (with_circuit k c) f.phase s last_found.stands.0 e f.kind f.at fault.circuit fault.wanted) same_setting
              (describes.values last_found.stands.0 e last_found.stands.2 (subst (λ (s : Setting). Assigns (with_circuit k c) f.phase s e) (sym same_setting) assigns));
        })

    later_found : IsFinding k f
    later_found = record {
      phase = last_found.phase;
      meets = (constraints_are_same k blif facts cut c chain f.phase f.bits).0 last_found.meets;
      stands = (flat_below.0, g, flat_below.1, subst (λ (s : Setting). Assigns k f.phase s g) same_setting last_found.stands.3, flat_below.2);
    }

    place : IsSamePlace cut f.kind f.at f.at
    place = own_place cut f.kind f.at later

    -- each solution of the flat circuit has the same bits
    flat_one : HasOneSolution k.circuit (phase_at k.rules f.phase) (is_observed k f.phase) (setting_of k f.phase f.bits)
    flat_one = flat_solved k cut blif facts c h f.phase f.bits last_found.phase

    later_described : Describes k fault f
    later_described =
        descriptions_move k blif facts cut c chain fault f f (record { phase = refl; kind = refl; bits = refl; place = place })
        (λ a e solves assigns.
        printed_same k f.phase (setting_of k f.phase f.bits) flat_below.0 a (λ n seen. sym (flat_one.only flat_below.0 flat_below.1 n seen) ∙ flat_one.only a solves n seen) g e f.kind f.at fault.circuit fault.wanted later flat_below.2
        (flat_below.3 e assigns))
        describes

    pub later_stands : (flat : Finding) × Describes k fault flat × IsFinding k flat × IsSamePlace cut fault.kind flat.at f.at
    later_stands = (f, later_described, later_found, subst (λ (x : FaultKind). IsSamePlace cut x f.at f.at) (sym describes.kind) place)

pub later_faults_stand_below : LaterFaultsStandBelow
later_faults_stand_below k cut blif facts c fault f h later describes first = later_stands k cut blif facts c f h later first fault describes
