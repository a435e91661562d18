-- Instances that are tried together: where the circuit in which all are whole has no cycle, none of those with fewer of them whole has one.
use Rattle.std.proofs.Common.{◌≡◌, ℕ, zero, suc, ◌+◌, ◌<◌, ◌≤◌, ◌&&◌, Bool, true, false, List, [], ◌∷◌, length, Option, arith, ap, subst, sym, refl, ◌∙◌, inl, inr}
use Rattle.std.specs.Prelude.{nat_lt, slice_get, unwrap_or}
use Rattle.std.specs.List.{enumerate_from}
use Rattle.std.proofs.lemmas.Bool.{and_parts, cases_Bool, cases_lt, false≢true, lt-ltb, ltb-true}
use Rattle.std.proofs.lemmas.List.{length-map}
use Rattle.std.proofs.lemmas.List.FromFn.{length-enumerate_from}
use mathlib.Core.Path.{fun_ext}
use Rattle.checked_chain.proofs.ChoiceLaws.{numbered}
use Rattle.checked_chain.proofs.GateArcs.{known_back, known_there, without_is}
use Rattle.checked_chain.proofs.EndLaws.{chain_begins_flat, chain_ends_checked}
use Rattle.checked_chain.proofs.StepLaws.{none_more_is_same, one_more_is_next}
use Rattle.checked_chain.proofs.ThereLaws.{chain_is_there, whole_before}
use Rattle.checked_chain.specs.Arcs.{AreOutputsApart, AreWholeOutputsApart}
use Rattle.formed_cells.proofs.FormedLaws.{supported_cells_are_formed}
use Rattle.known_nets.specs.Wired.{IsWired}
use Rattle.placed_cells.proofs.CutLaws.{pin_among}
use Rattle.placed_cells.proofs.SplitLaws.{places_in_stand_together}
use Rattle.replaced_instances.proofs.StepOutputs.{one_more_place}
use Rattle.replaced_instances.proofs.StepPorts.{place_there}
use Rattle.replaced_instances.specs.Steps.{AreAllowed, IsAllowedInstance, IsStep, compared_at, compared_at_step, drive_at, exposed_at}
use Rattle.whole_circuits.proofs.ArcLaws.{acyclic_is}
use Rattle.substitution_laws.proofs.WholeCells.{whole_chosen}
use Rattle.substitution_laws.proofs.WholeRanges.{trials_are_wired}
use Rattle.substitution_laws.proofs.ChosenLaws.{tried_steps_are_chosen}
use Rattle.substitution_laws.specs.Chosen.{IsTrial}
use Rattle.trial_cycles.proofs.StepArcs.{step_goes}
use Rattle.trial_cycles.proofs.StepOpened.{step_is_opened}
use Rattle.trial_cycles.specs.TrialCycles.{AnyAllowedAreChosen, AnyStepKeepsAcyclic, AnyTrialsAreAcyclic, AnyTriedMayBeWhole, CarriedClocksAreKnown, IsAcyclicTrial, IsTrialInPhase}
use Rattle.vrt_model.proofs.Filtered.{among_kept, filter_among}
use Rattle.vrt_model.proofs.Lists.{at_there}
use Rattle.vrt_model.proofs.Members.{among_left, among_right}
use Rattle.vrt_model.specs.Checked.{HasArcWith, IsCircuitWith, MayBeWhole, before, circuit_with}
use Rattle.vrt_model.specs.Comparison.{phase_at, ports_of}
use Rattle.vrt_model.specs.Cut.{Cut, NumberedPlace, is_inside_whole, is_whole, numbered_places, whole_places}
use Rattle.vrt_model.specs.FlatCircuit.{flat_circuit_of}
use Rattle.vrt_model.specs.Known.{HasArc, HasFixedBit, IsKnown, fixed}
use Rattle.vrt_model.specs.Lists.{Among, At}
use Rattle.vrt_model.specs.PairedPorts.{Missing, Model, Paired, Skipped, paired_model}
use Rattle.vrt_model.specs.Reading.{clock_bit}
use Rattle.vrt_model.specs.Unrolled.{Top, all_places}
use Rattle.vrt_model.specs.Unsupported.{IsAcyclic, comparison_of}
use Rattle.vrt_model.specs.WholeInstances.{Pin, pins_of}
use Rattle.vrt_model.specs.declared.blif.Blif.{Blif}
use Rattle.vrt_model.specs.declared.circuit.Circuit.{Circuit}
use Rattle.vrt_model.specs.declared.circuit.FlatNet.{FlatNet}
use Rattle.vrt_model.specs.declared.circuit.NetKind.{NetKind}
use Rattle.vrt_model.specs.declared.pairing.PortRole.TheVariants.{Clock}
use Rattle.vrt_model.specs.declared.rules.ClockRef.{ClockRef}
use Rattle.vrt_model.specs.declared.rules.Phase.{Phase}
use Rattle.vrt_model.specs.declared.whole.CellFacts.{CellFacts}

-- ---- the instances before one

two_tests : (a b c : Bool) → (c ≡ true → b ≡ true) → ((a && b) && c) ≡ (a && c)
two_tests true true c within = refl
two_tests true false true within = absurd (false≢true (within refl))
two_tests true false false within = refl
two_tests false b c within = refl

before_twice : (cut : Cut) (n i : ℕ) → i ≤ n → before (before cut n) i ≡ before cut i
before_twice cut n i le =
    ap (λ (f : ℕ → Bool). let one : Cut = record { top = cut.top; choice = f } in one)
    (fun_ext (λ j. two_tests (cut.choice j) (nat_lt j n) (nat_lt j i) (λ e. let lt = ltb-true j i e in lt-ltb j n (omega (arith, le, lt)))))

-- they are tried likewise
tried_before : (cut : Cut) (blif : Blif) (facts : List CellFacts) (n : ℕ) → AreAllowed cut blif facts → AreAllowed (before cut n) blif facts
tried_before cut blif facts n tried i p place chosen =
    let both = and_parts (cut.choice i) (nat_lt i n) chosen in
    let lt = ltb-true i n both.1 in
    subst (λ (x : Cut). (is_inside_whole x p.at ≡ false) × ((m : ℕ) × IsAllowedInstance x blif facts i p m)) (sym (before_twice cut n i (omega (arith, lt))))
    (tried i p place both.0)

trial_before : (cut : Cut) (blif : Blif) (facts : List CellFacts) (n : ℕ) → IsTrial cut blif facts → IsTrial (before cut n) blif facts
trial_before cut blif facts n h = record { netlist = h.netlist; read = h.read; told = h.told; tried = tried_before cut blif facts n h.tried }

-- the outputs of each cell of theirs are apart
outputs_apart : (cut : Cut) (blif : Blif) (facts : List CellFacts) (n : ℕ) → IsTrial cut blif facts → AreWholeOutputsApart (before cut n) blif
outputs_apart cut blif facts n h p m on paired =
    let is = whole_chosen cut n p on in
    let step = tried_steps_are_chosen cut blif facts is.0 p h is.1.place is.1.chosen in
    let model : Paired → ℕ = λ x. elim x [ Model j ↦ j | Skipped ↦ 0 | Missing ↦ 0 ] in
    let same : step.0 ≡ m = ap model (sym step.1.paired ∙ paired) in
    subst (λ (j : ℕ). AreOutputsApart (comparison_of cut.top.design blif cut.top.rules p.at.cell j)) same
    (supported_cells_are_formed cut.top.design blif cut.top.rules p.at.cell step.0 h.read step.2).signals.one_port

as_many : (t : Top) → length (numbered_places t) ≡ length (all_places t)
as_many t = length-map (enumerate_from 0 (all_places t)) numbered ∙ length-enumerate_from 0 (all_places t)

module _ (cut : Cut) (blif : Blif) (facts : List CellFacts) (c : Circuit) (phase : ℕ) (h : IsTrialInPhase cut blif facts c phase) where
  abbrev t : Top
  t = cut.top

  abbrev now : Phase
  now = phase_at cut.top.rules phase

  abbrev IsFree : Cut → Type 0
  IsFree x = IsAcyclic (HasArcWith x blif facts phase)

  steps : (n : ℕ) (o : NumberedPlace) → Among (whole_places (before cut n)) o → (j : ℕ) × (l : ℕ) × IsStep cut blif facts j o l
  steps n o on =
      let is = whole_chosen cut n o on in
      let step = tried_steps_are_chosen cut blif facts is.0 o h.trial is.1.place is.1.chosen in
      (is.0, step.0, step.1)

  -- the clock ports of whole instances are known in a circuit with a choice
  abbrev HasKnown : Cut → Type 0
  HasKnown x =
      (p : NumberedPlace) (m : ℕ) (pin : Pin) (clock : ClockRef)
      → Among (whole_places x) p → paired_model cut.top.design blif cut.top.rules p.at.cell ≡ Model m
      → Among (pins_of (comparison_of cut.top.design blif cut.top.rules p.at.cell m) p.at) pin → pin.port.role ≡ Clock clock
      → IsKnown (circuit_with x blif facts) (phase_at cut.top.rules phase) pin.net.0 (clock_bit (phase_at cut.top.rules phase) clock)

  known_in : (x : Cut) (d : Circuit) → IsCircuitWith x blif facts d → (n : ℕ) (v : Bool) → IsKnown (circuit_with x blif facts) now n v → IsKnown d now n v
  known_in x d is n v known = known_back d now (subst (λ (e : Circuit). IsKnown e now n v) (sym (without_is x blif facts d is)) known)

  known_out : (x : Cut) (d : Circuit) → IsCircuitWith x blif facts d → (n : ℕ) (v : Bool) → IsKnown d now n v → IsKnown (circuit_with x blif facts) now n v
  known_out x d is n v known = subst (λ (e : Circuit). IsKnown e now n v) (without_is x blif facts d is) (known_there d now known)

  -- ---- one step

  abbrev first : ℕ → Circuit
  first i = (chain_is_there cut blif facts c i h.circuit).0

  first_is : (i : ℕ) → IsCircuitWith (before cut i) blif facts (first i)
  first_is i = (chain_is_there cut blif facts c i h.circuit).1

  first_wired : (i : ℕ) → IsWired (first i)
  first_wired i = trials_are_wired (before cut i) blif facts (first i) (trial_before cut blif facts i h.trial) h.formed (first_is i)

  chosen_goes : (i : ℕ) → suc i < length (all_places t) → cut.choice i ≡ true → HasKnown (before cut (suc i)) → HasKnown (before cut i) × (IsFree (before cut (suc i)) → IsFree (before cut i))
  chosen_goes i low chosen known =
      let p = at_there (numbered_places t) (suc i) (subst (λ (n : ℕ). suc i < n) (sym (as_many t)) low) in
      let step = tried_steps_are_chosen cut blif facts i p.0 h.trial p.1 chosen in
      let formed = supported_cells_are_formed t.design blif t.rules p.0.at.cell step.0 h.trial.read step.2 in
      let split = places_in_stand_together t (suc i) p.0.at (place_there cut blif facts i p.0 step.0 step.1) in
      let one_more = one_more_place cut i p.0 p.1 chosen in
      let last : Among (whole_places (before cut (suc i))) p.0 =
      subst (λ (ps : List NumberedPlace). Among ps p.0) (sym one_more) (among_right (whole_places (before cut i)) (p.0 ∷ []) p.0 (0, refl)) in
      let goes =
      step_goes cut blif facts i p.0 step.0 step.1 step.2 formed split.0 split.1 split.2 split.3 (first i) (first (suc i)) (first_is i) (first_is (suc i)) phase h.there
      (λ n. compared_at_step cut blif facts i p.0 (compared_at cut.top blif p.0 step.0) n)
      (λ n. exposed_at cut blif facts i p.0 (compared_at cut.top blif p.0 step.0) n)
      (λ n. drive_at facts p.0 (compared_at cut.top blif p.0 step.0) n)
      (step_is_opened cut blif facts i p.0 step.0 step.1 formed split.0 split.1 split.2 split.3 (first i) (first (suc i)) (first_is i) (first_is (suc i)) (first_wired i) (first_wired (suc i))
      phase h.there)
      (λ pin clock on role. known_in (before cut (suc i)) (first (suc i)) (first_is (suc i)) pin.net.0 (clock_bit now clock) (known p.0 step.0 pin clock last step.1.paired on role))
      (steps i) in (
        λ o m pin clock on paired listed role.
            (let later = subst (λ (ps : List NumberedPlace). Among ps o) (sym one_more) (among_left (whole_places (before cut i)) (p.0 ∷ []) o on) in
            known_out (before cut i) (first i) (first_is i) pin.net.0 (clock_bit now clock)
            (goes.0 o pin.net.0 (clock_bit now clock) later (pin_among (ports_of (comparison_of t.design blif t.rules o.at.cell m)) o.at.ports pin listed)
            (known_in (before cut (suc i)) (first (suc i)) (first_is (suc i)) pin.net.0 (clock_bit now clock) (known o m pin clock later paired listed role)))),
        goes.1,
      )

  step_at : (i : ℕ) → suc i < length (all_places t) → HasKnown (before cut (suc i)) → HasKnown (before cut i) × (IsFree (before cut (suc i)) → IsFree (before cut i))
  step_at i low known =
      elim (cases_Bool (cut.choice i)) [
        | inl chosen ↦ chosen_goes i low chosen known
        | inr not_chosen ↦
            let same = none_more_is_same cut i not_chosen in
            (subst HasKnown same known, λ free. subst IsFree same free)
      ]

  -- ---- known clock ports

  last_known : (i : ℕ) → length (all_places t) ≤ suc i → HasKnown (before cut i)
  last_known i le p m pin clock on paired listed role =
      let kept = filter_among (λ (o : NumberedPlace). is_whole (before cut i).choice o.number) (numbered_places t) p on in
      let there : Among (whole_places cut) p =
      among_kept (λ (o : NumberedPlace). is_whole cut.choice o.number) (numbered_places t) p kept.0 (whole_before cut i p.number kept.1) in
      known_out (before cut i) c ((chain_ends_checked cut blif facts c i le).1 h.circuit) pin.net.0 (clock_bit now clock) (h.clocks p m pin clock there paired listed role)

  all_known : (k i : ℕ) → length (all_places t) ≤ suc i + k → HasKnown (before cut i)
  all_known zero i le = last_known i (omega (arith, le))
  all_known (suc k) i le =
      elim (cases_lt (suc i) (length (all_places t))) [
        | inl low ↦ (step_at i low (all_known k (suc i) (omega (arith, le)))).0
        | inr high ↦ last_known i high
      ]

  pub step_free : (i : ℕ) → suc i < length (all_places t) → IsFree (before cut (suc i)) → IsFree (before cut i)
  step_free i low free = (step_at i low (all_known (length (all_places t)) (suc i) (omega arith))).1 free

  -- ---- all steps

  module _ (free : IsAcyclic (HasArc c now)) where
    last_free : (i : ℕ) → length (all_places t) ≤ suc i → IsFree (before cut i)
    last_free i le =
        (acyclic_is (before cut i) blif facts c phase ((chain_ends_checked cut blif facts c i le).1 h.circuit) h.there h.trial.read.valid (outputs_apart cut blif facts i h.trial)).0 free

    all_free : (k i : ℕ) → length (all_places t) ≤ suc i + k → IsFree (before cut i)
    all_free zero i le = last_free i (omega (arith, le))
    all_free (suc k) i le =
        elim (cases_lt (suc i) (length (all_places t))) [
          | inl low ↦ step_free i low (all_free k (suc i) (omega (arith, le)))
          | inr high ↦ last_free i high
        ]

    pub each_free : (i : ℕ) → IsFree (before cut i)
    each_free i = all_free (length (all_places t)) i (omega arith)

    pub flat_free : IsAcyclic (HasArc (flat_circuit_of t) now)
    flat_free =
        (acyclic_is (before cut 0) blif facts (flat_circuit_of t) phase ((chain_begins_flat cut blif facts (flat_circuit_of t)).1 refl) h.there h.trial.read.valid
        (outputs_apart cut blif facts 0 h.trial)).1 (each_free 0)

pub any_step_keeps_acyclic : AnyStepKeepsAcyclic
any_step_keeps_acyclic cut blif facts c i phase h low free = step_free cut blif facts c phase h i low free

pub any_trials_are_acyclic : AnyTrialsAreAcyclic
any_trials_are_acyclic cut blif facts c phase h free = (each_free cut blif facts c phase h free, flat_free cut blif facts c phase h free)

-- ---- clock ports

pub carried_clocks_are_known : CarriedClocksAreKnown
carried_clocks_are_known cut blif facts c phase circuit carried p m pin clock on paired listed role =
    let now = phase_at cut.top.rules phase in
    let net = carried p m pin clock on paired listed role in
    fixed (net.0, subst (λ (ns : List FlatNet). At ns pin.net.0 net.0) (sym circuit.nets) net.1, subst (λ (k : NetKind). HasFixedBit now k (clock_bit now clock)) (sym net.2) refl)

-- ---- choices

phase_is : (phases : List Phase) (j : ℕ) (x : Phase) → At phases j x → unwrap_or (slice_get phases j) (record { line = 0; name = []; bits = [] }) ≡ x
phase_is phases j x e = ap (λ (o : Option Phase). unwrap_or o (record { line = 0; name = []; bits = [] })) e

module _ (cut : Cut) (blif : Blif) (facts : List CellFacts) (c : Circuit) (h : IsAcyclicTrial cut blif facts c) where
  in_phase : (phase : ℕ) → phase < length cut.top.rules.phases → IsTrialInPhase cut blif facts c phase
  in_phase phase lt = record { trial = h.trial; formed = h.formed; circuit = h.circuit; there = lt; clocks = h.clocks phase lt }

  free_in : (phase : ℕ) → phase < length cut.top.rules.phases → IsAcyclic (HasArc c (phase_at cut.top.rules phase))
  free_in phase lt =
      let x = at_there cut.top.rules.phases phase lt in
      subst (λ (y : Phase). IsAcyclic (HasArc c y)) (sym (phase_is cut.top.rules.phases phase x.0 x.1)) (h.acyclic phase x.0 x.1)

  pub may_be : (i : ℕ) (p : NumberedPlace) (m : ℕ) → At (numbered_places cut.top) (suc i) p → cut.choice i ≡ true
      → IsAllowedInstance (before cut i) blif facts i p m → MayBeWhole (before cut i) blif facts i p m
  may_be i p m place chosen may = record {
    place = place;
    paired = may.paired;
    cell = may.cell;
    cared = may.cared;
    plain = may.plain;
    allowed = may.allowed;
    acyclic = λ phase lt.
        subst (λ (x : Cut). IsAcyclic (HasArcWith x blif facts phase)) (sym (one_more_is_next cut i chosen))
        (each_free cut blif facts c phase (in_phase phase lt) (free_in phase lt) (suc i));
    flat_acyclic = λ phase lt. flat_free cut blif facts c phase (in_phase phase lt) (free_in phase lt);
  }

pub any_tried_may_be_whole : AnyTriedMayBeWhole
any_tried_may_be_whole cut blif facts c i p h place chosen =
    let there = h.trial.tried i p place chosen in
    (there.0, (there.1.0, may_be cut blif facts c h i p there.1.0 place chosen there.1.1))

pub any_allowed_are_chosen : AnyAllowedAreChosen
any_allowed_are_chosen cut blif facts c choice h i p place = (
  λ chosen. any_tried_may_be_whole cut blif facts c i p h place chosen,
  λ found.
      (let may : MayBeWhole (before cut i) blif facts i p found.1.0 = found.1.1 in
      (choice i p place).1 (found.0, (found.1.0, record { paired = may.paired; cell = may.cell; cared = may.cared; plain = may.plain; allowed = may.allowed }))),
)
