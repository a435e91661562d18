-- The bare circuit of a phase: what its search asks, and what it finds.
use Rattle.std.proofs.Common.{◌≡◌, ℕ, zero, suc, ◌<◌, ◌≤◌, ◌⊎◌, List, [], ◌∷◌, ◌++◌, Option, None, length, ap, arith, refl, subst, sym, inl, inr}
use Rattle.std.specs.Prelude.{◌↔◌}
use Rattle.std.proofs.lemmas.Option.{same_Some}
use Rattle.bdd_core.specs.Diagram.{IsReduced}
use Rattle.bdd_core.specs.Store.{Diagrams, function_of}
use Rattle.bdd_core.specs.declared.handle.H.{H}
use Rattle.blif_eval.specs.declared.plan.ModelPlan.{ModelPlan}
use Rattle.circuit_faults.proofs.StepLists.{ordered_outputs, ordered_steps}
use Rattle.circuit_faults.specs.Cases.{CaseIn, HasStepFault, StandsAt}
use Rattle.circuit_faults.specs.Results.{AreClearSteps, HasCircuitSpans, IsFirstFault, root_at}
use Rattle.circuit_faults.specs.Steps.{AreOrderedSteps, InPhase, in_comparison, steps_of}
use Rattle.circuit_faults.specs.Wholes.{HasSoundWholes, IsReadyWholes}
use Rattle.circuit_faults.specs.declared.net.CircuitFault.{CircuitFault}
use Rattle.fault_places.proofs.ListedSpots.{step_kinds}
use Rattle.fault_places.proofs.SearchLaws.{earlier_stage}
use Rattle.fault_places.specs.Searches.{Case, IsFoundIn, Spot, StandsIn}
use Rattle.phase_check.proofs.Cases.{clear_case, found_case, phase_fault, printed_without, solved_case}
use Rattle.phase_check.proofs.Spans.{gates_out, gates_span, out_span, roots_gates, roots_out, roots_span}
use Rattle.phase_laws.proofs.Work.{bare_room}
use Rattle.phase_laws.specs.Models.{HasOneModel}
use Rattle.phase_check.specs.States.{IsClearAt}
use Rattle.phase_terms.specs.Found.{IsPhaseFault, at_bits, met}
use Rattle.phase_terms.specs.Opened.{IsOpen}
use Rattle.phase_terms.specs.Plans.{IsPhasePlan, planned_spots, step_spots}
use Rattle.phase_terms.specs.Ready.{IsReady}
use Rattle.phase_terms.specs.Stores.{HasPhaseWords, IsPhaseStore, counts_of, most_model_words}
use Rattle.phase_terms.specs.declared.plan.PhasePlan.{PhasePlan}
use Rattle.phase_terms.specs.declared.words.PhaseWords.{PhaseWords}
use Rattle.phase_wishes.specs.Wishes.{spot_of}
use Rattle.circuit_faults.specs.KeptFaults.{kept_spots}
use Rattle.std.specs.Prelude.{map}
use Rattle.vrt_model.proofs.Members.{at_none}
use Rattle.vrt_model.specs.Comparison.{Comparison, is_observed, phase_at}
use Rattle.vrt_model.specs.Faults.{Stands}
use Rattle.vrt_model.specs.Held.{setting_of}
use Rattle.vrt_model.specs.Lists.{Among}
use Rattle.vrt_model.specs.declared.verdict.FaultKind.{FaultKind}
use Rattle.vrt_model.specs.declared.verdict.FaultKind.TheVariants.{Fight, Float, Constraint}
use Rattle.vrt_model.specs.declared.whole.Whole.{Whole}
use Rattle.whole_steps.specs.Tables.{HasModelRoom, IsWholeTable}
use Rattle.whole_steps.specs.Words.{model_words}
use Rattle.std.proofs.Math.Nat.{mul-le-mul_left}
use Rattle.path_fixpoint.specs.Strengths.{net_words}
use Rattle.vrt_model.specs.Levels.{source_level}
use Rattle.whole_steps.specs.declared.table.OutputPlace.{OutputPlace}

-- the words for parts are enough for the model of each whole instance
most_words : (ws : List Whole) (x : Whole) → Among ws x → model_words x.model ≤ most_model_words ws
most_words [] x (i, e) = absurd (at_none i x e)
most_words (y ∷ ws) x (zero, e) = (let same : model_words y.model ≡ model_words x.model = ap (λ (z : Whole). model_words z.model) (same_Some y x e) in omega (arith, same))
most_words (y ∷ ws) x (suc i, e) = (let below = most_words ws x (i, e) in omega (arith, below))

pub model_room : (k : Comparison) (words : PhaseWords) (d : Diagrams) → HasPhaseWords (counts_of k d.vars) words d → HasModelRoom k.circuit words.out
model_room k words d h x m = (let most = most_words k.circuit.wholes x m in let len = h.out_len in omega (arith, most, len))

module _ (k : Comparison) (phase : ℕ) (plan : PhasePlan) (ready : IsReady k) (range : phase < length k.rules.phases) (is : IsPhasePlan k phase plan) where
  abbrev w : InPhase
  w = in_comparison k phase plan.parts plan.steps (is_observed k phase)

  -- ---- what is asked

  wholes : HasSoundWholes k.circuit (phase_at k.rules phase) (is_observed k phase)
  wholes = ready.wholes phase range

  pub ordered : AreOrderedSteps w
  ordered = (
      let p = is.parts in
      ordered_steps k phase p.0 plan.parts plan.steps (is_observed k phase) wholes.ranges p.1 p.2 is.steps.there (is.steps.order p.0 p.1 p.2)
      )

  pub wholes_ready : (drivers : List (Option OutputPlace)) (plans : List ModelPlan) → IsWholeTable k.circuit drivers plans → IsReadyWholes w drivers plans
  wholes_ready drivers plans table = record {
    wholes = wholes;
    table = table;
    ordered = (
        let p = is.parts in
        ordered_outputs k phase p.0 plan.parts plan.steps (is_observed k phase) wholes.ranges p.1 p.2 is.steps.there (is.steps.order p.0 p.1 p.2)
        );
    phase = λ x m. range;
  }

  pub spans_there : (words : PhaseWords) (d : Diagrams) (care : H) → HasPhaseWords (counts_of k d.vars) words d → IsOpen k phase care words d
      → HasCircuitSpans k.circuit plan.parts.list words.roots words.gates words.out d
  spans_there words d care h o = record {
    roots_span = roots_span (counts_of k d.vars) words d h;
    roots_len = (let len = h.roots_len in omega (arith, len));
    roots_live = o.roots.live;
    gates_span = gates_span (counts_of k d.vars) words d h;
    gates_len = h.gates_len;
    out_span = out_span (counts_of k d.vars) words d h;
    room = λ part m. (let few = mul-le-mul_left {m = length part.nets} {n = length k.circuit.nets} (net_words (source_level k.circuit)) (bare_room k phase plan ready is part m) in let len = h.out_len in omega (arith, few, len));
    roots_gates = roots_gates (counts_of k d.vars) words d h;
    roots_out = roots_out (counts_of k d.vars) words d h;
    gates_out = gates_out (counts_of k d.vars) words d h;
  }

  -- ---- what is found

  -- the faults at the places of steps are those of the comparison
  same_kind : (v : Case k phase) (kind : FaultKind) (n : ℕ) → (kind ≡ Fight) ⊎ ((kind ≡ Float) ⊎ (kind ≡ Constraint))
      → HasStepFault w (setting_of k phase v.bits) v.solution kind n ↔ Stands k phase (setting_of k phase v.bits) v.solution v.assignment kind n
  same_kind v kind n h =
      elim h [
        | inl e ↦ subst (λ (q : FaultKind). HasStepFault w (setting_of k phase v.bits) v.solution q n ↔ Stands k phase (setting_of k phase v.bits) v.solution v.assignment q n) (sym e) (λ f. f, λ f. f)
        | inr other ↦ elim other [
          | inl e ↦ subst (λ (q : FaultKind). HasStepFault w (setting_of k phase v.bits) v.solution q n ↔ Stands k phase (setting_of k phase v.bits) v.solution v.assignment q n) (sym e) (λ f. f, λ f. f)
          | inr e ↦ subst (λ (q : FaultKind). HasStepFault w (setting_of k phase v.bits) v.solution q n ↔ Stands k phase (setting_of k phase v.bits) v.solution v.assignment q n) (sym e) (λ f. f, λ f. f)
        ]
      ]

  module _ (care : H) (words : PhaseWords) (old : Diagrams) (o : IsOpen k phase care words old) where
    abbrev Solved : Type 0
    Solved = CaseIn w (root_at old words.roots)

    abbrev to : Case k phase → Solved
    to v = solved_case k phase words old o.roots v

    same_fault : (y : Spot) (v : Case k phase) → Among (step_spots plan) y → StandsAt w (root_at old words.roots) y (to v) ↔ StandsIn k phase y v
    same_fault y v m = same_kind v y.kind y.at (step_kinds (steps_of w) y m)

    pub steps_clear : (new : Diagrams) → AreClearSteps w care words.roots words.gates old new → IsClearAt k phase (step_spots plan)
    steps_clear new clear =
        clear_case k phase Solved (StandsAt w (root_at old words.roots)) (λ (v : Solved). function_of old care v.valuation) (step_spots plan) to same_fault (λ v. o.care_is v.bits) clear.clear

    steps_found : (new : Diagrams) (fault : CircuitFault) → IsFirstFault w care words.roots fault old new
        → IsFoundIn (StandsIn k phase) (λ (v : Case k phase). met k phase v.bits) (λ (v : Case k phase). at_bits new fault.at v.bits) (planned_spots k plan) (record { kind = fault.kind; at = fault.place })
    steps_found new fault first =
        earlier_stage (Case k phase) (StandsIn k phase) (λ (v : Case k phase). met k phase v.bits) (λ (v : Case k phase). at_bits new fault.at v.bits)
        (step_spots plan) (kept_spots k.circuit ++ map spot_of plan.wishes) (record { kind = fault.kind; at = fault.place })
        (found_case k phase Solved (StandsAt w (root_at old words.roots)) (λ (v : Solved). function_of old care v.valuation) (step_spots plan) to same_fault (λ v. o.care_is v.bits)
        (λ (v : Solved). function_of new fault.at v.valuation) (record { kind = fault.kind; at = fault.place }) first.found)

    pub step_fault : (model : HasOneModel k phase) (budget a : ℕ) (new : Diagrams) (fault : CircuitFault) → IsPhaseStore k phase budget a words new
        → IsReduced new.vars new.nodes → IsFirstFault w care words.roots fault old new
        → IsPhaseFault k phase (record { kind = fault.kind; place = fault.place; at = fault.at; values = None; least = words.least }) new
    step_fault model budget a new fault store sound first =
        phase_fault k phase plan ready range is model (record { kind = fault.kind; place = fault.place; at = fault.at; values = None; least = words.least }) budget a words new
        store sound refl first.live first.some tt (steps_found new fault first)
        (λ v e. printed_without k phase (setting_of k phase v.bits) v.solution v.assignment fault.kind fault.place (inl first.kinds))
