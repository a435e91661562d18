-- One instance more: its constraints are looked at where the nets of its named ports have their bits.
use Rattle.std.proofs.Common.{◌≡◌, ℕ, ◌+◌, ◌<◌, Bool, true, false, cond, [], ◌∷◌, Some, None, length, arith, ap, refl, sym, subst, ◌∙◌, inl, inr, ◌≤◌}
use Rattle.std.specs.Prelude.{◌↔◌, slice_get}
use Rattle.std.proofs.lemmas.Bool.{cases_eq, false≢true}
use Rattle.std.proofs.lemmas.Option.{none-some, same_Some, slice_get_within}
use Rattle.node_pool.specs.declared.region.Span.{Span}
use Rattle.bdd_core.proofs.Frames.{word_added}
use Rattle.bdd_core.specs.Diagram.{Function, Valuation, meaning}
use Rattle.bdd_core.specs.Store.{AddsNodes, Diagrams, function_of}
use Rattle.bdd_core.specs.Words.{IsFilled, shows, word_at}
use Rattle.bdd_core.specs.declared.handle.H.{H}
use Rattle.channel_parts.specs.OneSolution.{AreObserved}
use Rattle.circuit_faults.proofs.CircuitLaws.{IsClearStep, IsDone, IsSolvedBefore, found_step}
use Rattle.circuit_faults.specs.Cases.{CaseIn, StandsAt}
use Rattle.circuit_faults.specs.Results.{BrokenGives, IsFirstFault, broken_of, root_at}
use Rattle.circuit_faults.specs.Steps.{AreOrderedSteps, InPhase, IsInStepBefore, IsInstanceAt, IsReadyInstance, named_at, phase_of, step_of}
use Rattle.circuit_faults.specs.Wholes.{HasSoundWholes}
use Rattle.circuit_faults.specs.declared.net.CircuitFault.{CircuitFault}
use Rattle.circuit_faults.specs.declared.steps.CircuitStep.{CircuitStep}
use Rattle.circuit_faults.specs.declared.steps.CircuitStep.TheVariants.{Part as PartStep, Instance as InstanceStep}
use Rattle.constraints.proofs.BreaksLaws.{breaks}
use Rattle.constraints.proofs.NamedLaws.{breaks_same}
use Rattle.constraints.specs.Obliged.{obliged_at}
use Rattle.fault_places.proofs.ListedSpots.{clear_one, found_one, spot}
use Rattle.fault_places.specs.PhaseSpots.{spots_at}
use Rattle.fault_places.specs.Searches.{IsFoundIn, Spot}
use Rattle.known_nets.proofs.NetKinds.{given_or_plain}
use Rattle.known_nets.specs.KnownTables.{known_at}
use Rattle.vrt_model.proofs.Tests.{some_or_none}
use Rattle.vrt_model.specs.Faults.{BreaksConstraint}
use Rattle.path_fixpoint.specs.Parts.{pins_of}
use Rattle.vrt_model.specs.Lists.{Among}
use Rattle.vrt_model.specs.Reading.{Partial}
use Rattle.vrt_model.specs.State.{output_pins}
use Rattle.vrt_model.specs.declared.circuit.FlatInstance.{FlatInstance}
use Rattle.vrt_model.specs.declared.verdict.FaultKind.{FaultKind}
use Rattle.vrt_model.specs.declared.verdict.FaultKind.TheVariants.{Constraint}

-- where something is broken: there is care, and not all lines hold
broken_where : (care held : Function) (v : Valuation) → (broken_of care held v ≡ true) ↔ ((care v ≡ true) × (held v ≡ false))
broken_where care held v = by_test (held v)
  where
    by_test : (b : Bool) → (cond b false (care v) ≡ true) ↔ ((care v ≡ true) × (b ≡ false))
    by_test true = (λ e. absurd (false≢true e), λ h. absurd (false≢true (sym h.1)))
    by_test false = (λ e. (e, refl), λ h. h.0)

module _ (w : InPhase) (care : H) (roots gates : Span)
    (wholes : HasSoundWholes w.circuit (phase_of w) w.observed) (seen : AreObserved w.circuit w.observed) (are : AreOrderedSteps w) (roots_len : length w.circuit.nets + length (pins_of w.circuit) ≤ roots.len) (gates_len : gates.len ≡ length w.circuit.nets)
    (k at : ℕ) (i : FlatInstance) (here : IsInstanceAt w k at i) (ready : IsReadyInstance w i) (first now new : Diagrams)
    (before : IsSolvedBefore w care roots gates k first now) (live : IsFilled now gates)
    (kept_care : (v : Valuation) → function_of now care v ≡ function_of first care v) where
  abbrev Case : Type 0
  Case = CaseIn w (root_at first roots)

  abbrev cared : Case → Bool
  cared v = function_of first care v.valuation

  abbrev Stands : Spot → Case → Type 0
  Stands x v = StandsAt w (root_at first roots) x v

  -- where all lines of the cell hold, by the handles of the nets
  abbrev held : Function
  held = obliged_at now w.design w.rules i w.phase gates

  abbrev broken : Function
  broken = broken_of (function_of now care) held

  -- a named net is given, known, or in a part before the instance
  named_done : (n : ℕ) → Among (named_at w i) n → IsDone w k n
  named_done n m =
      elim (given_or_plain w.circuit n (seen.nets n (ready.seen n m))) [
        | inl g ↦ inl g
        | inr p ↦ elim (some_or_none (known_at w.known n)) [
          | inl b ↦ inr (inl (b.0, (are.table n b.0).0 b.1))
          | inr none ↦ inr (inr (are.ports k at i n here m p (λ b is. none-some b (sym none ∙ (are.table n b).1 is))))
        ]
      ]

  -- the bits of the handles
  abbrev bit_of : Valuation → Partial
  bit_of v n = Some (shows now gates n v)

  named_bit : (v : Case) → cared v ≡ true → (n : ℕ) → Among (named_at w i) n → v.solution n ≡ bit_of v.valuation n
  named_bit v met n m = before.bits v.valuation v.setting v.solution met v.solved n (ready.seen n m) (named_done n m)

  breaks_here : (v : Valuation) → (held v ≡ false) ↔ BreaksConstraint w.design w.rules w.phase (bit_of v) i
  breaks_here v =
      breaks w.design w.rules i w.phase now gates v (bit_of v) ready.apart ready.rules.clockports ready.named ready.ports (λ net m. refl)

  -- a constraint is broken by the solution exactly where not all lines hold
  broken_here : (v : Case) → cared v ≡ true → (held v.valuation ≡ false) ↔ BreaksConstraint w.design w.rules w.phase v.solution i
  broken_here v met = (
    λ e. breaks_same w.design w.rules w.phase i (bit_of v.valuation) v.solution (λ n m. sym (named_bit v met n m)) ((breaks_here v.valuation).0 e),
    λ b. (breaks_here v.valuation).1 (breaks_same w.design w.rules w.phase i v.solution (bit_of v.valuation) (λ n m. named_bit v met n m) b),
  )

  exact_here : (v : Case) → (broken v.valuation ≡ true) ↔ ((cared v ≡ true) × Stands (spot Constraint at) v)
  exact_here v = (
    λ e.
        let h = (broken_where (function_of now care) held v.valuation).0 e in
        let met : cared v ≡ true = sym (kept_care v.valuation) ∙ h.0 in
        (met, (i, here.1, (broken_here v met).0 h.1)),
    λ h.
        let same : h.1.0 ≡ i = same_Some h.1.0 i (sym h.1.1 ∙ here.1) in
        let breaks_it : BreaksConstraint w.design w.rules w.phase v.solution i = subst (BreaksConstraint w.design w.rules w.phase v.solution) same h.1.2 in
        (broken_where (function_of now care) held v.valuation).1 (kept_care v.valuation ∙ h.0, (broken_here v h.0).1 breaks_it),
  )

  earlier : (n : ℕ) → IsInStepBefore w (k + 1) n → IsInStepBefore w k n
  earlier n e =
      elim (cases_eq e.0 k) [
        | inl same ↦ absurd (not_part e.3.0 (same_Some (PartStep e.3.0) (InstanceStep at) (sym e.3.1 ∙ ap (slice_get w.steps) same ∙ here.0)))
        | inr ne ↦ (e.0, e.1, (let lt = e.2 in omega (arith, lt, ne)), e.3, e.4)
      ]
    where
      not_part : (number : ℕ) → PartStep number ≡ InstanceStep at → ⊥
      not_part number e = cc

  pub instance_clear_next : (fits : length w.circuit.nets + length (output_pins w.circuit) ≤ roots.len) → IsFilled now roots → AddsNodes now new → BrokenGives broken at new None → IsSolvedBefore w care roots gates (k + 1) first new
  instance_clear_next fits filled adds none = record {
    bits = λ v setting a met solved n o done. before.bits v setting a met solved n o (not_here n done) ∙ ap (λ (b : Bool). Some b) (sym (stays v n o));
    clear = λ j step lt e. elim (cases_eq j k) [
      | inl same ↦
          let is : InstanceStep at ≡ step = same_Some (InstanceStep at) step (sym here.0 ∙ ap (slice_get w.steps) (sym same) ∙ e) in
          subst (λ (s : CircuitStep). IsClearStep w care roots first (step_of w.parts s)) is clear_here
      | inr ne ↦ before.clear j step (omega (arith, lt, ne)) e
    ];
    driven = λ v setting a met solved number out e step s is agrees.
        before.driven v setting a met solved number out e (earlier out.pin.net.0 step) s is agrees
        ∙ sym (root_stays v number (slice_get_within (output_pins w.circuit) number out e));
  }
    where
      root_stays : (v : Valuation) (number : ℕ) → number < length (output_pins w.circuit)
          → root_at new roots v (length w.circuit.nets + number) ≡ root_at now roots v (length w.circuit.nets + number)
      root_stays v number lt =
          let within : length w.circuit.nets + number < roots.len = omega (arith, lt, fits) in
          ap (λ (h : ℕ). meaning new.nodes h v) (word_added roots now new (length w.circuit.nets + number) adds)
          ∙ adds.kept (word_at now roots (length w.circuit.nets + number)) (filled (length w.circuit.nets + number) within) v

      not_here : (n : ℕ) → IsDone w (k + 1) n → IsDone w k n
      not_here n (inl g) = inl g
      not_here n (inr (inl b)) = inr (inl b)
      not_here n (inr (inr e)) = inr (inr (earlier n e))

      stays : (v : Valuation) (n : ℕ) → w.observed n ≡ true → shows new gates n v ≡ shows now gates n v
      stays v n o =
          let lt : n < gates.len = (let within = seen.nets n o in omega (arith, within, gates_len)) in
          ap (λ (h : ℕ). meaning new.nodes h v) (word_added gates now new n adds) ∙ adds.kept (word_at now gates n) (live n lt) v

      clear_here : IsClearStep w care roots first (step_of w.parts (InstanceStep at))
      clear_here =
          clear_one Case Stands cared at Constraint
          (λ v met f. false≢true (sym (none v.valuation) ∙ (exact_here v).1 (met, f)))

  module _ (fault : CircuitFault) (f : BrokenGives broken at new (Some fault)) where
    abbrev found_where : Case → Bool
    found_where v = function_of new fault.at v.valuation

    found_exact : (v : Case) → (found_where v ≡ true) ↔ ((cared v ≡ true) × Stands (spot Constraint at) v)
    found_exact v = (λ e. (exact_here v).0 (sym (f.2.same v.valuation) ∙ e), λ h. f.2.same v.valuation ∙ (exact_here v).1 h)

    pub instance_fault_first : IsFirstFault w care roots fault first new
    instance_fault_first = record {
      kinds = inr (inr f.0);
      live = f.2.live;
      some = f.3;
      found =
          found_step w care roots gates wholes seen are roots_len gates_len k (InstanceStep at) here.0 first now before found_where (spot fault.kind fault.place)
          (subst (λ (kind : FaultKind). IsFoundIn Stands cared found_where (spots_at (Constraint ∷ []) at) (spot kind fault.place)) (sym f.0)
          (subst (λ (place : ℕ). IsFoundIn Stands cared found_where (spots_at (Constraint ∷ []) at) (spot Constraint place)) (sym f.1)
          (found_one Case Stands cared at found_where Constraint found_exact)));
    }
