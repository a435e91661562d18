-- A step over a net with a free output of a whole instance: no fault stands there, and its handle becomes that of the output.
use Rattle.std.proofs.Common.{◌≡◌, ℕ, ◌+◌, ◌<◌, ◌⊎◌, Bool, true, [], ◌∷◌, Option, Some, length, arith, ap, sym, subst, ◌∙◌, inl, inr, ◌≤◌}
use Rattle.std.specs.Prelude.{slice_get}
use Rattle.std.proofs.lemmas.Bool.{cases_eq}
use Rattle.std.proofs.lemmas.Option.{same_Some, slice_get_within}
use Rattle.node_pool.specs.declared.region.Span.{Span}
use Rattle.bdd_core.specs.Diagram.{Valuation, meaning}
use Rattle.bdd_core.specs.Store.{Diagrams, function_of}
use Rattle.bdd_core.specs.Words.{IsFilled, shows, word_at}
use Rattle.bdd_core.specs.declared.handle.H.{H}
use Rattle.channel_parts.specs.OneSolution.{AreObserved}
use Rattle.channel_parts.specs.PartLists.{net_numbers}
use Rattle.channel_parts.specs.declared.part.Part.{Part}
use Rattle.circuit_faults.proofs.CircuitLaws.{AreDrivenAt, IsClearStep, IsDone, IsSolvedBefore, inside_or_not, one_part, step_is}
use Rattle.circuit_faults.proofs.Solutions.{some_state, some_state_agrees, some_state_is}
use Rattle.circuit_faults.proofs.ThreeSpans.{output_word}
use Rattle.circuit_faults.proofs.WholeParts.{number_inside}
use Rattle.circuit_faults.specs.Cases.{CaseIn, StandsAt}
use Rattle.circuit_faults.specs.Faults.{HasFault, HasFixedBits, IsSolvedAt}
use Rattle.circuit_faults.specs.Results.{root_at}
use Rattle.circuit_faults.specs.Scans.{IsInside}
use Rattle.circuit_faults.specs.Steps.{InPhase, IsInStepBefore, IsPartAt, part_step, phase_of, step_of}
use Rattle.circuit_faults.specs.Wholes.{AreOutputsOrdered, HasSoundWholes, IsCopied}
use Rattle.circuit_faults.specs.declared.steps.CircuitStep.{CircuitStep}
use Rattle.circuit_faults.specs.declared.steps.CircuitStep.TheVariants.{Part as PartStep}
use Rattle.fault_places.proofs.ListedSpots.{clear_both, clear_listed}
use Rattle.fault_places.specs.PhaseSpots.{spots_at}
use Rattle.fault_places.specs.Searches.{Spot}
use Rattle.vrt_model.proofs.Laws.{one_response, shows_no_float}
use Rattle.vrt_model.specs.Lists.{At}
use Rattle.vrt_model.specs.Reading.{bare}
use Rattle.vrt_model.specs.Response.{Fight as Fights, Float as Floats, IsResponse, Response, Shows}
use Rattle.vrt_model.specs.Solution.{Agrees, AlwaysResponds}
use Rattle.vrt_model.specs.State.{IsState, OutputPin, Setting, State, network_of, output_pins}
use Rattle.vrt_model.specs.declared.verdict.FaultKind.TheVariants.{Fight, Float}
use Rattle.whole_steps.proofs.FreeOutputLaws.{free_outputs_show}
use Rattle.whole_steps.specs.FreeOutputs.{IsFreeOutput}
use Rattle.whole_steps.specs.declared.table.OutputPlace.{OutputPlace}

-- a net that shows a bit does not fight
shows_no_fight : (v : Bool) → Shows v ≡ Fights → ⊥
shows_no_fight v e = cc

module _ (w : InPhase) (care : H) (roots gates : Span)
    (wholes : HasSoundWholes w.circuit (phase_of w) w.observed) (seen : AreObserved w.circuit w.observed) (ordered : AreOutputsOrdered w)
    (gates_len : gates.len ≡ length w.circuit.nets) (fits : length w.circuit.nets + length (output_pins w.circuit) ≤ roots.len)
    (k : ℕ) (part : Part) (here : IsPartAt w k part) (place : OutputPlace) (out : OutputPin) (pin : At (output_pins w.circuit) place.number out) (free : IsFreeOutput w.circuit place.number out)
    (inside : IsInside part out.pin.net.0) (first now new : Diagrams) (before : IsSolvedBefore w care roots gates k first now) (driven : AreDrivenAt w care roots part first now)
    (live : IsFilled now gates) (roots_live : IsFilled now roots) (fixed : (v : Valuation) → HasFixedBits w.circuit (phase_of w) (root_at first roots v))
    (copied : IsCopied w.circuit place out.pin.net.0 roots gates now new) (kept : (h : ℕ) (v : Valuation) → h < length now.nodes → meaning new.nodes h v ≡ meaning now.nodes h v)
    (outputs : (n : ℕ) (v : Valuation) → n < length (output_pins w.circuit) → root_at new roots v (length w.circuit.nets + n) ≡ root_at now roots v (length w.circuit.nets + n)) where
  abbrev net : ℕ
  net = out.pin.net.0

  abbrev Case : Type 0
  Case = CaseIn w (root_at first roots)

  abbrev cared : Case → Bool
  cared v = function_of first care v.valuation

  abbrev Stands : Spot → Case → Type 0
  Stands x v = StandsAt w (root_at first roots) x v

  abbrev bit : Valuation → Bool
  bit v = shows new gates net v

  -- the net is alone in its part
  only : (n : ℕ) → IsInside part n → n ≡ net
  only n i = ordered.alone k place.number part out n here pin free inside i

  -- its handle is that of the output
  bit_is : (v : Valuation) → root_at now roots v (length w.circuit.nets + place.number) ≡ bit v
  bit_is v =
      let number = slice_get_within (output_pins w.circuit) place.number out pin in
      let word : word_at new gates net ≡ word_at now roots (length w.circuit.nets + place.number) = copied.here ∙ output_word w.circuit roots now place.number in
      sym (kept (word_at now roots (length w.circuit.nets + place.number)) v (roots_live (length w.circuit.nets + place.number) (omega (arith, number, fits))))
      ∙ ap (λ (h : ℕ). meaning new.nodes h v) (sym word)

  module _ (v : Valuation) (setting : Setting) (a : ℕ → Option Bool) (met : function_of first care v ≡ true)
      (solved : IsSolvedAt w.circuit (phase_of w) w.observed (root_at first roots v) setting a) where
    -- in each state that agrees with the solution the output has the bit of the handle
    drives : (s : State) → IsState w.circuit (phase_of w) setting.inputs s → Agrees w.observed a s.reading → s.driven place.number ≡ bit v
    drives s is agrees = driven v setting a met solved place.number out pin inside s is agrees ∙ bit_is v

    shown : (s : State) → IsState w.circuit (phase_of w) setting.inputs s → Agrees w.observed a s.reading → IsResponse (network_of w.circuit bare setting.held s) net (Shows (bit v))
    shown s is agrees =
        subst (λ (b : Bool). IsResponse (network_of w.circuit bare setting.held s) net (Shows b)) (drives s is agrees)
        (free_outputs_show w.circuit bare setting.held s wholes.ranges place.number out pin free)

    output_bit : w.observed net ≡ true → a net ≡ Some (bit v)
    output_bit o = (solved.solves net (bit v) o).1 shown

    -- some state agrees
    abbrev one : State
    one = some_state w.circuit (phase_of w) w.observed wholes seen (root_at first roots v) (fixed v) setting solved.given a solved.solves

    one_shown : IsResponse (network_of w.circuit bare setting.held one) net (Shows (bit v))
    one_shown =
        shown one (some_state_is w.circuit (phase_of w) w.observed wholes seen (root_at first roots v) (fixed v) setting solved.given a solved.solves)
        (some_state_agrees w.circuit (phase_of w) w.observed wholes seen (root_at first roots v) (fixed v) setting solved.given a solved.solves)

    always_here : (r : Response) → AlwaysResponds w.circuit (phase_of w) w.observed setting a bare net r → IsResponse (network_of w.circuit bare setting.held one) net r
    always_here r always =
        always one (some_state_is w.circuit (phase_of w) w.observed wholes seen (root_at first roots v) (fixed v) setting solved.given a solved.solves)
        (some_state_agrees w.circuit (phase_of w) w.observed wholes seen (root_at first roots v) (fixed v) setting solved.given a solved.solves)

    no_fight : ¬ AlwaysResponds w.circuit (phase_of w) w.observed setting a bare net Fights
    no_fight always = shows_no_fight (bit v) (one_response (network_of w.circuit bare setting.held one) net (Shows (bit v)) Fights one_shown (always_here Fights always))

    no_float : ¬ AlwaysResponds w.circuit (phase_of w) w.observed setting a bare net Floats
    no_float always = shows_no_float (network_of w.circuit bare setting.held one) net (bit v) one_shown (always_here Floats always)

  pub output_next : IsSolvedBefore w care roots gates (k + 1) first new
  output_next = record {
    bits = λ v setting a met solved n o done. elim (inside_or_not part n) [
      | inl i ↦
          let same : n ≡ net = only n i in
          subst (λ (m : ℕ). a m ≡ Some (shows new gates m v)) (sym same) (output_bit v setting a met solved (subst (λ (m : ℕ). w.observed m ≡ true) same o))
      | inr beside ↦ before.bits v setting a met solved n o (not_here n beside done) ∙ ap (λ (b : Bool). Some b) (sym (stays v n o beside))
    ];
    clear = λ j step lt e. elim (cases_eq j k) [
      | inl same ↦
          let is : PartStep here.0 ≡ step = same_Some (PartStep here.0) step (sym here.1 ∙ ap (slice_get w.steps) (sym same) ∙ e) in
          subst (λ (s : CircuitStep). IsClearStep w care roots first (step_of w.parts s)) is
          (subst (IsClearStep w care roots first) (sym (step_is w here.0 part here.2)) part_clear)
      | inr ne ↦ before.clear j step (omega (arith, lt, ne)) e
    ];
    driven = λ v setting a met solved number o e step s is agrees. elim (inside_or_not part o.pin.net.0) [
      | inl i ↦ driven v setting a met solved number o e i s is agrees ∙ sym (outputs number v (slice_get_within (output_pins w.circuit) number o e))
      | inr away ↦ elim (earlier_or_here o.pin.net.0 step) [
        | inl low ↦ before.driven v setting a met solved number o e low s is agrees ∙ sym (outputs number v (slice_get_within (output_pins w.circuit) number o e))
        | inr i ↦ absurd (away i)
      ]
    ];
  }
    where
      earlier_or_here : (n : ℕ) → IsInStepBefore w (k + 1) n → IsInStepBefore w k n ⊎ IsInside part n
      earlier_or_here n e =
          elim (cases_eq e.0 k) [
            | inl same ↦ inr (subst (λ (q : Part). IsInside q n) (one_part w e.0 k e.1 part same e.3 here) e.4)
            | inr ne ↦ inl (e.0, e.1, (let lt = e.2 in omega (arith, lt, ne)), e.3, e.4)
          ]

      not_here : (n : ℕ) → (¬ IsInside part n) → IsDone w (k + 1) n → IsDone w k n
      not_here n beside (inl g) = inl g
      not_here n beside (inr (inl b)) = inr (inl b)
      not_here n beside (inr (inr e)) = elim (earlier_or_here n e) [ inl low ↦ inr (inr low) | inr i ↦ absurd (beside i) ]

      stays : (v : Valuation) (n : ℕ) → w.observed n ≡ true → (¬ IsInside part n) → shows new gates n v ≡ shows now gates n v
      stays v n o beside =
          let lt : n < gates.len = (let within = seen.nets n o in omega (arith, within, gates_len)) in
          ap (λ (h : ℕ). meaning new.nodes h v) (copied.others n (λ e. beside (subst (IsInside part) (sym e) inside))) ∙ kept (word_at now gates n) v (live n lt)

      none_fights : (n : ℕ) → IsInside part n → (v : Case) → cared v ≡ true → ¬ HasFault w.circuit (phase_of w) w.observed v.setting v.solution Fight n
      none_fights n i v met f =
          no_fight v.valuation v.setting v.solution met v.solved (subst (λ (m : ℕ). AlwaysResponds w.circuit (phase_of w) w.observed v.setting v.solution bare m Fights) (only n i) f.1)

      none_floats : (n : ℕ) → IsInside part n → (v : Case) → cared v ≡ true → ¬ HasFault w.circuit (phase_of w) w.observed v.setting v.solution Float n
      none_floats n i v met f =
          no_float v.valuation v.setting v.solution met v.solved (subst (λ (m : ℕ). AlwaysResponds w.circuit (phase_of w) w.observed v.setting v.solution bare m Floats) (only n i) f.1)

      part_clear : IsClearStep w care roots first (part_step part)
      part_clear =
          clear_listed ℕ Case Stands cared (spots_at (Fight ∷ Float ∷ [])) (net_numbers part.nets)
          (λ i n e. let there = number_inside part n (i, e) in clear_both Case Stands cared n Fight Float (none_fights n there) (none_floats n there))
