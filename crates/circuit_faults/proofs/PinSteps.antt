-- The outputs at a part get their bits before it is looked through: in each state that agrees with a solution they have these.
use Rattle.std.proofs.Common.{◌≡◌, ℕ, ◌+◌, ◌<◌, ◌≤◌, Bool, true, Option, Some, length, arith, ap, sym, ◌∙◌, inl, inr}
use Rattle.std.proofs.lemmas.Option.{none-some, slice_get_within}
use Rattle.node_pool.specs.declared.region.Span.{Span}
use Rattle.bdd_core.proofs.Frames.{two_word}
use Rattle.bdd_core.specs.Diagram.{Valuation, meaning}
use Rattle.bdd_core.specs.Store.{Diagrams, function_of}
use Rattle.bdd_core.specs.Words.{IsFilled, WritesTwo, shows, word_at}
use Rattle.bdd_core.specs.declared.handle.H.{H}
use Rattle.channel_parts.proofs.DriveLaws.{gives_same}
use Rattle.channel_parts.specs.OneSolution.{AreObserved}
use Rattle.channel_parts.specs.declared.part.Part.{Part}
use Rattle.circuit_faults.proofs.CircuitLaws.{IsDone, IsSolvedBefore, inside_or_not}
use Rattle.circuit_faults.proofs.ThreeSpans.{apart_outputs, output_root, output_word}
use Rattle.circuit_faults.specs.Faults.{IsSolvedAt}
use Rattle.circuit_faults.specs.Results.{HasCircuitSpans, output_span, root_at}
use Rattle.circuit_faults.specs.Scans.{IsInside}
use Rattle.circuit_faults.specs.Steps.{AreOrderedSteps, InPhase, IsInStepBefore, IsPartAt, phase_of}
use Rattle.circuit_faults.specs.Wholes.{AreOutputsOrdered, HasSoundWholes, OutputsGive}
use Rattle.known_nets.proofs.NetKinds.{given_or_plain}
use Rattle.known_nets.proofs.WiredLaws.{pin_of_whole}
use Rattle.known_nets.specs.KnownTables.{known_at}
use Rattle.vrt_model.proofs.Tests.{some_or_none}
use Rattle.vrt_model.specs.Known.{IsPlain, IsUnknown}
use Rattle.vrt_model.specs.Lists.{At, Among}
use Rattle.vrt_model.specs.Solution.{Agrees}
use Rattle.vrt_model.specs.State.{IsState, OutputPin, Setting, State, output_pins}

module _ (w : InPhase) (care : H) (roots gates out : Span)
    (wholes : HasSoundWholes w.circuit (phase_of w) w.observed) (seen : AreObserved w.circuit w.observed) (are : AreOrderedSteps w) (ordered : AreOutputsOrdered w)
    (first : Diagrams) (k : ℕ) (part : Part) (here : IsPartAt w k part) (now mid : Diagrams) (fits : length w.circuit.nets + length (output_pins w.circuit) ≤ roots.len)
    (spans : HasCircuitSpans w.circuit w.parts roots gates out now) (live : IsFilled now gates)
    (before : IsSolvedBefore w care roots gates k first now) (writes : WritesTwo (output_span w.circuit roots) out now mid)
    (gives : OutputsGive w (λ at o. IsInside part o.pin.net.0) roots gates now mid) where
  -- an observed net is given or known, or it is in a part before where plain nets that are not known are
  done_before : (n : ℕ) → w.observed n ≡ true → (IsPlain w.circuit n → IsUnknown w.circuit (phase_of w) n → IsInStepBefore w k n) → IsDone w k n
  done_before n seen_here earlier =
      elim (given_or_plain w.circuit n (seen.nets n seen_here)) [
        | inl g ↦ inl g
        | inr p ↦ elim (some_or_none (known_at w.known n)) [
          | inl b ↦ inr (inl (b.0, (are.table n b.0).0 b.1))
          | inr none ↦ inr (inr (earlier p (λ b is. none-some b (sym none ∙ (are.table n b).1 is))))
        ]
      ]

  -- the bits of the nets stay
  pub gates_word : (n : ℕ) → n < gates.len → word_at mid gates n ≡ word_at now gates n
  gates_word n lt = two_word (output_span w.circuit roots) out gates now mid writes (apart_outputs w.circuit roots gates fits spans.roots_gates) spans.gates_out n lt

  gates_stay : (n : ℕ) (v : Valuation) → w.observed n ≡ true → shows mid gates n v ≡ shows now gates n v
  gates_stay n v o =
      let lt : n < gates.len = (let within = seen.nets n o in let len = spans.gates_len in omega (arith, within, len)) in
      ap (λ (h : ℕ). meaning mid.nodes h v) (gates_word n lt) ∙ writes.adds.kept (word_at now gates n) (live n lt) v

  -- an output elsewhere keeps its bit
  away_stays : (at : ℕ) (o : OutputPin) (v : Valuation) → At (output_pins w.circuit) at o → (¬ IsInside part o.pin.net.0)
      → root_at mid roots v (length w.circuit.nets + at) ≡ root_at now roots v (length w.circuit.nets + at)
  away_stays at o v e away =
      let lt = slice_get_within (output_pins w.circuit) at o e in
      let word : word_at mid roots (length w.circuit.nets + at) ≡ word_at now roots (length w.circuit.nets + at) =
      sym (output_word w.circuit roots mid at) ∙ gives.others at o e away ∙ output_word w.circuit roots now at in
      ap (λ (h : ℕ). meaning mid.nodes h v) word ∙ writes.adds.kept (word_at now roots (length w.circuit.nets + at)) (spans.roots_live (length w.circuit.nets + at) (omega (arith, lt, fits))) v

  module _ (v : Valuation) (setting : Setting) (a : ℕ → Option Bool) (met : function_of first care v ≡ true)
      (solved : IsSolvedAt w.circuit (phase_of w) w.observed (root_at first roots v) setting a) where
    -- in each state that agrees with the solution the model gives an output at the part the bit of its root
    pub driven_here : (at : ℕ) (o : OutputPin) → At (output_pins w.circuit) at o → IsInside part o.pin.net.0 → (s : State) → IsState w.circuit (phase_of w) setting.inputs s
        → Agrees w.observed a s.reading → s.driven at ≡ root_at mid roots v (length w.circuit.nets + at)
    driven_here at o e inside s is agrees =
        gives_same w.circuit (phase_of w) w.observed wholes.determined s.reading (λ n. shows now gates n v) o (s.driven at) (shows mid (output_span w.circuit roots) at v) (at, e)
        (is.driven at o e) (gives.bits at o e inside v)
        (λ input m linked seen_here.
        agrees input.net.0 (shows now gates input.net.0 v) seen_here
        (before.bits v setting a met solved input.net.0 seen_here
        (done_before input.net.0 seen_here (λ plain unknown.
        ordered.inputs k from.0 part o input here (at, e) inside from.1 m linked seen_here plain unknown))))
        ∙ output_root w.circuit roots mid at v
      where
        from : Among o.whole.outputs o.pin
        from = (pin_of_whole w.circuit o (at, e)).1

  -- what was known before is so still
  pub outputs_next : IsSolvedBefore w care roots gates k first mid
  outputs_next = record {
    bits = λ v setting a met solved n o done. before.bits v setting a met solved n o done ∙ ap (λ (b : Bool). Some b) (sym (gates_stay n v o));
    clear = before.clear;
    driven = λ v setting a met solved at o e step s is agrees. elim (inside_or_not part o.pin.net.0) [
      | inl i ↦ driven_here v setting a met solved at o e i s is agrees
      | inr away ↦ before.driven v setting a met solved at o e step s is agrees ∙ sym (away_stays at o v e away)
    ];
  }
