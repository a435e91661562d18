use Rattle.std.proofs.Common.{◌≤◌, Some, arith, length, subst, sym}
use Rattle.node_pool.specs.declared.region.Span.{Span}
use Rattle.bdd_core.proofs.Results.{if_ok_more}
use Rattle.bdd_core.specs.Store.{IsSpan}
use Rattle.bdd_core.specs.Words.{IsApart, IsFilled, WritesTwo}
use Rattle.bdd_ops.specs.Counting.{IsSpanWithin}
use Rattle.circuit_faults.proofs.OutputWords.{behind_apart, behind_filled, behind_span, behind_within, one_gives, roots_filled, roots_reading, words_behind}
use Rattle.circuit_faults.proofs.ThreeSpans.{roots_fit}
use Rattle.circuit_faults.specs.Steps.{in_phase, phase_of}
use Rattle.vrt_model.specs.declared.rules.Phase.{Phase}
use Rattle.vrt_model.specs.State.{OutputPin, output_pins}
use Rattle.whole_steps.proofs.EvaluationLaws.{apart_turned}
use Rattle.whole_steps.specs.Evaluations.{HasEvaluated}
use Rattle.whole_steps.specs.Tables.{IsOutput, OutputGives, output_words}
use Rattle.circuit_faults.proofs.outputs.write_one.Goals as goal

pub phase_at-phase-requires : goal.phase_at-phase-requires
phase_at-phase-requires c = c.requires.wholes.phase c.requires.place.0.whole (c.args.place.whole, c.requires.place.1.whole)

pub write_output-requires-clause-pins : goal.write_output-requires-clause-pins
write_output-requires-clause-pins c =
    let circuit = c.args.phased.circuit.now in
    let roots = c.args.spans.roots in
    let d = c.args.store.now in
    let fits = roots_fit circuit c.args.phased.parts.now.list roots c.args.spans.gates c.args.spans.out d c.requires.spans in
    subst (λ (s : Span). IsSpan d s × IsFilled d s × (length (output_pins circuit) ≤ s.len)) (sym c.behind_nets-pins.ensures)
    (behind_span circuit roots fits d c.requires.spans.roots_span, behind_filled circuit roots fits d c.requires.spans.roots_live, omega (arith, fits))

pub write_output-requires-clause-apart : goal.write_output-requires-clause-apart
write_output-requires-clause-apart c =
    let circuit = c.args.phased.circuit.now in
    let roots = c.args.spans.roots in
    let spans = c.requires.spans in
    let fits = roots_fit circuit c.args.phased.parts.now.list roots c.args.spans.gates c.args.spans.out c.args.store.now spans in
    subst (λ (s : Span). IsApart c.args.spans.gates c.args.spans.out × IsApart s c.args.spans.out × IsApart c.args.spans.gates s) (sym c.behind_nets-pins.ensures)
    (spans.gates_out, apart_turned c.args.spans.out (words_behind circuit roots) (behind_apart circuit roots fits c.args.spans.out spans.roots_out), behind_apart circuit roots fits c.args.spans.gates spans.roots_gates)

pub write_output-requires-clause-last : goal.write_output-requires-clause-last
write_output-requires-clause-last c =
    subst (λ (p : Phase). HasEvaluated c.args.phased.circuit.now p c.args.last c.args.spans.gates c.args.spans.out c.args.store.now) (sym c.phase_at-phase.ensures) c.requires.last

pub returns-clause-found : goal.returns-clause-found
returns-clause-found c =
    if_ok_more _ _ c.write_output.result
    (λ _ found. subst (λ (p : Phase). HasEvaluated c.args.phased.circuit.now p (Some c.args.place.whole) c.args.spans.gates c.args.spans.out c.write_output.new.store) c.phase_at-phase.ensures found)
    c.write_output.ensures.found

pub returns-clause-writes : goal.returns-clause-writes
returns-clause-writes c =
    subst (λ (s : Span). WritesTwo (output_words c.args.phased.circuit.now s) c.args.spans.out c.args.store.now c.write_output.new.store) c.behind_nets-pins.ensures c.write_output.ensures.writes

pub returns-clause-live : goal.returns-clause-live
returns-clause-live c =
    let circuit = c.args.phased.circuit.now in
    let roots = c.args.spans.roots in
    let d = c.args.store.now in
    let new = c.write_output.new.store in
    let fits = roots_fit circuit c.args.phased.parts.now.list roots c.args.spans.gates c.args.spans.out d c.requires.spans in
    roots_filled circuit roots fits c.args.spans.out d new c.requires.spans.roots_out (returns-clause-writes c) c.requires.spans.roots_live
    (subst (IsFilled new) c.behind_nets-pins.ensures c.write_output.ensures.live)

pub returns-clause-gives : goal.returns-clause-gives
returns-clause-gives c =
    let w = in_phase c.args.phased in
    let roots = c.args.spans.roots in
    let d = c.args.store.now in
    let new = c.write_output.new.store in
    let fits = roots_fit w.circuit w.parts roots c.args.spans.gates c.args.spans.out d c.requires.spans in
    let o : OutputPin = c.requires.place.0 in
    let is : IsOutput w.circuit (output_pins w.circuit) c.args.place o = c.requires.place.1 in
    if_ok_more _ _ c.write_output.result
    (λ _ g. one_gives w roots c.args.spans.gates d new c.args.place o is fits
    (subst (λ (s : Span). OutputGives (phase_of w) c.args.place.number o c.args.spans.gates s d new) c.behind_nets-pins.ensures
    (subst (λ (p : Phase). OutputGives p c.args.place.number o c.args.spans.gates c.behind_nets-pins.result d new) c.phase_at-phase.ensures (g o is))))
    c.write_output.ensures.gives

pub returns-clause-few : goal.returns-clause-few
returns-clause-few c o is u gates roots_in =
    let circuit = c.args.phased.circuit.now in
    let roots = c.args.spans.roots in
    let d = c.args.store.now in
    let new = c.write_output.new.store in
    let fits = roots_fit circuit c.args.phased.parts.now.list roots c.args.spans.gates c.args.spans.out d c.requires.spans in
    record {
      counts = c.write_output.ensures.counts o is u gates;
      within = if_ok_more _ _ c.write_output.result
          (λ _ reads. roots_reading circuit roots fits c.args.spans.out d new c.requires.spans.roots_out (returns-clause-writes c) u c.requires.spans.roots_live roots_in
          (subst (IsSpanWithin u new) c.behind_nets-pins.ensures
          (reads u gates (subst (IsSpanWithin u d) (sym c.behind_nets-pins.ensures) (behind_within circuit roots fits u d roots_in)))))
          c.write_output.ensures.within;
    }
