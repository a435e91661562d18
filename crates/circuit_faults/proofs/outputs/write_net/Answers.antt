use Rattle.std.proofs.Common.{◌≡◌, ◌+◌, ◌<◌, ◌≤◌, Option, None, Some, Err, ap, arith, length, refl, subst, sym}
use Rattle.bdd_core.proofs.Frames.{two_filled, two_first, two_then, writes_none}
use Rattle.bdd_ops.proofs.CountingLaws.{counted_more, counts_more, counts_ok, counts_then}
use Rattle.circuit_faults.proofs.CountLaws.{roots_within}
use Rattle.circuit_faults.proofs.OutputWords.{AreWrittenDown, down_all, down_more, down_none, last_low, left_of}
use Rattle.circuit_faults.proofs.ThreeSpans.{apart_outputs, outputs_filled, outputs_kept, roots_fit}
use Rattle.circuit_faults.proofs.WiredWork.{work_all, work_next}
use Rattle.circuit_faults.specs.Results.{output_span}
use Rattle.circuit_faults.specs.Steps.{InPhase, in_phase}
use Rattle.circuit_faults.specs.Operations.{net_operations}
use Rattle.std.proofs.lemmas.Option.{slice_get_within}
use Rattle.vrt_model.specs.State.{output_pins}
use Rattle.whole_steps.specs.Evaluations.{output_operations}
use Rattle.whole_steps.specs.Tables.{driver_at}
use Rattle.whole_steps.specs.declared.table.OutputPlace.{OutputPlace}
use Rattle.circuit_faults.proofs.outputs.write_net.Goals as goal

pub outputs-init : goal.outputs-init
outputs-init c =
    let w : InPhase = in_phase c.args.phased in
    let roots = c.args.spans.roots in
    let gates = c.args.spans.gates in
    let out = c.args.spans.out in
    let first = c.args.store.now in
    let fits = roots_fit w.circuit w.parts roots gates out first c.requires.spans in
    let span = output_span w.circuit roots in
    record {
      writes = two_first span out first first (writes_none span first c.sound.ensures.sound c.sound.ensures.within (outputs_filled w.circuit roots first fits c.requires.spans.roots_live));
      live = c.requires.live;
      roots = c.requires.spans.roots_live;
      down = subst (AreWrittenDown w roots gates c.args.net.0 first first None) (sym c.driver_of-next.ensures)
          (down_none w roots gates out fits c.args.net.0 first c.args.wholes.drivers.now c.requires.wholes.table.outputs c.requires.net);
      evaluated = tt;
      within = λ u gates_in roots_in. (gates_in, roots_in);
    }

pub write_one-requires-clause-place : goal.write_one-requires-clause-place
write_one-requires-clause-place c =
    let w : InPhase = in_phase c.args.phased in
    let roots = c.args.spans.roots in
    let gates = c.args.spans.gates in
    let out = c.args.spans.out in
    let first = c.args.store.now in
    let place : OutputPlace = c.in-Some.place in
    let down : AreWrittenDown w roots gates c.args.net.0 first c.outputs.store c.outputs.last (Some place) = subst (AreWrittenDown w roots gates c.args.net.0 first c.outputs.store c.outputs.last) c.in-Some.is c.outputs.invariant.down in
    (down.last.0, down.last.1)

pub write_one-requires-clause-spans : goal.write_one-requires-clause-spans
write_one-requires-clause-spans c =
    outputs_kept c.args.phased.circuit.now c.args.phased.parts.now.list c.args.spans.roots c.args.spans.gates c.args.spans.out c.args.store.now c.outputs.store c.outputs.invariant.writes
    c.outputs.invariant.roots c.requires.spans

pub earlier_of-next-requires : goal.earlier_of-next-requires
earlier_of-next-requires c =
    let w : InPhase = in_phase c.args.phased in
    let roots = c.args.spans.roots in
    let gates = c.args.spans.gates in
    let out = c.args.spans.out in
    let first = c.args.store.now in
    let fits = roots_fit w.circuit w.parts roots gates out first c.requires.spans in
    let place : OutputPlace = c.in-Some.place in
    let down : AreWrittenDown w roots gates c.args.net.0 first c.outputs.store c.outputs.last (Some place) = subst (AreWrittenDown w roots gates c.args.net.0 first c.outputs.store c.outputs.last) c.in-Some.is c.outputs.invariant.down in
    let number = slice_get_within (output_pins w.circuit) place.number down.last.0 down.last.1.number in
    let end = c.requires.spans.roots_span.1 in
    omega (arith, number, fits, end, c.mark-count.ensures.words)

pub outputs-smaller : goal.outputs-smaller
outputs-smaller c =
    let w : InPhase = in_phase c.args.phased in
    let roots = c.args.spans.roots in
    let gates = c.args.spans.gates in
    let out = c.args.spans.out in
    let first = c.args.store.now in
    let place : OutputPlace = c.in-Some.place in
    let down : AreWrittenDown w roots gates c.args.net.0 first c.outputs.store c.outputs.last (Some place) = subst (AreWrittenDown w roots gates c.args.net.0 first c.outputs.store c.outputs.last) c.in-Some.is c.outputs.invariant.down in
    let entry : Option OutputPlace = driver_at c.args.wholes.drivers.now (length w.circuit.nets + place.number) in
    let low : left_of entry ≤ place.number =
    last_low w.circuit (output_pins w.circuit) down.last.0.pin.net.0 place.number entry (c.requires.wholes.table.outputs.earlier place.number down.last.0 down.last.1.number) in
    let new : left_of c.earlier_of-next.result ≡ left_of entry = ap left_of c.earlier_of-next.ensures in
    let old : left_of c.outputs.next ≡ place.number + 1 = ap left_of c.in-Some.is in
    let less : left_of c.earlier_of-next.result < left_of c.outputs.next = omega (arith, low, new, old) in
    less

pub outputs-preserved : goal.outputs-preserved
outputs-preserved c =
    let w : InPhase = in_phase c.args.phased in
    let roots = c.args.spans.roots in
    let gates = c.args.spans.gates in
    let out = c.args.spans.out in
    let first = c.args.store.now in
    let fits = roots_fit w.circuit w.parts roots gates out first c.requires.spans in
    let place : OutputPlace = c.in-Some.place in
    let down : AreWrittenDown w roots gates c.args.net.0 first c.outputs.store c.outputs.last (Some place) = subst (AreWrittenDown w roots gates c.args.net.0 first c.outputs.store c.outputs.last) c.in-Some.is c.outputs.invariant.down in
    let now = c.outputs.store in
    let new = c.write_one.new.store in
    let span = output_span w.circuit roots in
    let before = c.outputs.invariant.writes in
    let step = c.write_one.ensures.writes in
    record {
      writes = two_then span out first now new before step;
      live = two_filled span out gates now new step (apart_outputs w.circuit roots gates fits c.requires.spans.roots_gates) c.requires.spans.gates_out c.outputs.invariant.live;
      roots = c.write_one.ensures.live;
      down = subst (AreWrittenDown w roots gates c.args.net.0 first new (Some place.whole)) (sym c.earlier_of-next.ensures)
          (down_more w roots gates out fits c.args.net.0 first w.parts c.requires.wholes.wholes.ranges now new c.requires.spans c.requires.live
          (outputs_filled w.circuit roots now fits c.outputs.invariant.roots) before step place c.outputs.last down c.args.wholes.drivers.now c.requires.wholes.table.outputs c.in-Ok.ensures.gives
          (λ u gates_in roots_in. let both = c.outputs.invariant.within u gates_in roots_in in (c.in-Ok.ensures.few down.last.0 down.last.1 u both.0 both.1).counts.added));
      evaluated = c.in-Ok.ensures.found;
      within = λ u gates_in roots_in.
          let both = c.outputs.invariant.within u gates_in roots_in in (
            roots_within u span out gates now new step (apart_outputs w.circuit roots gates fits c.requires.spans.roots_gates) c.requires.spans.gates_out c.outputs.invariant.live both.0,
            (c.in-Ok.ensures.few down.last.0 down.last.1 u both.0 both.1).within,
          );
    }

pub returns-in-Err-clause-few : goal.returns-in-Err-clause-few
returns-in-Err-clause-few c u gates_in roots_in =
    let w : InPhase = in_phase c.args.phased in
    let roots = c.args.spans.roots in
    let gates = c.args.spans.gates in
    let out = c.args.spans.out in
    let first = c.args.store.now in
    let place : OutputPlace = c.in-Some.place in
    let down : AreWrittenDown w roots gates c.args.net.0 first c.outputs.store c.outputs.last (Some place) = subst (AreWrittenDown w roots gates c.args.net.0 first c.outputs.store c.outputs.last) c.in-Some.is c.outputs.invariant.down in
    let both = c.outputs.invariant.within u gates_in roots_in in
    let so_far = down.counted u gates_in roots_in in
    let last = c.in-Err.ensures.few down.last.0 down.last.1 u both.0 both.1 in
    let more = work_next w.circuit c.args.net.0 place.whole c.outputs.last down.last.0.whole down.last.0.pin down.last.1.whole (place.output, down.last.1.output) down.last.3 (down.order place refl) in
    let all = work_all w.circuit c.args.net.0 (Some place.whole) in
    let most = so_far.2 in
    let cost = output_operations c.outputs.last place.whole down.last.0.whole in
    record {
      counts = counts_more u (so_far.0 + cost) (net_operations w.circuit c.args.net.0) first c.write_one.new.store (Err c.in-Err.spent) (omega (arith, more, all, most))
          (counts_then u so_far.0 cost first c.outputs.store c.write_one.new.store (Err c.in-Err.spent) so_far.1 last.counts);
      within = tt;
    }

pub returns-in-Err-clause-writes : goal.returns-in-Err-clause-writes
returns-in-Err-clause-writes c =
    two_then (output_span c.args.phased.circuit.now c.args.spans.roots) c.args.spans.out c.args.store.now c.outputs.store c.write_one.new.store c.outputs.invariant.writes c.write_one.ensures.writes

pub returns-clause-gives : goal.returns-clause-gives
returns-clause-gives c =
    let w : InPhase = in_phase c.args.phased in
    let roots = c.args.spans.roots in
    let gates = c.args.spans.gates in
    let out = c.args.spans.out in
    let first = c.args.store.now in
    let fits = roots_fit w.circuit w.parts roots gates out first c.requires.spans in
    down_all w roots gates out fits c.args.net.0 first c.outputs.store c.outputs.last c.outputs.next c.in_default.is c.outputs.invariant.down

pub returns-clause-few : goal.returns-clause-few
returns-clause-few c u gates_in roots_in =
    let w : InPhase = in_phase c.args.phased in
    let roots = c.args.spans.roots in
    let gates = c.args.spans.gates in
    let out = c.args.spans.out in
    let first = c.args.store.now in
    let so_far = c.outputs.invariant.down.counted u gates_in roots_in in
    let most = so_far.2 in
    let all = work_all w.circuit c.args.net.0 c.outputs.last in
    record {
      counts = counts_ok u (net_operations w.circuit c.args.net.0) first c.outputs.store tt
          (counted_more u so_far.0 (net_operations w.circuit c.args.net.0) first c.outputs.store (omega (arith, most, all)) so_far.1);
      within = (c.outputs.invariant.within u gates_in roots_in).1;
    }
