use Rattle.std.proofs.Common.{◌≡◌, ℕ, ◌+◌, List, Err, ap, arith, get_or, length, take}
use Rattle.std.specs.Prelude.{sum_by}
use Rattle.std.proofs.lemmas.List.Sums.{sum_by-take-le}
use Rattle.bdd_core.proofs.Frames.{two_filled, two_first, two_then, writes_none}
use Rattle.bdd_ops.proofs.CountingLaws.{counted_more, counted_none, counted_then, counts_more, counts_ok, counts_then}
use Rattle.circuit_faults.proofs.CountLaws.{roots_within, sum_next}
use Rattle.circuit_faults.proofs.OutputWords.{nets_all, nets_more, nets_none}
use Rattle.circuit_faults.proofs.ScanLaws.{net_at}
use Rattle.circuit_faults.proofs.ThreeSpans.{apart_outputs, outputs_filled, outputs_kept, roots_fit}
use Rattle.circuit_faults.specs.Results.{output_span}
use Rattle.circuit_faults.specs.Steps.{InPhase, in_phase}
use Rattle.circuit_faults.specs.Operations.{net_operations}
use Rattle.vrt_model.proofs.Members.{all_among}
use Rattle.vrt_model.specs.Circuits.{IsNet}
use Rattle.vrt_model.specs.Lists.{At}
use Rattle.vrt_model.specs.declared.ids.Net.{Net}
use Rattle.circuit_faults.proofs.outputs.write_outputs.Goals as goal

pub loop-i-init : goal.loop-i-init
loop-i-init c =
    let w : InPhase = in_phase c.args.phased in
    let roots = c.args.spans.roots in
    let gates = c.args.spans.gates in
    let out = c.args.spans.out in
    let first = c.args.store.now in
    let fits = roots_fit w.circuit w.parts roots gates out first c.requires.spans in
    let span = output_span w.circuit roots in
    record {
      writes = two_first span out first first (writes_none span first c.sound.ensures.sound c.sound.ensures.within (outputs_filled w.circuit roots first fits c.requires.spans.roots_live));
      live = c.requires.live;
      roots = c.requires.spans.roots_live;
      gives = nets_none w roots gates out fits c.args.part.now first;
      counted = λ u gates_in roots_in. (counted_none u first, (gates_in, roots_in));
    }

pub write_net-requires-clause-net : goal.write_net-requires-clause-net
write_net-requires-clause-net c =
    let part = c.args.part.now in
    let i = c.loop-i.i in
    let net : Net = get_or c.as_slice-nets.result.now i (record { 0 = 0 }) in
    let there : At part.nets i net = net_at part.nets c.as_slice-nets.result.now i (record { 0 = 0 }) c.as_slice-nets.ensures c.loop-i-test.true in
    all_among (IsNet c.args.phased.circuit.now) part.nets net c.requires.nets (i, there)

pub write_net-requires-clause-spans : goal.write_net-requires-clause-spans
write_net-requires-clause-spans c =
    outputs_kept c.args.phased.circuit.now c.args.phased.parts.now.list c.args.spans.roots c.args.spans.gates c.args.spans.out c.args.store.now c.loop-i.store c.loop-i.invariant.writes
    c.loop-i.invariant.roots c.requires.spans

pub returns-in-Err-clause-writes : goal.returns-in-Err-clause-writes
returns-in-Err-clause-writes c =
    two_then (output_span c.args.phased.circuit.now c.args.spans.roots) c.args.spans.out c.args.store.now c.loop-i.store c.write_net.new.store c.loop-i.invariant.writes c.write_net.ensures.writes

pub returns-in-Err-clause-few : goal.returns-in-Err-clause-few
returns-in-Err-clause-few c u gates_in roots_in =
    let w : InPhase = in_phase c.args.phased in
    let first = c.args.store.now in
    let now = c.loop-i.store in
    let i = c.loop-i.i in
    let part = c.args.part.now in
    let net : Net = get_or c.as_slice-nets.result.now i (record { 0 = 0 }) in
    let there : At part.nets i net = net_at part.nets c.as_slice-nets.result.now i (record { 0 = 0 }) c.as_slice-nets.ensures c.loop-i-test.true in
    let before = c.loop-i.invariant.counted u gates_in roots_in in
    let last = c.in-Err.ensures.few u before.1.0 before.1.1 in
    let work : Net → ℕ = λ x. net_operations w.circuit x.0 in
    let sums = sum_next work part.nets i net there in
    let all = sum_by-take-le work part.nets (i + 1) in
    record {
      counts = counts_more u (sum_by work (take i part.nets) + work net) (sum_by work part.nets) first c.write_net.new.store (Err c.in-Err.spent) (omega (arith, sums, all))
          (counts_then u (sum_by work (take i part.nets)) (work net) first now c.write_net.new.store (Err c.in-Err.spent) before.0 last.counts);
      within = tt;
    }

pub loop-i-preserved : goal.loop-i-preserved
loop-i-preserved c =
    let w : InPhase = in_phase c.args.phased in
    let roots = c.args.spans.roots in
    let gates = c.args.spans.gates in
    let out = c.args.spans.out in
    let first = c.args.store.now in
    let fits = roots_fit w.circuit w.parts roots gates out first c.requires.spans in
    let now = c.loop-i.store in
    let i = c.loop-i.i in
    let part = c.args.part.now in
    let net : Net = get_or c.as_slice-nets.result.now i (record { 0 = 0 }) in
    let there : At part.nets i net = net_at part.nets c.as_slice-nets.result.now i (record { 0 = 0 }) c.as_slice-nets.ensures c.loop-i-test.true in
    let new = c.write_net.new.store in
    let span = output_span w.circuit roots in
    let before = c.loop-i.invariant.writes in
    let step = c.write_net.ensures.writes in
    record {
      writes = two_then span out first now new before step;
      live = two_filled span out gates now new step (apart_outputs w.circuit roots gates fits c.requires.spans.roots_gates) c.requires.spans.gates_out c.loop-i.invariant.live;
      roots = c.write_net.ensures.live;
      gives = nets_more w roots gates out fits part first w.parts c.requires.wholes.wholes.ranges now new c.requires.spans c.requires.live
          (outputs_filled w.circuit roots now fits c.loop-i.invariant.roots) before step i net there c.loop-i.invariant.gives c.in-Ok.ensures.gives;
      counted = λ u gates_in roots_in.
          let so_far = c.loop-i.invariant.counted u gates_in roots_in in
          let last = c.in-Ok.ensures.few u so_far.1.0 so_far.1.1 in
          let work : Net → ℕ = λ x. net_operations w.circuit x.0 in
          let sums = sum_next work part.nets i net there in (
            counted_more u (sum_by work (take i part.nets) + work net) (sum_by work (take (i + 1) part.nets)) first new (omega (arith, sums))
                (counted_then u (sum_by work (take i part.nets)) (work net) first now new so_far.0 last.counts.added),
            (
              roots_within u span out gates now new step (apart_outputs w.circuit roots gates fits c.requires.spans.roots_gates) c.requires.spans.gates_out c.loop-i.invariant.live so_far.1.0,
              last.within,
            ),
          );
    }

pub returns-clause-gives : goal.returns-clause-gives
returns-clause-gives c =
    let w : InPhase = in_phase c.args.phased in
    let roots = c.args.spans.roots in
    let gates = c.args.spans.gates in
    let out = c.args.spans.out in
    let first = c.args.store.now in
    let fits = roots_fit w.circuit w.parts roots gates out first c.requires.spans in
    let part = c.args.part.now in
    let ended = c.loop-i-test.false in
    let size : length c.as_slice-nets.result.now ≡ length part.nets = ap (λ (ns : List Net). length ns) c.as_slice-nets.ensures in
    nets_all w roots gates out fits part first c.loop-i.store c.loop-i.i (omega (arith, ended, size)) c.loop-i.invariant.gives

pub returns-clause-few : goal.returns-clause-few
returns-clause-few c u gates_in roots_in =
    let w : InPhase = in_phase c.args.phased in
    let part = c.args.part.now in
    let first = c.args.store.now in
    let so_far = c.loop-i.invariant.counted u gates_in roots_in in
    let work : Net → ℕ = λ x. net_operations w.circuit x.0 in
    record {
      counts = counts_ok u (sum_by work part.nets) first c.loop-i.store tt
          (counted_more u (sum_by work (take c.loop-i.i part.nets)) (sum_by work part.nets) first c.loop-i.store (sum_by-take-le work part.nets c.loop-i.i) so_far.0);
      within = so_far.1.1;
    }
