use Rattle.std.proofs.Common.{◌<◌, List, Some, length, arith, ap, subst, sym, ◌∙◌}
use Rattle.std.proofs.lemmas.Option.{slice_get-get_or, slice_get_within}
use Rattle.bdd_core.proofs.Frames.{rest_then, writes_then}
use Rattle.step_roots.proofs.HoldRoots.{all_taken, one_taken}
use Rattle.vrt_model.proofs.Members.{all_among}
use Rattle.vrt_model.specs.Lists.{At}
use Rattle.vrt_model.specs.declared.circuit.Hold.{Hold}
use Rattle.step_roots.proofs.roots.take_bits.Goals as goal

pub loop-hold-preserved : goal.loop-hold-preserved
loop-hold-preserved c =
    let circuit = c.args.circuit.now in
    let gates = c.args.gates in
    let roots = c.args.roots in
    let first = c.args.store.now in
    let old = c.loop-hold.store in
    let new = c.take_bit.new.store in
    let i = c.loop-hold.hold-index in
    let hold : Hold = c.hold-item.result in
    let items : List Hold = c.as_slice-hold-items.result.now in
    let there : At circuit.holds i hold =
    subst (λ (hs : List Hold). At hs i hold) c.as_slice-hold-items.ensures
    (slice_get-get_or items i _ c.loop-hold-test.true ∙ ap (λ (h : Hold). Some h) (sym c.hold-item.is)) in
    let small = all_among (λ (h : Hold). (h.net.0 < gates.len) × (h.net.0 < roots.len)) circuit.holds hold c.requires.holds (i, there) in
    record {
      writes = writes_then roots first old new c.loop-hold.invariant.writes c.take_bit.ensures.writes;
      rest = rest_then first old new new.words c.loop-hold.invariant.rest c.take_bit.ensures.rest;
      taken = one_taken circuit circuit.holds gates roots i hold first old new there c.requires.apart c.loop-hold.invariant.writes small.0 c.take_bit.ensures.taken c.take_bit.ensures.others
          c.loop-hold.invariant.taken;
    }

pub returns-clause-taken : goal.returns-clause-taken
returns-clause-taken c =
    all_taken c.args.circuit.now c.args.gates c.args.roots c.loop-hold.hold-index c.args.store.now c.loop-hold.store c.loop-hold.invariant.taken
    (λ at hold there. (let lt = slice_get_within c.args.circuit.now.holds at hold there in omega (arith, lt, c.loop-hold.auto.hold-index-end, ap (λ (hs : List Hold). length hs) c.as_slice-hold-items.ensures)))
