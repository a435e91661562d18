use Rattle.std.proofs.Common.{length, arith, ap, ◌∙◌}
use Rattle.std.proofs.lemmas.Option.{slice_get_within}
use Rattle.vrt_model.proofs.Lists.{item_at}
use Rattle.bdd_core.specs.Store.{Diagrams}
use Rattle.hold_keep.proofs.RewriteLaws.{clear_next, zero_next, zero_roots}
use Rattle.hold_keep.proofs.roots.clear.Goals as goal

pub loop-hold-preserved : goal.loop-hold-preserved
loop-hold-preserved c =
    let circuit = c.args.circuit.now in
    let words = c.args.words in
    let there = item_at circuit.holds c.as_slice-hold-items.result.now c.loop-hold.hold-index c.hold-item.result c.as_slice-hold-items.ensures c.loop-hold-test.true c.hold-item.is in
    record {
      writes = clear_next circuit words c.args.store.now c.loop-hold.store c.write.new.self c.loop-hold.hold-index c.hold-item.result there c.requires.own c.requires.span c.sound.ensures.sound
          c.loop-hold.invariant.writes c.write.ensures;
      nodes = ap (λ (d : Diagrams). d.nodes) c.write.ensures ∙ c.loop-hold.invariant.nodes;
      zero = zero_next circuit words c.args.store.now c.loop-hold.store c.write.new.self c.loop-hold.hold-index c.hold-item.result there c.requires.own c.requires.span c.loop-hold.invariant.writes
          c.loop-hold.invariant.nodes c.write.ensures c.loop-hold.invariant.zero;
    }

pub returns-clause-zero : goal.returns-clause-zero
returns-clause-zero c =
    zero_roots c.args.circuit.now c.args.words c.args.store.now c.loop-hold.store c.sound.ensures.sound c.loop-hold.invariant.writes
    (λ p h e.
    c.loop-hold.invariant.zero p h e
    (let low = slice_get_within c.args.circuit.now.holds p h e in
    let past = c.loop-hold-test.false in
    let len = ap length c.as_slice-hold-items.ensures in
    omega (arith, low, past, len)))
