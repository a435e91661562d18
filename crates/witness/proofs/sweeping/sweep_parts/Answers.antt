use Rattle.std.proofs.Common.{◌<◌, length, refl}
use Rattle.std.specs.Prelude.{All}
use Rattle.channel_parts.specs.declared.part.Part.{Part}
use Rattle.vrt_model.proofs.Lists.{item_at}
use Rattle.vrt_model.proofs.Members.{all_among}
use Rattle.vrt_model.specs.declared.ids.Net.{Net}
use Rattle.witness.proofs.sweeping.sweep_parts.Goals as goal

pub sweep_part-requires-clause-nets : goal.sweep_part-requires-clause-nets
sweep_part-requires-clause-nets c =
    let parts = c.args.parts.now in
    let part = c.part-item.result in
    let at = c.loop-part.part-index in
    all_among (λ (p : Part). All (λ (net : Net). net.0 < length c.args.circuit.now.nets) p.nets) parts part c.requires.nets (at, item_at parts parts at part refl c.loop-part-test.true c.part-item.is)

pub loop-part-preserved : goal.loop-part-preserved
loop-part-preserved c =
    let parts = c.args.parts.now in
    let part = c.part-item.result in
    let at = c.loop-part.part-index in
    let there = item_at parts parts at part refl c.loop-part-test.true c.part-item.is in
    record {
      len = c.in_ok-sweep_part.ensures.len;
      places = c.in_ok-sweep_part.ensures.places;
      swept = λ phase setting rank given each reads roots before.
          c.in_ok-sweep_part.ensures.swept phase setting rank given (each part (at, there)) reads roots (c.loop-part.invariant.swept phase setting rank given each reads roots before);
    }
