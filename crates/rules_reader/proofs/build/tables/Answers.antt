use Rattle.std.proofs.Common.{arith, refl}
use Rattle.std.proofs.lemmas.Option.{slice_get_read}
use Rattle.rules_reader.proofs.BuildLaws.{at_end, turn}
use Rattle.rules_reader.proofs.build.tables.Goals as goal

pub loop-card-preserved : goal.loop-card-preserved
loop-card-preserved c =
    turn c.args.known.now.clocks c.args.known.now.phases c.args.known.now.clocks c.args.known.now.scale c.loop-card.card-index c.args.cards.now _ _ _ (omega arith)
    (slice_get_read c.args.cards.now _ c.loop-card.card-index _ refl (omega arith) c.card-item.is) c.loop-card.invariant c.in_ok-add_card.ensures

pub returns : goal.returns
returns c = at_end c.args.known.now.clocks c.args.known.now.phases c.args.known.now.clocks c.args.known.now.scale c.loop-card.card-index c.args.cards.now _ (omega arith) c.loop-card.invariant
