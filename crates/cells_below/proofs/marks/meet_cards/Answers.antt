use Rattle.std.proofs.Common.{arith, ap, ◌∙◌}
use Rattle.cells_below.proofs.SearchLaws.{met_turn}
use Rattle.cells_below.specs.Met.{number_in}
use Rattle.cells_below.proofs.marks.meet_cards.Goals as goal

pub loop-card-preserved : goal.loop-card-preserved
loop-card-preserved c =
    met_turn c.args.index.now c.args.marks.now.items c.loop-card.marks.items c.meet.new.marks.items c.args.met.now c.loop-card.met c.meet.new.met c.args.cards.now c.loop-card.card-index
    c.number_of.result c.card-item.result (omega arith) c.card-item.is c.loop-card.invariant (c.number_of.ensures ∙ ap (number_in c.args.index.now) c.as_bytes.ensures) c.in_ok-meet.ensures
