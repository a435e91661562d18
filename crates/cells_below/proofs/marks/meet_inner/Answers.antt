use Rattle.cells_below.proofs.SearchLaws.{inner_met}
use Rattle.cells_below.proofs.marks.meet_inner.Goals as goal

pub returns : goal.returns
returns c =
    inner_met c.args.design.now c.args.index.now c.cards_of.result.now c.args.number c.args.marks.now.items c.meet_cards.new.marks.items c.args.met.now c.meet_cards.new.met c.requires
    c.cards_of.ensures c.in_ok-meet_cards.ensures
