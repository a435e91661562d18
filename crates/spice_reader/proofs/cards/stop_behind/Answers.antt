use Rattle.std.proofs.Common.{[], ap, sym, ◌∙◌, cond}
use Rattle.spice_reader.specs.Opened.{cards_left}
use Rattle.spice_reader.proofs.CardLaws.{shut_left}
use Rattle.spice_reader.proofs.cards.stop_behind.Goals as goal

pub returns-then-is_end_card-clause-left : goal.returns-then-is_end_card-clause-left
returns-then-is_end_card-clause-left c =
    shut_left c.args.reading.now.number
    ∙ ap (λ b. cond b [] (cards_left c.args.reading.now.number c.args.reading.now.bytes.now c.args.reading.now.opened)) (sym (sym c.is_end_card.ensures ∙ c.if-is_end_card.true))
