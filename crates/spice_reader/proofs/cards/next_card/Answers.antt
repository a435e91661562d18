use Rattle.std.proofs.Common.{ap, sym, ◌∙◌, ◌∷◌}
use Rattle.text_lines.proofs.ReadLaws.{none_first, some_first}
use Rattle.spice_reader.proofs.CardLaws.{first_through, none_through}
use Rattle.spice_reader.proofs.cards.next_card.Goals as goal

pub returns-in-None-clause-card : goal.returns-in-None-clause-card
returns-in-None-clause-card c = none_through _ _ _ (none_first _ _ _ c.in-None.is c.in_ok-next.ensures.card)

pub returns-in-Some-clause-card : goal.returns-in-Some-clause-card
returns-in-Some-clause-card c =
    first_through _ _ _ _ _ _ _ (some_first _ _ _ _ c.in-Some.is c.in_ok-next.ensures.card) ∙ ap (λ cards. c.in-Some.card ∷ cards) (sym c.stop_behind.ensures.left)
