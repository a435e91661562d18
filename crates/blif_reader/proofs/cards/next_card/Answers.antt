use Rattle.std.proofs.Common.{◌++◌, [], Some, None, arith, ap, sym, ◌∙◌}
use Rattle.std.specs.Prelude.{option_to_list}
use Rattle.blif_reader.specs.Opened.{cards_behind}
use Rattle.blif_reader.proofs.CardLaws.{ends_on, turn_on}
use Rattle.blif_reader.proofs.cards.next_card.Goals as goal

pub returns-in-Some-card-clause-card : goal.returns-in-Some-card-clause-card
returns-in-Some-card-clause-card c =
    sym (turn_on _ _ _ _ _ _ (Some c.in-Some-card.card) _ c.in-Some.ensures.line.1 c.lines.invariant.0
    (λ rest. ap (λ o. option_to_list o ++ cards_behind c.take_line.new.opened rest) (sym c.in-Some-card.is) ∙ c.in_ok-card.ensures rest))

pub lines-preserved : goal.lines-preserved
lines-preserved c = (
  turn_on _ _ _ _ _ _ None _ c.in-Some.ensures.line.1 c.lines.invariant.0
      (λ rest. ap (λ o. option_to_list o ++ cards_behind c.take_line.new.opened rest) (sym c.in-None.is) ∙ c.in_ok-card.ensures rest),
  omega (arith, c.in-Some.ensures.line.0, c.lines.invariant.1),
)

pub returns-clause-card : goal.returns-clause-card
returns-clause-card c =
    ends_on _ _ c.lines.reading.opened _ c.in_ok-card-2.card _ c.in_default.ensures.none c.lines.invariant.0 (c.in_ok-card-2.ensures ∙ ap (λ o. cards_behind o []) c.take-opened.ensures.value) c.take-opened.ensures.after
