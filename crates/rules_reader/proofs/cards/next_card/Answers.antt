use Rattle.std.proofs.Common.{◌+◌, ◌∷◌, arith, ap, sym, ◌∙◌}
use Rattle.rules_reader.specs.Entries.{cards_left}
use Rattle.rules_reader.proofs.CardLaws.{card_on, ends_on, passed_on}
use Rattle.rules_reader.proofs.cards.next_card.Goals as goal

pub returns-then-not-is_passed-clause-card : goal.returns-then-not-is_passed-clause-card
returns-then-not-is_passed-clause-card c =
    sym c.lines.invariant.0 ∙ card_on _ _ _ _ c.in-Some.ensures.line.1 (sym c.is_passed.ensures ∙ c.if-not-is_passed.true)
    ∙ ap (λ card. card ∷ cards_left (c.lines.reading.number + 1) c.in-Some.behind.now) (sym c.in_ok-card.ensures)

pub lines-preserved : goal.lines-preserved
lines-preserved c = (
  sym (passed_on _ _ _ _ c.in-Some.ensures.line.1 (sym c.is_passed.ensures ∙ c.if-not-is_passed.false)) ∙ c.lines.invariant.0,
  omega (arith, c.in-Some.ensures.line.0, c.lines.invariant.1),
)

pub returns-clause-card : goal.returns-clause-card
returns-clause-card c = sym c.lines.invariant.0 ∙ ends_on _ _ c.in_default.ensures.none
