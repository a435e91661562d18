use Rattle.std.proofs.Common.{List, subst, ◌∙◌}
use Rattle.rules_reader.specs.Tables.{AreRulesOf}
use Rattle.rules_reader.specs.declared.cards.Card.{Card}
use Rattle.rules_reader.proofs.CheckLaws.{starts}
use Rattle.rules_reader.proofs.Fits.{fits}
use Rattle.rules_reader.proofs.reader.read_rules.Goals as goal

pub read_cards-requires-clause-known : goal.read_cards-requires-clause-known
read_cards-requires-clause-known c = starts _ _ _ c.new.ensures c.new-2.ensures c.new-3.ensures

pub returns-in-Ok-clause-fit : goal.returns-in-Ok-clause-fit
returns-in-Ok-clause-fit c =
    let P : List Card → Type 0 = λ cards. AreRulesOf cards c.in-Ok.rules in
    fits c.args.text.now c.in-Ok.rules c.in_ok-read_cards.ensures.ok (subst P (c.as_slice.ensures ∙ c.in_ok-read_cards.ensures.cards) c.in-Ok.ensures)
