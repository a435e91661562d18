use Rattle.std.proofs.Common.{ap, sym, ◌∙◌, tests, rules}
use Rattle.text_lines.specs.Words.{but_last}
use Rattle.blif_reader.specs.Cards.{ends_with_backslash}
use Rattle.blif_reader.proofs.CardLaws.{backslash_end}
use Rattle.text_lines.proofs.WordLaws.{but_last_end}
use Rattle.blif_reader.proofs.cards.before_backslash.Goals as goal

pub returns-then-last-eq92-clause-joins : goal.returns-then-last-eq92-clause-joins
returns-then-last-eq92-clause-joins c =
    let e = ap ends_with_backslash c.in-Some.ensures.cases.0 ∙ backslash_end c.in-Some.front.now c.in-Some.last.now in
    (e ∙ search (tests, rules), sym (ap but_last c.in-Some.ensures.cases.0 ∙ but_last_end c.in-Some.front.now _))

pub returns-else-last-eq92-clause-ends : goal.returns-else-last-eq92-clause-ends
returns-else-last-eq92-clause-ends c =
    let e = ap ends_with_backslash c.in-Some.ensures.cases.0 ∙ backslash_end c.in-Some.front.now c.in-Some.last.now in e ∙ search (tests, rules)
