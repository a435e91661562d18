use Rattle.std.proofs.Common.{sym, ◌∙◌}
use Rattle.latch_match.proofs.MarkLaws.{counted_again, counted_once}
use Rattle.latch_match.proofs.counts.count.Goals as goal

pub returns-then-contains : goal.returns-then-contains
returns-then-contains c = λ numbers t. counted_again numbers c.args.number c.args.counts.now c.add.new.self (sym c.contains.ensures ∙ c.if-contains.true) c.in_ok-add.ensures t

pub returns : goal.returns
returns c = λ numbers t. counted_once numbers c.args.number c.args.counts.now c.add-2.new.self (sym c.contains.ensures ∙ c.if-contains.false) c.in_ok-add-2.ensures t
