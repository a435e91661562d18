use Rattle.std.proofs.Common.{sym, ◌∙◌}
use Rattle.nesting.proofs.DepthLaws.{shallow_all, some_deep}
use Rattle.nesting.proofs.depths.are_shallow.Goals as goal

pub returns-clause-yes : goal.returns-clause-yes
returns-clause-yes c = λ e. shallow_all c.args.inner.now c.args.limit _ _ c.in_ok-depths.ensures c.as_slice.ensures (sym c.are_within.ensures ∙ e)

pub returns-clause-no : goal.returns-clause-no
returns-clause-no c = λ e. some_deep c.args.inner.now c.args.limit _ _ c.in_ok-depths.ensures c.as_slice.ensures (sym c.are_within.ensures ∙ e)
