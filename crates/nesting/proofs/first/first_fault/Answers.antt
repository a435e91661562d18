use Rattle.std.proofs.Common.{sym, ◌∙◌}
use Rattle.nesting.proofs.DepthLaws.{shallow_all}
use Rattle.nesting.proofs.first.first_fault.Goals as goal

pub returns-then-are_within : goal.returns-then-are_within
returns-then-are_within c = shallow_all c.args.inner.now c.args.limit _ _ c.in_ok-depths.ensures c.as_slice.ensures (sym c.are_within.ensures ∙ c.if-are_within.true)
