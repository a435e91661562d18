use Rattle.std.proofs.Common.{arith}
use Rattle.nesting.proofs.DepthLaws.{not_itself}
use Rattle.nesting.proofs.first.may_recur.Goals as goal

pub returns-then-depth_at-levels-clause-no : goal.returns-then-depth_at-levels-clause-no
returns-then-depth_at-levels-clause-no c = λ e. not_itself c.args.inner.now c.args.levels c.args.depths.now c.args.number c.requires.depths c.requires.there (omega arith)
