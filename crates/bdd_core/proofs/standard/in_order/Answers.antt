use Rattle.bdd_core.specs.Diagram.{meaning}
use Rattle.bdd_core.proofs.Meaning.{meaning_zero, meaning_one}
use Rattle.bdd_core.proofs.Choice.{and_turned, or_turned}
use Rattle.bdd_core.proofs.standard.in_order.Goals as goal

pub returns-then-g-f-clause-same : goal.returns-then-g-f-clause-same
returns-then-g-f-clause-same c nodes v = rw (c.if-h-eq0.true, meaning_zero nodes v) (and_turned (meaning nodes c.args.f.0 v) (meaning nodes c.args.g.0 v))

pub returns-then-h-f-clause-same : goal.returns-then-h-f-clause-same
returns-then-h-f-clause-same c nodes v = rw (c.if-g-eq1.true, meaning_one nodes v) (or_turned (meaning nodes c.args.f.0 v) (meaning nodes c.args.h.0 v))
