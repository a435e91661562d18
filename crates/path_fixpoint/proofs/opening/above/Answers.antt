use Rattle.bdd_ops.proofs.WithinLaws.{within_zero}
use Rattle.path_fixpoint.proofs.opening.above.Goals as goal

pub returns-clause-few : goal.returns-clause-few
returns-clause-few c u all = within_zero u c.args.store.now
