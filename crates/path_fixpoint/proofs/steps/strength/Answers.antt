use Rattle.bdd_core.proofs.Meaning.{meaning_one}
use Rattle.bdd_ops.proofs.WithinLaws.{within_one}
use Rattle.path_fixpoint.proofs.steps.strength.Goals as goal

pub returns-in-None-clause-is : goal.returns-in-None-clause-is
returns-in-None-clause-is c v = rw c.in-None.is (meaning_one c.args.store.now.nodes v)

pub returns-in-None-clause-few : goal.returns-in-None-clause-few
returns-in-None-clause-few c u all = within_one u c.args.store.now
