use Rattle.whole_solutions.proofs.ObservedLaws.{whole_observes_no_more}
use Rattle.whole_solutions.proofs.observed.whole_observes_no_more.Goals as goal

pub returns : goal.returns
returns c = whole_observes_no_more
