use Rattle.whole_ranks.proofs.LogicLaws.{logic_has_assignments}
use Rattle.whole_ranks.proofs.logic.logic_has_assignments.Goals as goal

pub returns : goal.returns
returns c = logic_has_assignments
