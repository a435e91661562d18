use Rattle.whole_ranks.proofs.SolvedLaws.{acyclic_nets_have_one_solution}
use Rattle.whole_ranks.proofs.solved.acyclic_nets_have_one_solution.Goals as goal

pub returns : goal.returns
returns c = acyclic_nets_have_one_solution
