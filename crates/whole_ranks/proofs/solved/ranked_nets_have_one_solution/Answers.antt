use Rattle.whole_ranks.proofs.SolvedLaws.{ranked_nets_have_one_solution}
use Rattle.whole_ranks.proofs.solved.ranked_nets_have_one_solution.Goals as goal

pub returns : goal.returns
returns c = ranked_nets_have_one_solution
