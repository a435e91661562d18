use Rattle.whole_solutions.proofs.RankedBits.{ranked_solutions_have_bits}
use Rattle.whole_solutions.proofs.ranked.ranked_solutions_have_bits.Goals as goal

pub returns : goal.returns
returns c = ranked_solutions_have_bits
