use Rattle.std.proofs.Common.{refl}
use Rattle.node_pool.specs.Region.{chain_of, mixed, sum_of}
use Rattle.node_pool.proofs.chains.chain_at.Goals as goal

pub returns-clause-place : goal.returns-clause-place
unfolding chain_of mixed sum_of
returns-clause-place c = refl
