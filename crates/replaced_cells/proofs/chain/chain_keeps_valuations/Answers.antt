use Rattle.replaced_cells.proofs.ChainLaws.{chain_keeps_valuations}
use Rattle.replaced_cells.proofs.chain.chain_keeps_valuations.Goals as goal

pub returns : goal.returns
returns c = chain_keeps_valuations
