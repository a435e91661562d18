use Rattle.checked_chain.proofs.EndLaws.{places_alone_count}
use Rattle.checked_chain.proofs.steps.places_alone_count.Goals as goal

pub returns : goal.returns
returns c = places_alone_count
