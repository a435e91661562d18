use Rattle.flatten.specs.Walks.{card_without_kind}
use Rattle.flatten.proofs.kinds.unrolled_without_kind.Goals as goal

pub returns : goal.returns
unfolding card_without_kind
returns c = c.first_without.ensures
