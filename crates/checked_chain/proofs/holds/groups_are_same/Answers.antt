use Rattle.checked_chain.proofs.GroupLaws.{groups_are_same}
use Rattle.checked_chain.proofs.holds.groups_are_same.Goals as goal

pub returns : goal.returns
returns c = groups_are_same
