use Rattle.substitute.proofs.ChosenLaws.{marked_is_with_one}
use Rattle.substitute.proofs.laws.marked_is_with_one.Goals as goal

pub returns : goal.returns
returns c = marked_is_with_one
