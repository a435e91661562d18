use Rattle.substitute.proofs.SoundLaws.{open_are_allowed}
use Rattle.substitute.proofs.laws.open_are_allowed.Goals as goal

pub returns : goal.returns
returns c = open_are_allowed
