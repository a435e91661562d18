use Rattle.drive_levels.proofs.PortLaws.{levels_joined}
use Rattle.drive_levels.proofs.laws.levels_are_joined.Goals as goal

pub returns : goal.returns
returns c = levels_joined
