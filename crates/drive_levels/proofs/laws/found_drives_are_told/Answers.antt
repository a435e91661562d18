use Rattle.drive_levels.proofs.PortLaws.{drives_told}
use Rattle.drive_levels.proofs.laws.found_drives_are_told.Goals as goal

pub returns : goal.returns
returns c = drives_told
