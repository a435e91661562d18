use Rattle.port_drives.proofs.DriveLaws.{port_drives_told}
use Rattle.port_drives.proofs.laws.port_drives_are_told.Goals as goal

pub returns : goal.returns
returns c = port_drives_told
