use Rattle.port_drives.proofs.WholeDriveLaws.{drives_found}
use Rattle.port_drives.proofs.laws.whole_drives_are_found.Goals as goal

pub returns : goal.returns
returns c = drives_found
