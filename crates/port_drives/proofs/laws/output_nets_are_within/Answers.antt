use Rattle.port_drives.proofs.NetLaws.{nets_within}
use Rattle.port_drives.proofs.laws.output_nets_are_within.Goals as goal

pub returns : goal.returns
returns c = nets_within
