use Rattle.paired_ports.proofs.PairableLaws.{ports_have_roles}
use Rattle.paired_ports.proofs.pairable.ports_have_roles.Goals as goal

pub returns : goal.returns
returns c = ports_have_roles
