use Rattle.phase_ports.proofs.RangeLaws.{ports_below}
use Rattle.phase_ports.proofs.laws.ports_within.Goals as goal

pub returns : goal.returns
returns c = ports_below
