use Rattle.lone_outputs.proofs.LoneLaws.{ports_alone}
use Rattle.lone_outputs.proofs.laws.lone_ports_are_alone.Goals as goal

pub returns : goal.returns
returns c = ports_alone
