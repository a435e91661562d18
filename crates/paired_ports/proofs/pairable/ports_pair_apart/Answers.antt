use Rattle.paired_ports.proofs.PairableLaws.{ports_pair_apart}
use Rattle.paired_ports.proofs.pairable.ports_pair_apart.Goals as goal

pub returns : goal.returns
returns c = ports_pair_apart
