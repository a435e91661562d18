use Rattle.paired_ports.proofs.PairableLaws.{inputs_are_given}
use Rattle.paired_ports.proofs.pairable.inputs_are_given.Goals as goal

pub returns : goal.returns
returns c = inputs_are_given
