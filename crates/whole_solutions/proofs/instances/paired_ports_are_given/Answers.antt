use Rattle.whole_solutions.proofs.PairedPortLaws.{paired_ports_are_given}
use Rattle.whole_solutions.proofs.instances.paired_ports_are_given.Goals as goal

pub returns : goal.returns
returns c = paired_ports_are_given
