use Rattle.whole_solutions.proofs.InstanceLaws.{instance_gives_valuation}
use Rattle.whole_solutions.proofs.instances.instance_gives_valuation.Goals as goal

pub returns : goal.returns
returns c = instance_gives_valuation
