use Rattle.lone_outputs.proofs.LoneLaws.{lone_kept}
use Rattle.lone_outputs.proofs.laws.lone_nets_are_kept.Goals as goal

pub returns : goal.returns
returns c = lone_kept
