use Rattle.same_phases.proofs.PhaseLaws.{unclocked_phases_are_alike}
use Rattle.same_phases.proofs.unclocked_phases_are_alike.Goals as goal

pub returns : goal.returns
returns c = unclocked_phases_are_alike
