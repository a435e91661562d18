use Rattle.same_phases.proofs.SettingLaws.{equal_phases_are_alike}
use Rattle.same_phases.proofs.equal_phases_are_alike.Goals as goal

pub returns : goal.returns
returns c = equal_phases_are_alike
