use Rattle.same_phases.proofs.SettingLaws.{stateless_settings_are_alike}
use Rattle.same_phases.proofs.stateless_settings_are_alike.Goals as goal

pub returns : goal.returns
returns c = stateless_settings_are_alike
