use Rattle.checked_chain.proofs.SettingLaws.{settings_are_same}
use Rattle.checked_chain.proofs.holds.settings_are_same.Goals as goal

pub returns : goal.returns
returns c = settings_are_same
