use Rattle.checked_chain.proofs.SettingLaws.{variables_are_same}
use Rattle.checked_chain.proofs.holds.variables_are_same.Goals as goal

pub returns : goal.returns
returns c = variables_are_same
