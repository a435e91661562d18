use Rattle.checked_chain.proofs.SettingLaws.{constraints_are_same}
use Rattle.checked_chain.proofs.holds.constraints_are_same.Goals as goal

pub returns : goal.returns
returns c = constraints_are_same
