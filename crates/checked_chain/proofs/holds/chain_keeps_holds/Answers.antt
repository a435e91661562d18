use Rattle.checked_chain.proofs.SettingLaws.{chain_keeps_holds}
use Rattle.checked_chain.proofs.holds.chain_keeps_holds.Goals as goal

pub returns : goal.returns
returns c = chain_keeps_holds
