use Rattle.checked_chain.proofs.DriveLaws.{drives_stay}
use Rattle.checked_chain.proofs.drives.drives_stay.Goals as goal

pub returns : goal.returns
returns c = drives_stay
