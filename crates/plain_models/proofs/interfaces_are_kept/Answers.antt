use Rattle.plain_models.proofs.InterfaceLaws.{interfaces_are_kept}
use Rattle.plain_models.proofs.interfaces_are_kept.Goals as goal

pub returns : goal.returns
returns c = interfaces_are_kept
