use Rattle.plain_models.proofs.PairingLaws.{pairings_are_kept}
use Rattle.plain_models.proofs.pairings_are_kept.Goals as goal

pub returns : goal.returns
returns c = pairings_are_kept
