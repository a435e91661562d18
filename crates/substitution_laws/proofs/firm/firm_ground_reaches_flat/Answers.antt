use Rattle.substitution_laws.proofs.FirmDownLaws.{firm_ground_reaches_flat}
use Rattle.substitution_laws.proofs.firm.firm_ground_reaches_flat.Goals as goal

pub returns : goal.returns
returns c = firm_ground_reaches_flat
