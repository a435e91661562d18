use Rattle.phase_wishes.proofs.OutputLaws.{output_wishes}
use Rattle.phase_wishes.proofs.WishLaws.{all_wishes}
use Rattle.phase_wishes.proofs.laws.all_wishes.Goals as goal

pub returns-clause-outputs : goal.returns-clause-outputs
returns-clause-outputs c = output_wishes

pub returns-clause-all : goal.returns-clause-all
returns-clause-all c = all_wishes
