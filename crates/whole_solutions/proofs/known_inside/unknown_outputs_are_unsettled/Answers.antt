use Rattle.whole_solutions.proofs.KnownInsideLaws.{unknown_outputs_are_unsettled}
use Rattle.whole_solutions.proofs.known_inside.unknown_outputs_are_unsettled.Goals as goal

pub returns : goal.returns
returns c = unknown_outputs_are_unsettled
