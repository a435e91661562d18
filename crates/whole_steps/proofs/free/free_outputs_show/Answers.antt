use Rattle.whole_steps.proofs.FreeOutputLaws.{free_outputs_show}
use Rattle.whole_steps.proofs.free.free_outputs_show.Goals as goal

pub returns : goal.returns
returns c = free_outputs_show
