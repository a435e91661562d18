use Rattle.whole_ranks.proofs.IdleLaws.{idle_inputs_change_nothing}
use Rattle.whole_ranks.proofs.idle.idle_inputs_change_nothing.Goals as goal

pub returns : goal.returns
returns c = idle_inputs_change_nothing
