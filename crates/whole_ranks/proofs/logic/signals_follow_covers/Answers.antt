use Rattle.whole_ranks.proofs.CoverLaws.{signals_follow_covers}
use Rattle.whole_ranks.proofs.logic.signals_follow_covers.Goals as goal

pub returns : goal.returns
returns c = signals_follow_covers
