use Rattle.std.proofs.Common.{vec_len}
use Rattle.graphs.proofs.groups.close.Given as goal

abbrev pub decreases-open : goal.decreases-open
decreases-open l = vec_len l.walk.open
