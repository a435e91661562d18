use Rattle.std.proofs.Common.{◌+◌, ◌*◌}
use Rattle.bdd_core.proofs.store.Store.+choose.Given as goal

abbrev pub decreases-choose : goal.decreases-choose
decreases-choose l = 2 * (l.f.0 + l.g.0 + l.h.0) + 1

abbrev pub decreases-part : goal.decreases-part
decreases-part l = 2 * (l.f.0 + l.g.0 + l.h.0)
