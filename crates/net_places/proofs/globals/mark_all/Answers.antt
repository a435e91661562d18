use Rattle.net_places.specs.Globals.{all_nets}
use Rattle.net_places.proofs.globals.mark_all.Goals as goal

pub returns : goal.returns
unfolding all_nets
returns c = c.mark_below.ensures
