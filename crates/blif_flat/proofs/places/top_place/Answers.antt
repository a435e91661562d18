use Rattle.blif_flat.proofs.PlaceLaws.{own_is}
use Rattle.blif_flat.proofs.places.top_place.Goals as goal

pub returns-clause-place : goal.returns-clause-place
returns-clause-place c = own_is c.args.blif.now c.args.signals.now c.args.model c.new-tied.result c.in_ok-inner.inner c.requires.lists c.in_ok-inner.ensures
