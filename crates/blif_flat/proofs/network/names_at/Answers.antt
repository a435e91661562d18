use Rattle.std.proofs.Common.{sym}
use Rattle.blif_flat.proofs.NetworkMade.{none_named}
use Rattle.blif_flat.proofs.network.names_at.Goals as goal

pub returns-in-None : goal.returns-in-None
returns-in-None c = none_named c.args.blif.now c.args.model c.new.result (sym c.in-None.ensures) c.new.ensures
