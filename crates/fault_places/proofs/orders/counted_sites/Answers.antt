use Rattle.fault_places.proofs.CountedSites.{counted_sites}
use Rattle.fault_places.proofs.orders.counted_sites.Goals as goal

pub returns : goal.returns
returns c = counted_sites
