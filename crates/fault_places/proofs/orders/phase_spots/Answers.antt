use Rattle.fault_places.proofs.PhaseOrder.{phase_spots}
use Rattle.fault_places.proofs.orders.phase_spots.Goals as goal

pub returns : goal.returns
returns c = phase_spots
