use Rattle.phase_laws.proofs.Planned.{planned_order}
use Rattle.phase_laws.proofs.places.planned_order.Goals as goal

pub returns : goal.returns
returns c = planned_order
