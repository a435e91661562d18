use Rattle.std.proofs.Common.{◌≢◌}
use Rattle.vrt_model.specs.declared.circuit.Device.{Device}
use Rattle.path_fixpoint.specs.declared.direction.Direction.TheVariants.{Forward}
use Rattle.path_fixpoint.proofs.Spreading.{Visited}
use Rattle.path_fixpoint.proofs.levels.no_device_has.Given as goal

abbrev pub invariant-loop-step : goal.invariant-loop-step
invariant-loop-step l = (d : Device) → Visited l.circuit l.part Forward l.step d → d.level ≢ l.fn.level
