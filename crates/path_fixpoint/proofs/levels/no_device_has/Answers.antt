use Rattle.std.proofs.Common.{◌≡◌, arith, ap, inl, inr}
use Rattle.vrt_model.specs.declared.circuit.Device.{Device}
use Rattle.path_fixpoint.specs.declared.direction.Direction.TheVariants.{Forward}
use Rattle.path_fixpoint.proofs.Spreading.{all_visited, visited_more}
use Rattle.path_fixpoint.proofs.levels.no_device_has.Goals as goal

pub loop-step-preserved : goal.loop-step-preserved
loop-step-preserved c d is same =
    elim (visited_more c.args.circuit.now c.args.part.now Forward c.loop-step.step c.visited-device.result.now c.visited-device.ensures d is) [
      | inl before ↦ c.loop-step.invariant d before same
      | inr here ↦ (let level : d.level ≡ c.visited-device.result.now.level = ap (λ (x : Device). x.level) here in omega (arith, level, same, c.if-device-level.false))
    ]

pub returns : goal.returns
returns c e d among =
    c.loop-step.invariant d (all_visited c.args.circuit.now c.args.part.now Forward c.loop-step.step (omega (arith, c.len-step-end.ensures, c.loop-step-test.false)) d among)
