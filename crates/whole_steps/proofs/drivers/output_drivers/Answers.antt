use Rattle.std.proofs.Common.{◌≡◌, List, ap, arith, length, subst}
use Rattle.vrt_model.specs.State.{OutputPin}
use Rattle.vrt_model.specs.declared.whole.Whole.{Whole}
use Rattle.whole_steps.proofs.DriverLaws.{all_outputs}
use Rattle.whole_steps.specs.Tables.{AreDrivers}
use Rattle.whole_steps.proofs.drivers.output_drivers.Goals as goal

pub returns : goal.returns
returns c =
    let ended = c.loop-number-test.false in
    let size : length c.as_slice-wholes.result.now ≡ length c.args.circuit.now.wholes = ap (λ (ws : List Whole). length ws) c.as_slice-wholes.ensures in
    subst (λ (os : List OutputPin). AreDrivers c.args.circuit.now os c.loop-number.drivers.items) (all_outputs c.args.circuit.now c.loop-number.number (omega (arith, ended, size)))
    c.loop-number.invariant.are
