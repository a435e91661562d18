use Rattle.blif_checks.proofs.DriverLaws.{clocks_given}
use Rattle.blif_checks.proofs.judge.check_drivers.Goals as goal

pub judge_models-requires-clause-clocks : goal.judge_models-requires-clause-clocks
judge_models-requires-clause-clocks c =
    clocks_given c.args.blif.now c.in-Ok.clocks c.as_slice-2.result.now c.as_slice.result.now c.requires.blif c.as_slice-2.ensures c.in-Ok.ensures c.as_slice.ensures
