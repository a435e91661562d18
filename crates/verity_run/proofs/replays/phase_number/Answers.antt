use Rattle.verity_run.proofs.ReplayLaws.{no_phase}
use Rattle.verity_run.proofs.replays.phase_number.Goals as goal

pub returns-clause-err : goal.returns-clause-err
returns-clause-err c =
    no_phase c.args.rules.now c.args.word.now c.as_bytes.result.now c.in_ok-name.name c.as_bytes-2.result.now c.as_bytes-in-None.result.now c.as_slice.result.now c.place_of.result c.no_name.result c.told.result
    c.as_bytes.ensures.value c.in_ok-name.ensures c.as_bytes-2.ensures c.as_bytes-in-None.ensures c.as_slice.ensures c.in-None.is c.place_of.ensures c.no_name.ensures c.told.ensures
