use Rattle.std.proofs.Common.{ap, refl}
use Rattle.command_line.specs.Requests.{file_names}
use Rattle.verity_run.specs.Given.{generated}
use Rattle.verity_run.proofs.Written.{given_says, given_told, size_given}
use Rattle.verity_run.proofs.ready.ready_for.Goals as goal

pub of_files-requires : goal.of_files-requires
of_files-requires g c = ap file_names c.in-Check.is

pub of_files-requires-in-Replay : goal.of_files-requires-in-Replay
of_files-requires-in-Replay g c = ap file_names c.in-Replay.is

pub of_files-requires-in-Classes : goal.of_files-requires-in-Classes
of_files-requires-in-Classes g c = ap file_names c.in-Classes.is

pub of_files-requires-in-Arrive : goal.of_files-requires-in-Arrive
of_files-requires-in-Arrive g c = ap file_names c.in-Arrive.is

pub of_files-requires-in-Blif : goal.of_files-requires-in-Blif
of_files-requires-in-Blif g c = ap file_names c.in-Blif.is

pub returns-in-Generate-clause-says : goal.returns-in-Generate-clause-says
returns-in-Generate-clause-says g c =
    let made = generated c.in-Generate.size in
    given_says c.args.request.now _ made.words made.bytes made.bytes refl (size_given c.args.request.now c.in-Generate.size _ _ c.in-Generate.is) c.of_size.result c.of_size.ensures.says

pub returns-in-Generate-clause-err : goal.returns-in-Generate-clause-err
returns-in-Generate-clause-err g c =
    let made = generated c.in-Generate.size in
    given_told c.args.request.now _ made.words made.bytes made.bytes refl (size_given c.args.request.now c.in-Generate.size _ _ c.in-Generate.is) c.of_size.result _ _ c.of_size.ensures.err
