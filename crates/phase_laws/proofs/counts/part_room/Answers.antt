use Rattle.phase_laws.proofs.Work.{bare_room, kept_room}
use Rattle.phase_laws.proofs.counts.part_room.Goals as goal

pub returns-clause-bare : goal.returns-clause-bare
returns-clause-bare c = bare_room

pub returns-clause-kept : goal.returns-clause-kept
returns-clause-kept c = kept_room
