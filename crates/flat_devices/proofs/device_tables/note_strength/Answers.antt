use Rattle.flat_devices.proofs.StrengthNotes.{level_kept, level_noted}
use Rattle.rule_index.specs.Firsts.{value_in}
use Rattle.flat_devices.proofs.device_tables.note_strength.Goals as goal

pub returns-in_ok-note-in-Some-clause-first : goal.returns-in_ok-note-in-Some-clause-first
returns-in_ok-note-in-Some-clause-first c other =
    level_noted c.args.rules.now c.args.place c.in-Some.rule.now c.as_bytes.result.now other (value_in c.args.table.now other) (value_in c.note.new.self other) c.in-Some.ensures c.as_bytes.ensures
    (c.in_ok-note-in-Some.ensures.first other)

pub returns-in-None-clause-first : goal.returns-in-None-clause-first
returns-in-None-clause-first c other = level_kept c.args.rules.now c.args.place other (value_in c.args.table.now other) c.in-None.ensures
