use Rattle.name_tables.proofs.FirstNotes.{new_noted, old_noted}
use Rattle.name_tables.proofs.firsts.FirstValues.note.Goals as goal

pub returns-in_ok-add-clause-first : goal.returns-in_ok-add-clause-first
returns-in_ok-add-clause-first g c other =
    new_noted c.args.self.now.names _ c.args.self.now.values _ c.args.name.now other c.args.value c.requires c.in_ok-add.ensures.names c.in_ok-add.ensures.values
    c.if-not-has.ensures

pub returns-else-not-has-clause-first : goal.returns-else-not-has-clause-first
returns-else-not-has-clause-first g c other =
    old_noted c.args.self.now.names c.args.self.now.values c.args.name.now other c.args.value c.requires c.if-not-has.ensures
