use Rattle.std.proofs.Common.{arith, refl}
use Rattle.std.proofs.lemmas.Option.{slice_get_read}
use Rattle.blif_checks.proofs.NoteLaws.{notes_driver, notes_driver_none}
use Rattle.blif_checks.proofs.notes.note_driver.Goals as goal

pub returns-then-mention-len-clause-notes : goal.returns-then-mention-len-clause-notes
returns-then-mention-len-clause-notes c =
    λ drivers uses are.
    notes_driver c.args.notes.now.items c.args.mention c.index.result.now c.driven.result drivers uses
    (slice_get_read c.args.notes.now.items _ c.args.mention.signal _ refl (omega arith) c.index.ensures) c.driven.ensures are

pub returns-else-mention-len-clause-notes : goal.returns-else-mention-len-clause-notes
returns-else-mention-len-clause-notes c = λ drivers uses are. notes_driver_none c.args.notes.now.items c.args.mention drivers uses (omega arith) are
