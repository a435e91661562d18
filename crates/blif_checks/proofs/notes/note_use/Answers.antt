use Rattle.std.proofs.Common.{arith, refl}
use Rattle.std.proofs.lemmas.Option.{slice_get_read}
use Rattle.blif_checks.proofs.NoteLaws.{notes_use, notes_use_none}
use Rattle.blif_checks.proofs.notes.note_use.Goals as goal

pub returns-then-mention-len-clause-notes : goal.returns-then-mention-len-clause-notes
returns-then-mention-len-clause-notes c =
    λ drivers uses are.
    notes_use c.args.notes.now.items c.args.mention c.index.result.now c.used.result drivers uses
    (slice_get_read c.args.notes.now.items _ c.args.mention.signal _ refl (omega arith) c.index.ensures) c.used.ensures are

pub returns-else-mention-len-clause-notes : goal.returns-else-mention-len-clause-notes
returns-else-mention-len-clause-notes c = λ drivers uses are. notes_use_none c.args.notes.now.items c.args.mention drivers uses (omega arith) are
