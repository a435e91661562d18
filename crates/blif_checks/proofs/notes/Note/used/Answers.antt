use Rattle.std.proofs.Common.{refl}
use Rattle.blif_checks.proofs.NoteLaws.{used_more}
use Rattle.blif_checks.proofs.notes.Note.used.Goals as goal

pub returns : goal.returns
returns c = λ driven used is. used_more c.args.self _ c.args.line driven used refl refl c.least.ensures is
