use Rattle.std.proofs.Common.{◌||◌, ap, refl, ◌∙◌}
use Rattle.blif_checks.specs.Notes.{is_by}
use Rattle.blif_checks.proofs.NoteLaws.{driven_more}
use Rattle.blif_checks.proofs.notes.Note.driven.Goals as goal

pub returns : goal.returns
returns c =
    λ driven used is.
    driven_more c.args.self _ c.args.line driven used c.least.ensures (λ l. c.least_of.ensures l ∙ ap (λ b. is_by c.args.self.second l || b) (c.greater.ensures l)) refl is
