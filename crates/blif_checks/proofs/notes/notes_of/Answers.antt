use Rattle.std.proofs.Common.{◌∙◌, [], List, ap, length, subst, sym}
use Rattle.std.proofs.lemmas.List.{length-replicate}
use Rattle.blif_checks.specs.Notes.{AreNotes, no_note}
use Rattle.blif_checks.specs.declared.notes.Note.{Note}
use Rattle.blif_checks.proofs.NoteLaws.{notes_none}
use Rattle.blif_checks.proofs.notes.notes_of.Goals as goal

pub loop-driver-init : goal.loop-driver-init
loop-driver-init c = record {
  notes = subst (λ (notes : List Note). AreNotes notes [] []) (sym c.in_ok-notes.ensures) (notes_none c.args.count);
  count = ap length c.in_ok-notes.ensures ∙ length-replicate c.args.count no_note;
}
