use Rattle.std.proofs.Common.{◌∙◌, length}
use Rattle.std.proofs.lemmas.Bool.{eqb-true}
use Rattle.spice_reader.proofs.SizeLaws.{trimmed_same}
use Rattle.spice_reader.proofs.card.is_whole.Goals as goal

pub returns-in-None : goal.returns-in-None
returns-in-None c = λ whole.
    c.in-None.ensures.last ∙ trimmed_same c.args.text.now _ c.without_blanks_around.ensures (eqb-true (length c.without_blanks_around.result.now) (length c.args.text.now) whole)
