use Rattle.std.proofs.Common.{ap, subst, sym, ◌∙◌}
use Rattle.vrt_model.specs.Inputs.{IsBlif}
use Rattle.blif_reader.specs.Cards.{cards_of}
use Rattle.blif_reader.specs.Models.{blif_of}
use Rattle.blif_reader.proofs.Fits.{fits_all}
use Rattle.blif_reader.proofs.reader.read_blif.Goals as goal

pub returns-in-Ok-clause-fit : goal.returns-in-Ok-clause-fit
returns-in-Ok-clause-fit c =
    subst IsBlif (sym (c.in-Ok.ensures ∙ ap blif_of (c.as_slice.ensures ∙ c.in_ok-cards.ensures.ok.1))) (fits_all (cards_of c.args.text.now) c.in_ok-cards.ensures.ok.0)
