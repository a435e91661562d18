use Rattle.std.proofs.Common.{◌≡◌, ℕ, ◌*◌, ◌/◌, arith, ap, sym, ◌∙◌}
use Rattle.std.proofs.lemmas.Bool.{eq-eqb, eqb-true, false≢true}
use Rattle.path_fixpoint.proofs.RangeLaws.{fits_exactly, fits_never}
use Rattle.path_fixpoint.specs.Strengths.{net_words}
use Rattle.path_fixpoint.proofs.ranges.is_words.Goals as goal

pub returns-then-len-words-ne0 : goal.returns-then-len-words-ne0
returns-then-len-words-ne0 c =
    let words = c.net_words-words.result in
    let turn : words * c.args.nets ≡ net_words c.args.source * c.args.nets = ap (λ (w : ℕ). w * c.args.nets) c.net_words-words.ensures in
    (λ t. absurd (false≢true t), λ e. absurd (fits_never words c.args.nets c.args.len c.if-len-words-ne0.true (e ∙ sym turn)))

pub returns : goal.returns
returns c =
    let words = c.net_words-words.result in
    let turn : words * c.args.nets ≡ net_words c.args.source * c.args.nets = ap (λ (w : ℕ). w * c.args.nets) c.net_words-words.ensures in
    let fits = fits_exactly words c.args.nets c.args.len (omega (arith, c.net_words-words.ensures)) c.if-len-words-ne0.false in
    (λ t. fits.0 (eqb-true (c.args.len / words) c.args.nets t) ∙ turn, λ e. eq-eqb (c.args.len / words) c.args.nets (fits.1 (e ∙ sym turn)))
