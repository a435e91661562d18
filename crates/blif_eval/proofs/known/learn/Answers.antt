use Rattle.std.proofs.Common.{◌≡◌, Bool, Option, List, true, subst, sym, ◌∙◌, inr}
use Rattle.blif_eval.proofs.KnownLaws.{learned_of}
use Rattle.blif_eval.specs.KnownBits.{bit_in, teaches}
use Rattle.vrt_model.specs.Covers.{cover_bit}
use Rattle.blif_eval.proofs.known.learn.Goals as goal

pub returns : goal.returns
returns c =
    let cover = c.args.cover.now in
    let bits = c.args.bits.now.items in
    let teaches_it : teaches bits cover ≡ true =
    subst (λ (t : List (Option Bool)). teaches t cover ≡ true) c.as_slice.ensures.value (sym c.teaches.ensures ∙ c.if-not-teaches.false) in
    let is : c.cover_bit-bit.result ≡ cover_bit (bit_in bits) cover =
    subst (λ (t : List (Option Bool)). c.cover_bit-bit.result ≡ cover_bit (bit_in t) cover) c.as_slice-2.ensures.value c.cover_bit-bit.ensures in
    inr (learned_of bits c.set_bit.new.bits.items cover c.cover_bit-bit.result teaches_it is c.set_bit.ensures)
