use Rattle.std.proofs.Common.{◌≡◌, None, Option, false, arith, ap, sym, ◌∙◌}
use Rattle.std.specs.Option.{option_copied}
use Rattle.std.specs.Prelude.{option_map, slice_get, unwrap_or}
use Rattle.bdd_core.proofs.Meaning.{meaning_zero}
use Rattle.bdd_core.proofs.Frames.{gives_none}
use Rattle.blif_eval.specs.Settled.{cover_value, bits_in}
use Rattle.vrt_model.specs.Covers.{cover_bit}
use Rattle.vrt_model.specs.declared.flat_model.Cover.{Cover}
use Rattle.blif_eval.proofs.eval.covered.Goals as goal

pub returns-in-None-clause-gives : goal.returns-in-None-clause-gives
returns-in-None-clause-gives c =
    let d = c.args.store.now in
    let out = c.args.out in
    let covers = c.args.flat.now.covers in
    let none : slice_get covers c.args.place ≡ None = sym c.get.ensures ∙ ap option_copied c.in-None.is in
    gives_none d (λ v. cover_value covers c.args.place (bits_in d out v)) (record { 0 = 0 }) c.sound.ensures.sound c.sound.ensures.within
    (let ends = c.sound.ensures.sound.ends in omega (arith, ends))
    (λ v. meaning_zero d.nodes v ∙ sym (ap (λ (o : Option Cover). unwrap_or (option_map (cover_bit (bits_in d out v)) o) false) none))
