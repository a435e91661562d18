use Rattle.std.proofs.Common.{◌≡◌, ℕ, Bool, true, slice_index, ap, sym, ◌∙◌, below_more}
use Rattle.std.proofs.lemmas.Option.{same_Some}
use Rattle.vrt_model.proofs.Lists.{item_at}
use Rattle.plain_paths.proofs.Spreads.{given_marked}
use Rattle.vrt_model.specs.Levels.{source_level}
use Rattle.vrt_model.specs.Lists.{At, bit_at, mark_at}
use Rattle.vrt_model.specs.Reading.{is_given}
use Rattle.vrt_model.specs.declared.circuit.FlatNet.{FlatNet}
use Rattle.plain_paths.proofs.marks.mark_given.Goals as goal

pub loop-at-preserved : goal.loop-at-preserved
loop-at-preserved c =
    let nets = c.args.circuit.now.nets in
    let s = c.args.strengths.now in
    let v = c.args.value in
    let at = c.loop-at.at in
    let u = c.mark.new.marks in
    let net = c.net-item.result in
    let there : At nets at net = item_at nets c.as_slice-net-items.result.now at net c.as_slice-net-items.ensures c.loop-at-test.true c.net-item.is in
    let P : ℕ → Type 0 = λ k. (x : FlatNet) → At nets k x → is_given x.kind ≡ true → slice_index s k ≡ source_level c.args.circuit.now → bit_at c.args.reading.now k ≡ v → mark_at u k ≡ true in
    record {
      grown = λ n e. c.mark.ensures.grown n (c.loop-at.invariant.grown n e);
      given = below_more P at
          (λ k lt x e g l b. c.mark.ensures.grown k (c.loop-at.invariant.given k lt x e g l b))
          (λ x e g l b.
          let same : x ≡ net = same_Some x net (sym e ∙ there) in
          c.mark.ensures.marked (c.fits_root-fits.ensures.1 (c.is_root.ensures ∙ (sym (ap (λ (y : FlatNet). is_given y.kind) same) ∙ g), c.source_level-source.ensures ∙ sym l, c.bit.ensures ∙ b)));
      marked = λ w over given m.
          given_marked c.args.circuit.now w s v at net c.loop-at.marks u over there c.fits_root-fits.result
          (λ e. let h = c.fits_root-fits.ensures.0 e in (sym c.is_root.ensures ∙ h.0, sym c.source_level-source.ensures ∙ h.1, ap (λ (f : ℕ → Bool). f at) given ∙ (sym c.bit.ensures ∙ h.2)))
          c.mark.ensures.only (c.loop-at.invariant.marked w over given m);
    }
