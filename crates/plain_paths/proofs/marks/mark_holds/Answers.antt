use Rattle.std.proofs.Common.{◌≡◌, ℕ, Bool, true, length, slice_index, arith, ap, refl, subst, sym, ◌∙◌, below_more}
use Rattle.std.proofs.lemmas.Option.{same_Some, slice_get_within}
use Rattle.vrt_model.proofs.Lists.{item_at}
use Rattle.plain_paths.proofs.Spreads.{hold_marked}
use Rattle.vrt_model.specs.Lists.{At, bit_at, mark_at}
use Rattle.vrt_model.specs.declared.circuit.Hold.{Hold}
use Rattle.plain_paths.proofs.marks.mark_holds.Goals as goal

pub loop-at-preserved : goal.loop-at-preserved
loop-at-preserved c =
    let holds = c.args.circuit.now.holds in
    let s = c.args.strengths.now in
    let v = c.args.value in
    let at = c.loop-at.at in
    let u = c.mark.new.marks in
    let hold = c.hold-item.result in
    let there : At holds at hold = item_at holds c.as_slice-hold-items.result.now at hold c.as_slice-hold-items.ensures c.loop-at-test.true c.hold-item.is in
    let P : ℕ → Type 0 = λ k. (x : Hold) → At holds k x → x.size ≡ slice_index s x.net.0 → bit_at c.args.held.now k ≡ v → mark_at u x.net.0 ≡ true in
    record {
      grown = λ n e. c.mark.ensures.grown n (c.loop-at.invariant.grown n e);
      holds = below_more P at
          (λ k lt x e l b. c.mark.ensures.grown x.net.0 (c.loop-at.invariant.holds k lt x e l b))
          (λ x e. subst (λ (y : Hold). y.size ≡ slice_index s y.net.0 → bit_at c.args.held.now at ≡ v → mark_at u y.net.0 ≡ true) (same_Some hold x (sym there ∙ e))
          (λ l b. c.mark.ensures.marked (c.fits_root-fits.ensures.1 (refl, l, c.bit.ensures ∙ b))));
      marked = λ w over held m.
          hold_marked c.args.circuit.now w s v at hold c.loop-at.marks u over there c.fits_root-fits.result
          (λ e. let h = c.fits_root-fits.ensures.0 e in (h.1, ap (λ (f : ℕ → Bool). f at) held ∙ (sym c.bit.ensures ∙ h.2)))
          c.mark.ensures.only (c.loop-at.invariant.marked w over held m);
    }

pub returns-clause-holds : goal.returns-clause-holds
returns-clause-holds c at hold e =
    let shown : length c.as_slice-hold-items.result.now ≡ length c.args.circuit.now.holds = cc (c.as_slice-hold-items.ensures) in
    let inside = slice_get_within c.args.circuit.now.holds at hold e in
    c.loop-at.invariant.holds at (omega (arith, inside, shown)) hold e
