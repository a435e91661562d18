use Rattle.std.proofs.Common.{◌≡◌, ℕ, ◌<◌, length, true, arith, inl, inr, refl, subst, sym, ◌∙◌, below_more}
use Rattle.std.proofs.lemmas.Option.{same_Some, slice_get_within}
use Rattle.vrt_model.proofs.Lists.{item_at}
use Rattle.vrt_model.proofs.Members.{all_among}
use Rattle.vrt_model.specs.Circuits.{IsDrive, IsNet, IsWhole}
use Rattle.vrt_model.specs.Lists.{At, Among, mark_at}
use Rattle.vrt_model.specs.declared.whole.Whole.{Whole}
use Rattle.vrt_model.specs.declared.whole.WholePin.{WholePin}
use Rattle.known_nets.proofs.incidence.mark_wholes.Goals as goal

pub loop-whole-init : goal.loop-whole-init
loop-whole-init c = record { size = refl; grown = λ n e. e; pins = λ k lt. absurd (omega (arith, lt)); only = λ n e. inl e }

pub mark_outputs-requires : goal.mark_outputs-requires
mark_outputs-requires c pin m =
    let circuit = c.args.circuit.now in
    let at = c.loop-whole.whole-index in
    let w = c.whole-item.result in
    let there : At circuit.wholes at w = item_at circuit.wholes c.as_slice-whole-items.result.now at w c.as_slice-whole-items.ensures c.loop-whole-test.true c.whole-item.is in
    let is = all_among (IsWhole circuit) circuit.wholes w c.requires.wired.ranges.wholes (at, there) in
    let fits = all_among (λ (p : WholePin). IsNet circuit p.net × (p.signal < length w.model.signals) × IsDrive circuit p.drive) w.outputs pin is.outputs m in
    let inside : pin.net.0 < length circuit.nets = fits.0 in
    let len = c.requires.len in
    let size = c.loop-whole.invariant.size in
    omega (arith, inside, len, size)

pub loop-whole-preserved : goal.loop-whole-preserved
loop-whole-preserved c =
    let circuit = c.args.circuit.now in
    let at = c.loop-whole.whole-index in
    let u = c.mark_outputs.new.marks.items in
    let w = c.whole-item.result in
    let there : At circuit.wholes at w = item_at circuit.wholes c.as_slice-whole-items.result.now at w c.as_slice-whole-items.ensures c.loop-whole-test.true c.whole-item.is in
    let P : ℕ → Type 0 = λ k. (x : Whole) → At circuit.wholes k x → (pin : WholePin) → Among x.outputs pin → mark_at u pin.net.0 ≡ true in
    record {
      size = c.mark_outputs.ensures.size ∙ c.loop-whole.invariant.size;
      grown = λ n e. c.mark_outputs.ensures.grown n (c.loop-whole.invariant.grown n e);
      pins = below_more P at
          (λ k lt x e pin m. c.mark_outputs.ensures.grown pin.net.0 (c.loop-whole.invariant.pins k lt x e pin m))
          (λ x e pin m. c.mark_outputs.ensures.pins pin (subst (λ (y : Whole). Among y.outputs pin) (same_Some x w (sym e ∙ there)) m));
      only = λ n e. elim (c.mark_outputs.ensures.only n e) [
        | inl before ↦ c.loop-whole.invariant.only n before
        | inr here ↦ inr (w, here.0, (at, there), here.1, here.2)
      ];
    }

pub returns-clause-grown : goal.returns-clause-grown
returns-clause-grown c = c.loop-whole.invariant.grown

pub returns-clause-pins : goal.returns-clause-pins
returns-clause-pins c w pin m p =
    let shown : length c.as_slice-whole-items.result.now ≡ length c.args.circuit.now.wholes = cc (c.as_slice-whole-items.ensures) in
    let inside = slice_get_within c.args.circuit.now.wholes m.0 w m.1 in
    c.loop-whole.invariant.pins m.0 (omega (arith, inside, shown, c.loop-whole-test.false)) w m.1 pin p

pub returns-clause-only : goal.returns-clause-only
returns-clause-only c = c.loop-whole.invariant.only
