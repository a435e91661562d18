use Rattle.std.proofs.Common.{◌≡◌, ℕ, List, length, true, arith, ap, inl, inr, refl, subst, sym, ◌∙◌, below_more}
use Rattle.std.proofs.lemmas.Option.{same_Some, slice_get_within}
use Rattle.vrt_model.specs.Lists.{At, mark_at}
use Rattle.vrt_model.specs.declared.whole.WholePin.{WholePin}
use Rattle.known_nets.proofs.incidence.mark_outputs.Goals as goal

pub loop-at-init : goal.loop-at-init
loop-at-init c = record { size = refl; grown = λ n e. e; pins = λ k lt. absurd (omega (arith, lt)); only = λ n e. inl e }

pub mark-requires : goal.mark-requires
mark-requires c =
    let at = c.loop-at.at in
    let pin : WholePin = c.pin_at-pin.result.now in
    let there : At c.args.whole.now.outputs at pin = subst (λ (l : List WholePin). At l at pin) c.as_slice-pins.ensures c.pin_at-pin.ensures in
    let inside = c.requires pin (at, there) in
    let size = c.loop-at.invariant.size in
    omega (arith, inside, size)

pub loop-at-preserved : goal.loop-at-preserved
loop-at-preserved c =
    let outputs = c.args.whole.now.outputs in
    let at = c.loop-at.at in
    let u = c.mark.new.marks.items in
    let pin : WholePin = c.pin_at-pin.result.now in
    let there : At outputs at pin = subst (λ (l : List WholePin). At l at pin) c.as_slice-pins.ensures c.pin_at-pin.ensures in
    let P : ℕ → Type 0 = λ k. (x : WholePin) → At outputs k x → mark_at u x.net.0 ≡ true in
    record {
      size = c.mark.ensures.size ∙ c.loop-at.invariant.size;
      grown = λ n e. c.mark.ensures.grown n (c.loop-at.invariant.grown n e);
      pins = below_more P at
          (λ k lt x e. c.mark.ensures.grown x.net.0 (c.loop-at.invariant.pins k lt x e))
          (λ x e. subst (λ (y : WholePin). mark_at u y.net.0 ≡ true) (same_Some pin x (sym there ∙ e)) c.mark.ensures.marked);
      only = λ n e. elim (c.mark.ensures.only n e) [
        | inl before ↦ c.loop-at.invariant.only n before
        | inr is ↦ inr (pin, (at, there), sym is)
      ];
    }

pub returns-clause-size : goal.returns-clause-size
returns-clause-size c = c.loop-at.invariant.size

pub returns-clause-grown : goal.returns-clause-grown
returns-clause-grown c = c.loop-at.invariant.grown

pub returns-clause-pins : goal.returns-clause-pins
returns-clause-pins c pin m =
    let shown : length c.as_slice-pins.result.now ≡ length c.args.whole.now.outputs = ap length c.as_slice-pins.ensures in
    let inside = slice_get_within c.args.whole.now.outputs m.0 pin m.1 in
    c.loop-at.invariant.pins m.0 (omega (arith, inside, shown, c.loop-at-test.false)) pin m.1

pub returns-clause-only : goal.returns-clause-only
returns-clause-only c = c.loop-at.invariant.only
