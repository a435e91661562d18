use Rattle.std.proofs.Common.{◌≡◌, ℕ, List, length, arith, ap, sym, subst, ◌∙◌, below_more}
use Rattle.std.proofs.lemmas.Option.{same_Some, slice_get_within}
use Rattle.part_functions.specs.Small.{AreOutside}
use Rattle.path_fixpoint.proofs.PinLaws.{whole_pin}
use Rattle.vrt_model.proofs.Lists.{item_at}
use Rattle.vrt_model.specs.Lists.{At}
use Rattle.vrt_model.specs.declared.whole.Whole.{Whole}
use Rattle.vrt_model.specs.declared.whole.WholePin.{WholePin}
use Rattle.part_functions.proofs.suits.no_pin.Goals as goal

pub loop-whole-preserved : goal.loop-whole-preserved
loop-whole-preserved c =
    let wholes = c.args.circuit.now.wholes in
    let part = c.args.part.now in
    let at = c.loop-whole.whole-index in
    let w : Whole = c.whole-item.result in
    let there : At wholes at w = item_at wholes c.as_slice-whole-items.result.now at w c.as_slice-whole-items.ensures c.loop-whole-test.true c.whole-item.is in
    let none : AreOutside part (λ (pin : WholePin). pin.net) w.outputs =
    subst (λ (ps : List WholePin). AreOutside part (λ (pin : WholePin). pin.net) ps) c.as_slice.ensures (c.no_output.ensures c.if-not-no_output.false) in
    let P : ℕ → Type 0 = λ k. (x : Whole) → At wholes k x → AreOutside part (λ (pin : WholePin). pin.net) x.outputs in
    below_more P at c.loop-whole.invariant
    (λ x e. subst (λ (y : Whole). AreOutside part (λ (pin : WholePin). pin.net) y.outputs) (same_Some w x (sym there ∙ e)) none)

pub returns : goal.returns
returns c e pin m =
    let wholes = c.args.circuit.now.wholes in
    let from = whole_pin c.args.circuit.now pin m in
    let inside = slice_get_within wholes from.1.0 from.0 from.1.1 in
    let shown : length c.as_slice-whole-items.result.now ≡ length wholes = ap (λ (xs : List Whole). length xs) c.as_slice-whole-items.ensures in
    c.loop-whole.invariant from.1.0 (omega (arith, inside, shown, c.loop-whole-test.false)) from.0 from.1.1 pin from.2
