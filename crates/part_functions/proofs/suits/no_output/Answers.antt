use Rattle.std.proofs.Common.{ℕ, arith, sym, subst, ◌∙◌, below_more}
use Rattle.std.proofs.lemmas.Option.{same_Some, slice_get_within}
use Rattle.part_functions.specs.Small.{IsInside}
use Rattle.path_fixpoint.specs.Parts.{IsPlace}
use Rattle.vrt_model.specs.Lists.{At}
use Rattle.vrt_model.specs.declared.whole.WholePin.{WholePin}
use Rattle.part_functions.proofs.suits.no_output.Goals as goal

pub loop-at-preserved : goal.loop-at-preserved
loop-at-preserved c =
    let outputs = c.args.outputs.now in
    let part = c.args.part.now in
    let at = c.loop-at.at in
    let pin : WholePin = c.pin_at-pin.result in
    let P : ℕ → Type 0 = λ k. (x : WholePin) → At outputs k x → ¬ IsInside part x.net.0 in
    below_more P at c.loop-at.invariant
    (λ x e inside. c.has_net.ensures c.if-has_net.false inside.0 (subst (λ (y : WholePin). IsPlace part inside.0 y.net.0) (same_Some x pin (sym e ∙ c.pin_at-pin.ensures)) inside.1))

pub returns : goal.returns
returns c e pin m =
    let inside = slice_get_within c.args.outputs.now m.0 pin m.1 in
    c.loop-at.invariant m.0 (omega (arith, inside, c.loop-at-test.false)) pin m.1
