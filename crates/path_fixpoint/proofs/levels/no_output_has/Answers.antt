use Rattle.std.proofs.Common.{◌≡◌, ◌≢◌, ℕ, arith, ap, sym, ◌∙◌, below_more}
use Rattle.std.proofs.lemmas.Option.{same_Some, slice_get_within}
use Rattle.vrt_model.specs.Lists.{At}
use Rattle.vrt_model.specs.Path.{level_of_drive}
use Rattle.vrt_model.specs.declared.whole.WholePin.{WholePin}
use Rattle.path_fixpoint.proofs.levels.no_output_has.Goals as goal

pub loop-at-preserved : goal.loop-at-preserved
loop-at-preserved c =
    let outputs = c.args.outputs.now in
    let at = c.loop-at.at in
    let pin : WholePin = c.pin_at-pin.result.now in
    let P : ℕ → Type 0 = λ k. (x : WholePin) → At outputs k x → level_of_drive c.args.source x.drive ≢ c.args.level in
    below_more P at c.loop-at.invariant
    (λ x e same.
    let here : level_of_drive c.args.source x.drive ≡ level_of_drive c.args.source pin.drive = ap (λ (y : WholePin). level_of_drive c.args.source y.drive) (same_Some x pin (sym e ∙ c.pin_at-pin.ensures)) in
    omega (arith, here, same, c.drive_level.ensures, c.if-drive_level-level.false))

pub returns : goal.returns
returns c e pin m =
    let inside = slice_get_within c.args.outputs.now m.0 pin m.1 in
    c.loop-at.invariant m.0 (omega (arith, inside, c.loop-at-test.false)) pin m.1
