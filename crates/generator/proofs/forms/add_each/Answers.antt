use Rattle.std.proofs.Common.{◌++◌, ap, sym, ◌∙◌, append_assoc}
use Rattle.generator.specs.Forms.{filled, for_each}
use Rattle.generator.proofs.FormLaws.{for_each_more}
use Rattle.generator.proofs.forms.add_each.Goals as goal

pub loop-place-preserved : goal.loop-place-preserved
loop-place-preserved c =
    let form = c.args.form.now in
    let place = c.loop-place.place in
    let before = c.args.text.now in
    c.in_ok-add_filled.ensures
    ∙ ap (λ t. t ++ filled form place) c.loop-place.invariant
    ∙ append_assoc before (for_each place form) (filled form place)
    ∙ ap (λ t. before ++ t) (sym (for_each_more form place))
