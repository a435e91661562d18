use Rattle.std.proofs.Common.{List, ◌++◌, ap, refl, ◌∙◌}
use Rattle.std.proofs.lemmas.Result.{on_ok_weaker}
use Rattle.phase_terms.specs.Ready.{comparison_in}
use Rattle.phase_wishes.specs.declared.wishes.Wish.{Wish}
use Rattle.phase_plan.proofs.wishes.add_holds.Goals as goal

pub returns : goal.returns
returns c =
    let more = c.in_ok-more.more in
    on_ok_weaker c.add_wishes.result (λ added. record {
      more = more;
      is = added ∙ ap (λ (ws : List Wish). c.args.wishes.now ++ ws) c.as_slice.ensures;
      wishes = c.in_ok-more.ensures.wishes (comparison_in c.args.compared) refl refl refl;
      known = c.in_ok-more.ensures.known;
    }) c.add_wishes.ensures
