use Rattle.std.proofs.Common.{◌≡◌, ◌+◌, ◌++◌, List, Bool, [], ◌∷◌, length, arith, ap, length-append, ◌∙◌}
use Rattle.std.proofs.lemmas.Result.{on_ok_weaker}
use Rattle.whole_circuits.proofs.InsideLaws.{marked_more}
use Rattle.whole_circuits.specs.Insides.{is_within}
use Rattle.whole_circuits.proofs.inside.add_inside.Goals as goal

pub returns-clause-len : goal.returns-clause-len
returns-clause-len c =
    on_ok_weaker c.add_mark.result
    (λ grown.
    let count = ap (λ (marks : List Bool). length marks) grown in
    let sum = length-append c.args.inside.now.items (c.is_within-mark.result ∷ []) in
    let one : length c.add_mark.new.marks.items ≡ length c.args.inside.now.items + 1 = omega (arith, count, sum) in
    one) c.add_mark.ensures

pub returns-clause-are : goal.returns-clause-are
returns-clause-are c =
    let old = c.args.inside.now.items in
    let mark = c.is_within-mark.ensures ∙ ap (λ (l : List Bool). is_within c.args.whole.now l c.place_at.result.now) c.as_slice.ensures.value in
    on_ok_weaker c.add_mark.result
    (λ grown cut is marked.
    marked_more cut c.args.unrolled.now c.args.whole.now is c.args.at c.place_at.result.now old c.add_mark.new.marks.items c.place_at.ensures marked
    (grown ∙ ap (λ (b : Bool). old ++ b ∷ []) mark)) c.add_mark.ensures
