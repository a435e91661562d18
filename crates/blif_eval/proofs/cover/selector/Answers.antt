use Rattle.std.proofs.Common.{◌≡◌, ◌∙◌, List, ℕ, length, arith, ap, sym}
use Rattle.std.proofs.lemmas.Bool.{eqb-true}
use Rattle.blif_eval.proofs.SelectLaws.{selector_is}
use Rattle.blif_eval.proofs.cover.selector.Goals as goal

pub returns-then-differ : goal.returns-then-differ
returns-then-differ c =
    let rows = c.as_slice-rows.result.now in
    let found = c.differ.ensures c.if-differ.true in
    let here : length rows ≡ 2 = eqb-true (length rows) 2 (sym c.is_pair.ensures ∙ c.if-not-is_pair.false) in
    let same = ap (λ (xs : List (List ℕ)). length xs) c.as_slice-rows.ensures in
    selector_is c.args.cover.now rows c.row_at-first.result.now c.row_at-second.result.now c.as_slice-rows.ensures c.row_at-first.ensures c.row_at-second.ensures
    c.args.values.len c.proposed-at.result c.requires.cover (omega (arith, here, same)) found.0 found.1
