use Rattle.std.proofs.Common.{ap, arith, not, ◌∙◌}
use Rattle.std.specs.Prelude.{find}
use Rattle.vrt_model.specs.Hierarchy.{is_good_card}
use Rattle.hierarchy.proofs.CardLaws.{card_found, card_passed, cards_done}
use Rattle.hierarchy.proofs.cards.bad_in.Goals as goal

pub returns-in-Some : goal.returns-in-Some
returns-in-Some c =
    card_found (λ i. not (is_good_card c.args.design.now i)) c.args.cells.now c.loop-cell.cell-index c.cell-item.result _ c.in-Some.card.now c.loop-cell-test.true c.cell-item.is
    (c.in-Some.ensures ∙ ap (find (λ i. not (is_good_card c.args.design.now i))) c.as_slice.ensures) c.loop-cell.invariant

pub loop-cell-preserved : goal.loop-cell-preserved
loop-cell-preserved c =
    card_passed (λ i. not (is_good_card c.args.design.now i)) c.args.cells.now c.loop-cell.cell-index c.cell-item.result _ c.loop-cell-test.true c.cell-item.is
    (c.in_default.ensures ∙ ap (find (λ i. not (is_good_card c.args.design.now i))) c.as_slice.ensures) c.loop-cell.invariant

pub returns : goal.returns
returns c = cards_done (λ i. not (is_good_card c.args.design.now i)) c.args.cells.now c.loop-cell.cell-index _ (omega arith) c.loop-cell.invariant
