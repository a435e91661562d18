use Rattle.std.proofs.Common.{◌∙◌}
use Rattle.std.proofs.lemmas.Result.{err_from_is_err_and}
use Rattle.hierarchy.proofs.NestedLaws.{inside_is}
use Rattle.hierarchy.proofs.OrderLaws.{card_told, depths_are}
use Rattle.hierarchy.proofs.ordered.cell_depths.Goals as goal

pub returns-in_err-check_cards : goal.returns-in_err-check_cards
returns-in_err-check_cards c =
    let p = err_from_is_err_and c.from_residual.result c.from_residual.ensures.1 in rw (p.1, p.2) (card_told c.args.design.now _ c.in_err-check_cards.ensures)

pub whole_depths-requires-clause-inside : goal.whole_depths-requires-clause-inside
whole_depths-requires-clause-inside c = inside_is c.args.design.now c.as_slice-2.result.now (c.as_slice-2.ensures ∙ c.in-Ok-inner_cells.ensures)

pub returns-in-Ok-whole_depths : goal.returns-in-Ok-whole_depths
returns-in-Ok-whole_depths c = record {
  cards = c.in_ok-check_cards.ensures;
  nested = c.in_ok-check_nesting.ensures;
  are = depths_are c.args.design.now c.in-Ok-inner_cells.inner c.as_slice-2.result.now c.in-Ok-whole_depths.depths c.in-Ok-inner_cells.ensures c.as_slice-2.ensures c.in-Ok-whole_depths.ensures;
}
