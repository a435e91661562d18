use Rattle.std.proofs.lemmas.Result.{err_from_is_err_and}
use Rattle.hierarchy.proofs.OrderLaws.{design_told, few_depths, names_told, ordered}
use Rattle.hierarchy.proofs.ordered.order.Goals as goal

pub returns-in_err-depths : goal.returns-in_err-depths
returns-in_err-depths c =
    let p = err_from_is_err_and c.from_residual.result c.from_residual.ensures.1 in rw (p.1, p.2) (design_told c.args.design.now c.args.rules.now _ c.in_err-depths.ensures)

pub returns-in_err-check_names : goal.returns-in_err-check_names
returns-in_err-check_names c =
    let p = err_from_is_err_and c.from_residual-in_err-check_names.result c.from_residual-in_err-check_names.ensures.1 in
    rw (p.1, p.2) (names_told c.args.design.now c.args.rules.now c.in_ok-depths.depths _ c.in_ok-depths.ensures c.in_err-check_names.ensures)

pub by_depth-requires-clause-few : goal.by_depth-requires-clause-few
by_depth-requires-clause-few c = few_depths c.args.design.now c.in_ok-depths.depths c.as_slice.result.now c.in_ok-depths.ensures c.as_slice.ensures c.requires.cell_limit

pub returns-in-Ok : goal.returns-in-Ok
returns-in-Ok c =
    ordered c.args.design.now c.args.rules.now c.in_ok-depths.depths c.as_slice.result.now c.in-Ok.order c.in_ok-depths.ensures c.in_ok-check_names.ensures c.as_slice.ensures c.in-Ok.ensures
