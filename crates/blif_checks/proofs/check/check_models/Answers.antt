use Rattle.std.proofs.lemmas.Result.{err_from_is_err_and}
use Rattle.blif_checks.proofs.CheckLaws.{driver_told, nesting_told, sub_told}
use Rattle.blif_checks.proofs.check.check_models.Goals as goal

pub returns-in_err-check_subs : goal.returns-in_err-check_subs
returns-in_err-check_subs c =
    let p = err_from_is_err_and c.from_residual.result c.from_residual.ensures.1 in rw (p.1, p.2) (sub_told c.args.blif.now _ c.in_err-check_subs.ensures.fault)

pub returns-in_err-check_nesting : goal.returns-in_err-check_nesting
returns-in_err-check_nesting c =
    let p = err_from_is_err_and c.from_residual-in_err-check_nesting.result c.from_residual-in_err-check_nesting.ensures.1 in
    rw (p.1, p.2) (nesting_told c.args.blif.now _ c.in_ok-check_subs.ensures.fault c.in_err-check_nesting.ensures)

pub returns : goal.returns
returns c = driver_told c.args.blif.now c.check_drivers.result c.in_ok-check_subs.ensures.fault c.in_ok-check_subs.ensures.fit c.in_ok-check_nesting.ensures c.check_drivers.ensures
