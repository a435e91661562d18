use Rattle.std.proofs.Common.{sym}
use Rattle.blif_checks.proofs.NameLaws.{found_model, no_place, some_interface, some_model}
use Rattle.blif_checks.proofs.subs.find_model.Goals as goal

pub returns-in_err-number-clause-unknown : goal.returns-in_err-number-clause-unknown
returns-in_err-number-clause-unknown c =
    rw c.from_residual.ensures (no_place c.args.blif.now c.args.tables.now c.args.name.now c.requires (sym c.in_err-number.ensures))

pub returns-in_err-model-clause-unknown : goal.returns-in_err-model-clause-unknown
returns-in_err-model-clause-unknown c =
    absurd (some_model c.args.blif.now c.args.tables.now c.args.name.now c.in_ok-number.number c.requires (sym c.in_ok-number.ensures) (sym c.in_err-model.ensures))

pub returns-in_err-interface-clause-unknown : goal.returns-in_err-interface-clause-unknown
returns-in_err-interface-clause-unknown c =
    absurd (some_interface c.args.blif.now c.args.tables.now c.args.name.now c.in_ok-number.number c.requires (sym c.in_ok-number.ensures) (sym c.in_err-interface.ensures))

pub returns-clause-found : goal.returns-clause-found
returns-clause-found c =
    found_model c.args.blif.now c.args.tables.now c.args.name.now c.in_ok-number.number _ _ c.requires (sym c.in_ok-number.ensures) (sym c.in_ok-model.ensures) (sym c.in_ok-interface.ensures)
