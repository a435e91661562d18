use Rattle.blif_checks.proofs.NameLaws.{interface_once}
use Rattle.blif_checks.proofs.tables.interface.Goals as goal

pub returns : goal.returns
returns c =
    interface_once c.args.model.now _ _ _ _ _ _ _ c.new-names.ensures c.as_slice.ensures c.as_slice-2.ensures c.as_slice-3.ensures c.in_ok-add_all.ensures c.in_ok-add_all-2.ensures c.in_ok-add_all-3.ensures
