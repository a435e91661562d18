use Rattle.hierarchy.proofs.LookupLaws.{names_found}
use Rattle.hierarchy.proofs.missing_names.missing_name.Goals as goal

pub returns : goal.returns
returns c = names_found c.args.design.now c.args.rules.now _ c.in_ok-fill.ensures _ c.last_name.ensures
