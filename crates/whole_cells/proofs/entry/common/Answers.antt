use Rattle.std.proofs.Common.{◌∙◌}
use Rattle.whole_cells.proofs.EntryLaws.{has_common}
use Rattle.whole_cells.proofs.entry.common.Goals as goal

pub returns-clause-has : goal.returns-clause-has
returns-clause-has c k of circuit model ports =
    has_common c.args.design.now c.args.rules.now c.args.cell c.args.own _ k of circuit model c.into_model-model.ensures (c.in_ok-clocked.ensures ∙ c.as_slice.ensures) ports
    c.in_ok-observed.ensures.is c.in_ok-links.ensures
