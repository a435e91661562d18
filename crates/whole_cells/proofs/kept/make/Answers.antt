use Rattle.whole_cells.proofs.KeptLaws.{one_kept}
use Rattle.whole_cells.proofs.kept.make.Goals as goal

pub returns-clause-kept : goal.returns-clause-kept
returns-clause-kept c =
    one_kept c.args.design.now c.args.blif.now c.args.rules.now c.args.facts.now c.args.kept.now c.keep.new.self c.args.cell c.in_ok-entry.entry c.in_ok-entry.ensures c.keep.ensures.cells
    c.keep.ensures.made c.requires.kept
