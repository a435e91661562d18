use Rattle.std.proofs.Common.{◌∙◌}
use Rattle.whole_cells.proofs.SeenLaws.{outputs_seen}
use Rattle.whole_cells.proofs.seen.observes_outputs.Goals as goal

pub returns : goal.returns
returns c k rules cell ports = c.are_seen.ensures ∙ outputs_seen k c.args.rules.now c.args.cell.now c.args.ports.now rules cell ports
