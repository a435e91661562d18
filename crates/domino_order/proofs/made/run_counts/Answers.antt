use Rattle.std.proofs.Common.{ap, ◌∙◌}
use Rattle.domino_order.proofs.MadeLaws.{counts_are}
use Rattle.domino_order.specs.Made.{latch_elements}
use Rattle.phase_terms.specs.Ready.{comparison_in}
use Rattle.domino_order.proofs.made.run_counts.Goals as goal

pub returns : goal.returns
returns c =
    counts_are (comparison_in c.args.compared) c.args.variables c.len.result c.source_level.result c.len-2.result c.in_ok-elements.elements c.requires.flat c.len.ensures c.source_level.ensures c.len-2.ensures
    (c.in_ok-elements.ensures ∙ ap latch_elements c.as_slice.ensures)
