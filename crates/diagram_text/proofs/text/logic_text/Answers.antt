use Rattle.std.proofs.Common.{◌∙◌}
use Rattle.diagram_text.proofs.ModelLaws.{gives}
use Rattle.diagram_text.specs.Lines.{IsInner}
use Rattle.vrt_model.proofs.Members.{all_by}
use Rattle.diagram_text.proofs.text.logic_text.Goals as goal

pub node_lines-requires-clause-inner : goal.node_lines-requires-clause-inner
node_lines-requires-clause-inner c = all_by (IsInner c.args.store.now) c.in-Ok.list.nodes.items c.in-Ok.ensures.inner

pub node_lines-requires-clause-places : goal.node_lines-requires-clause-places
node_lines-requires-clause-places c = c.in-Ok.ensures.places

pub root_numbers-requires-clause-places : goal.root_numbers-requires-clause-places
root_numbers-requires-clause-places c = c.in-Ok.ensures.places

pub returns : goal.returns
returns c l logic =
    gives c.args.store.now c.args.handles.now c.in-Ok.list c.in-Ok.ensures c.args.interface l logic c.requires.variables c.lines_of.result _ _ c.lines_of.ensures
    (c.as_slice.ensures.value ∙ c.in-Ok-node_lines.ensures) (c.as_slice-2.ensures.value ∙ c.in-Ok-root_numbers.ensures) c.counted_text.result c.counted_text.ensures
