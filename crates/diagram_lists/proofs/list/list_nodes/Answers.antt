use Rattle.std.proofs.Common.{List, map, ap, ◌∙◌}
use Rattle.bdd_core.specs.Store.{IsLive}
use Rattle.bdd_core.specs.declared.handle.H.{H}
use Rattle.diagram_lists.proofs.AllNumbers.{is_node_list}
use Rattle.diagram_lists.specs.Listed.{functions_of, node_of}
use Rattle.vrt_model.proofs.Members.{all_among}
use Rattle.written_models.specs.Functions.{with_all_nodes}
use Rattle.diagram_lists.proofs.list.list_nodes.Goals as goal

pub returns : goal.returns
returns c =
    let d = c.args.store.now in
    is_node_list d c.sound.ensures.sound c.visit_all.new.list c.in_ok-visit_all.ensures.numbered c.args.handles.now (λ h m. all_among (IsLive d) c.args.handles.now h c.requires m)
    (c.in_ok-visit_all.ensures.nodes ∙ ap (λ (hs : List H). with_all_nodes d.vars (functions_of d c.args.handles.now) (map (node_of d) hs)) c.new.ensures.items)
