use Rattle.std.proofs.Common.{◌≡◌, length, drop, map}
use Rattle.diagram_lists.specs.Listed.{functions_of, node_of}
use Rattle.diagram_lists.specs.Numbered.{IsNumbered}
use Rattle.written_models.specs.Functions.{with_all_nodes}
use Rattle.diagram_lists.proofs.list.visit_all.Given as goal

abbrev pub invariant-loop-f : goal.invariant-loop-f
invariant-loop-f l = record {
  numbered : IsNumbered (length l.store.nodes) l.list;
  nodes :
      with_all_nodes l.store.vars (functions_of l.store (drop l.f-index l.handles)) (map (node_of l.store) l.list.nodes.items)
      ≡ with_all_nodes l.store.vars (functions_of l.store l.handles) (map (node_of l.store) l.fn.list.nodes.items);
}
