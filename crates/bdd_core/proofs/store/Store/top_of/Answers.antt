use Rattle.std.proofs.Common.{ap, ◌∙◌, length, ◌<◌, arith}
use Rattle.std.proofs.lemmas.List.{get_or_read}
use Rattle.bdd_core.specs.Diagram.{top, no_node}
use Rattle.bdd_core.proofs.store.Store.top_of.Goals as goal

pub returns : goal.returns
unfolding top
returns c =
    let nodes = c.self.inside.pool.nodes in
    let same = ap (λ d. d.nodes) c.self.view_is in
    let within : c.args.f.0 < length nodes = omega (arith, ap length same, c.requires) in
    ap (λ n. n.var) (get_or_read nodes c.args.f.0 _ within c.node.ensures no_node) ∙ ap (λ ns. top ns c.args.f.0) same
