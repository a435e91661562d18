use Rattle.std.proofs.Common.{◌≡◌, ℕ, ◌+◌, ◌-◌, ◌<◌, length, get_or, sym, ap, ◌∙◌, arith}
use Rattle.std.proofs.lemmas.List.{get_or_read, get_or_default, length-map}
use Rattle.node_pool.specs.declared.chains.Linked.{Linked}
use Rattle.node_pool.specs.Region.{newest, chain_of, no_node}
use Rattle.node_pool.specs.Chains.{nodes_of}
use Rattle.node_pool.proofs.Newest.{newest_le}
use Rattle.node_pool.proofs.ChainLaws.{Walked, walk_starts, walk_goes_on, differs, is_same, node_read, link_read, no_link}
use Rattle.node_pool.proofs.pool.Pool.find.Goals as goal

pub loop-after-init : goal.loop-after-init
loop-after-init c =
    let p = c.self.inside in
    let ns = nodes_of p.nodes.items in
    let len : length ns ≡ length p.nodes.items = length-map p.nodes.items (λ (l : Linked). l.node) in
    let within : c.chain_at.result < length p.heads.items = omega arith in
    let first : c.index-after.result.now ≡ newest p.mask ns (chain_of p.mask c.args.node) (length ns) =
    get_or_read p.heads.items c.chain_at.result _ within c.index-after.ensures 0
    ∙ c.self.invariant.heads c.chain_at.result c.chain_at.ensures.within
    ∙ ap (λ b. newest p.mask ns b (length p.nodes.items)) c.chain_at.ensures.place ∙ ap (newest p.mask ns (chain_of p.mask c.args.node)) (sym len) in
    rw first (walk_starts p.mask ns c.args.node)

-- the link of the node before `after`
pub loop-after-smaller : goal.loop-after-smaller
loop-after-smaller c =
    let p = c.self.inside in
    let ls = p.nodes.items in
    let at : ℕ = c.loop-after.after - 1 in
    let inside : at < length ls = omega (arith, length-map ls (λ (l : Linked). l.node), c.loop-after.invariant.within) in
    let read = get_or_read ls at _ inside c.index.ensures no_link in
    let next = link_read ls at _ inside read ∙ c.self.invariant.links at (omega (arith, inside, length-map ls (λ (l : Linked). l.node))) in
    omega (arith, next, newest_le p.mask (nodes_of ls) (chain_of p.mask (get_or (nodes_of ls) at no_node)) at)

pub loop-after-preserved : goal.loop-after-preserved
loop-after-preserved c =
    let p = c.self.inside in
    let ls = p.nodes.items in
    let at : ℕ = c.loop-after.after - 1 in
    let inside : at < length ls = omega (arith, length-map ls (λ (l : Linked). l.node), c.loop-after.invariant.within) in
    let back : c.loop-after.after ≡ at + 1 = omega arith in
    let read = get_or_read ls at _ inside c.index.ensures no_link in
    let next : c.index.result.now.older ≡ newest p.mask (nodes_of ls) (chain_of p.mask (get_or (nodes_of ls) at no_node)) at =
    link_read ls at _ inside read ∙ c.self.invariant.links at (omega (arith, inside, length-map ls (λ (l : Linked). l.node))) in
    let walked : Walked p.mask (nodes_of ls) c.args.node (at + 1) = rw (← back) c.loop-after.invariant in
    rw next (walk_goes_on p.mask (nodes_of ls) c.args.node at walked
    (λ same. differs _ _ _ c.eq.ensures c.if-eq.false (node_read ls at _ inside read ∙ same)))

-- no other place has the node
pub returns-then-eq-clause-only : goal.returns-then-eq-clause-only
returns-then-eq-clause-only c k below is =
    let p = c.self.inside in
    let ls = p.nodes.items in
    let ns = nodes_of ls in
    let seen : ns ≡ c.args.self.now.nodes = ap (λ r. r.nodes) c.self.view_is in
    let len : length ns ≡ length ls = length-map ls (λ (l : Linked). l.node) in
    let at : ℕ = c.loop-after.after - 1 in
    let inside : at < length ls = omega (arith, len, c.loop-after.invariant.within) in
    let here : get_or ns at no_node ≡ c.args.node =
    sym (node_read ls at _ inside (get_or_read ls at _ inside c.index.ensures no_link)) ∙ is_same _ _ _ c.eq.ensures c.if-eq.true in
    let within : k < length ns = omega (arith, below, ap length seen) in
    let there : get_or ns k no_node ≡ c.args.node =
    sym (get_or_default ns k c.args.node no_node within) ∙ ap (λ xs. get_or xs k c.args.node) seen ∙ is in
    c.self.invariant.once k at within (omega (arith, inside, len)) (there ∙ sym here)
