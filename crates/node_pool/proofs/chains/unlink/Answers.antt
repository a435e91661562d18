use Rattle.std.proofs.Common.{◌≡◌, ℕ, ◌+◌, ◌-◌, ◌<◌, length, get_or, ap, ◌∙◌, arith, length-set}
use Rattle.std.proofs.lemmas.List.{get_or_read, length-map}
use Rattle.node_pool.specs.declared.chains.Linked.{Linked}
use Rattle.node_pool.specs.Region.{chain_of, no_node}
use Rattle.node_pool.specs.Chains.{HeadsBelow, nodes_of}
use Rattle.node_pool.proofs.ChainLaws.{heads_unlink, no_link, node_read, link_read}
use Rattle.node_pool.proofs.chains.unlink.Goals as goal

pub loop-count-preserved : goal.loop-count-preserved
loop-count-preserved c =
    let mask : ℕ = c.args.mask in
    let ls = c.args.nodes.now.items in
    let nodes = nodes_of ls in
    let at : ℕ = c.loop-count.count - 1 in
    let inside : at < length ls = omega arith in
    let read = get_or_read ls at _ inside c.index-last.ensures no_link in
    let chain : c.chain_at-chain.result ≡ chain_of mask (get_or nodes at no_node) = c.chain_at-chain.ensures.place ∙ ap (chain_of mask) (node_read ls at _ inside read) in
    let link = link_read ls at _ inside read ∙ c.requires.links at (omega (arith, inside, length-map ls (λ (l : Linked). l.node))) in
    let back : c.loop-count.count ≡ at + 1 = omega arith in
    let before : HeadsBelow mask nodes c.loop-count.heads.items (at + 1) = rw (← back) c.loop-count.invariant.heads in
    record {
      above = omega arith;
      within = omega arith;
      heads = rw chain (heads_unlink mask nodes c.loop-count.heads.items at _ before c.loop-count.invariant.heads_len (omega arith) link);
      heads_len = length-set _ _ _ ∙ c.loop-count.invariant.heads_len;
      heads_capacity = c.loop-count.invariant.heads_capacity;
    }
