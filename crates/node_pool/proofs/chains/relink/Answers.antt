use Rattle.std.proofs.Common.{◌≡◌, ℕ, ◌<◌, length, get_or, set, ap, ◌∙◌, inl, inr, arith, length-set, get_or-set_same, get_or-set_other}
use Rattle.std.proofs.Math.Seq.{map-set_same}
use Rattle.std.proofs.lemmas.List.{get_or_read, map-set, length-map}
use Rattle.std.proofs.lemmas.Bool.{cases_lt}
use Rattle.node_pool.specs.declared.chains.Linked.{Linked}
use Rattle.node_pool.specs.Region.{newest, chain_of, no_node}
use Rattle.node_pool.specs.Chains.{nodes_of, links_of}
use Rattle.node_pool.proofs.ChainLaws.{heads_link, no_link, node_read}
use Rattle.node_pool.proofs.chains.relink.Goals as goal

pub loop-at-preserved : goal.loop-at-preserved
loop-at-preserved c =
    let i = c.loop-at.invariant in
    let mask : ℕ = c.args.mask in
    let ls = c.loop-at.nodes.items in
    let ns = nodes_of c.args.nodes.now.items in
    let n : ℕ = c.loop-at.at in
    let below : n < length ls = omega arith in
    let node : c.index.result.now.node ≡ get_or ns n no_node = node_read ls n _ below (get_or_read ls n _ below c.index.ensures no_link) ∙ ap (λ xs. get_or xs n no_node) i.nodes in
    let chain : c.chain_at-chain.result ≡ chain_of mask (get_or ns n no_node) = c.chain_at-chain.ensures.place ∙ ap (chain_of mask) node in
    let link = c.index-in-loop-at.result.now in
    let head : link ≡ newest mask ns (chain_of mask (get_or ns n no_node)) n =
    get_or_read c.loop-at.heads.items c.chain_at-chain.result _ (omega (arith, i.heads_len, c.chain_at-chain.ensures.within)) c.index-in-loop-at.ensures 0
    ∙ i.heads c.chain_at-chain.result c.chain_at-chain.ensures.within ∙ ap (λ b. newest mask ns b n) chain in
    let linked : Linked = record { node = c.index_mut.result.now.node; older = link } in
    let links : links_of (set ls n linked) ≡ set (links_of ls) n link = map-set (λ (l : Linked). l.older) ls n linked in
    record {
      nodes = map-set_same (λ (l : Linked). l.node) ls n linked no_link (ap (λ (l : Linked). l.node) (get_or_read ls n _ below c.index_mut.ensures.value no_link)) ∙ i.nodes;
      heads = rw chain (heads_link mask ns c.loop-at.heads.items n i.heads i.heads_len (omega (arith, chain, c.chain_at-chain.ensures.within)));
      links = λ k low. rw links (elim (cases_lt k n) [
        | inl old ↦ get_or-set_other (links_of ls) n k link 0 (omega (arith, old)) ∙ i.links k old
        | inr new ↦ let at : k ≡ n = omega (arith, low, new) in
            rw at (get_or-set_same (links_of ls) n link 0 (omega (arith, below, length-map ls (λ (l : Linked). l.older))) ∙ head)
      ]);
      heads_len = length-set _ _ _ ∙ i.heads_len;
      len = length-set _ _ _ ∙ i.len;
      heads_capacity = i.heads_capacity;
      links_capacity = i.links_capacity;
    }
