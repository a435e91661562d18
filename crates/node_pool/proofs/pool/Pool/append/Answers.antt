use Rattle.std.proofs.Common.{◌≡◌, ℕ, ◌<◌, ◌++◌, [], ◌∷◌, length, ap, sym, subst, ◌∙◌, arith}
use Rattle.std.proofs.lemmas.Grind.{common_steps}
use Rattle.std.proofs.lemmas.List.{get_or_read, map-append, length-map}
use Rattle.node_pool.specs.declared.chains.Linked.{Linked}
use Rattle.node_pool.specs.Region.{newest, chain_of}
use Rattle.node_pool.specs.Chains.{nodes_of, links_of}
use Rattle.std.specs.List.{Contains}
use Rattle.node_pool.proofs.Once.{once_push}
use Rattle.node_pool.proofs.ChainLaws.{heads_push, links_push}
use Rattle.node_pool.proofs.pool.Pool.append.Goals as goal

pub invariant_of-self : goal.invariant_of-self
invariant_of-self c =
    let p = c.self.inside in
    let ls = p.nodes.items in
    let ns = nodes_of ls in
    let same : length ns ≡ length ls = length-map ls (λ (l : Linked). l.node) in
    let b : ℕ = c.chain_at-chain.result in
    let chain : b ≡ chain_of p.mask c.args.node = c.chain_at-chain.ensures.place in
    let count : c.len-count.result ≡ length ns = omega (arith, same) in
    let in_heads : b < length p.heads.items = omega arith in
    let heads_now = subst (Rattle.node_pool.specs.Chains.HeadsBelow p.mask ns p.heads.items) (sym same) c.self.invariant.heads in
    let link : c.index-older.result.now ≡ newest p.mask ns (chain_of p.mask c.args.node) (length ns) =
    get_or_read p.heads.items b _ in_heads c.index-older.ensures 0 ∙ heads_now b c.chain_at-chain.ensures.within
    ∙ ap (λ x. newest p.mask ns x (length ns)) chain in
    let linked : Linked = record { node = c.args.node; older = c.index-older.result.now } in
    let more : nodes_of (ls ++ linked ∷ []) ≡ ns ++ c.args.node ∷ [] = map-append (λ (l : Linked). l.node) ls (linked ∷ []) in
    let more_links : links_of (ls ++ linked ∷ []) ≡ links_of ls ++ linked.older ∷ [] = map-append (λ (l : Linked). l.older) ls (linked ∷ []) in
    let len : length (ls ++ linked ∷ []) ≡ length (ns ++ c.args.node ∷ []) = sym (length-map (ls ++ linked ∷ []) (λ (l : Linked). l.node)) ∙ ap length more in
    record {
      heads = rw c.push_reserved.ensures.items (rw (more, len) (rw (chain, count) (heads_push p.mask ns p.heads.items c.args.node heads_now c.self.invariant.heads_len (omega arith))));
      links = rw c.push_reserved.ensures.items (rw (more, more_links) (links_push p.mask ns (links_of ls) c.args.node _ c.self.invariant.links (length-map ls (λ (l : Linked). l.older) ∙ sym same) link));
      once = rw c.push_reserved.ensures.items (rw more (once_push ns c.args.node c.self.invariant.once (λ there. c.requires.new (subst (λ r. Contains r.nodes c.args.node) c.self.view_is there))));
      heads_len = grind (arith, common_steps);
      nodes_fit = grind (arith, common_steps);
      words_fit = grind (arith, common_steps);
      nodes_taken = grind (arith, common_steps);
      words_taken = grind (arith, common_steps);
      heads_taken = grind (arith, common_steps);
      most_heads = c.self.invariant.most_heads;
      nodes_numbered = c.self.invariant.nodes_numbered;
      words_numbered = c.self.invariant.words_numbered;
    }
