use Rattle.std.proofs.Common.{◌≡◌, ℕ, ◌≤◌, length, take, ap, sym, ◌∙◌, arith}
use Rattle.std.proofs.lemmas.Grind.{common_steps}
use Rattle.std.proofs.lemmas.List.{take-map, length-map}
use Rattle.node_pool.specs.declared.chains.Linked.{Linked}
use Rattle.node_pool.specs.Region.{Region}
use Rattle.node_pool.specs.Chains.{nodes_of, links_of}
use Rattle.node_pool.proofs.Once.{once_cut}
use Rattle.node_pool.proofs.ChainLaws.{heads_cut, links_cut}
use Rattle.node_pool.proofs.pool.Pool.leave.Goals as goal

pub invariant_of-self : goal.invariant_of-self
invariant_of-self c =
    let p = c.self.inside in
    let ls = p.nodes.items in
    let n : ℕ = c.args.mark.nodes in
    let same : length (nodes_of ls) ≡ length ls = length-map ls (λ (l : Linked). l.node) in
    let within : n ≤ length (nodes_of ls) = omega (arith, ap (λ r. length r.nodes) c.self.view_is) in
    let cut : nodes_of (take n ls) ≡ take n (nodes_of ls) = sym (take-map (λ (l : Linked). l.node) n ls) in
    let cut_links : links_of (take n ls) ≡ take n (links_of ls) = sym (take-map (λ (l : Linked). l.older) n ls) in
    let len : length (take n (nodes_of ls)) ≡ length (take n ls) = ap length (sym cut) ∙ length-map (take n ls) (λ (l : Linked). l.node) in
    record {
      heads = rw c.truncate.ensures.items (rw (cut, ← len) (heads_cut p.mask (nodes_of ls) _ n c.unlink.ensures.heads within));
      links = rw c.truncate.ensures.items (rw (cut, cut_links) (links_cut p.mask (nodes_of ls) (links_of ls) n c.self.invariant.links within));
      once = rw c.truncate.ensures.items (rw cut (once_cut (nodes_of ls) n c.self.invariant.once within));
      heads_len = grind (arith, common_steps);
      nodes_fit = grind (arith, common_steps);
      words_fit = grind (arith, common_steps);
      nodes_taken = grind (arith, common_steps);
      words_taken = grind (arith, common_steps);
      heads_taken = grind (arith, common_steps);
      most_heads = c.self.invariant.most_heads;
      nodes_numbered = c.self.invariant.nodes_numbered;
      words_numbered = c.self.invariant.words_numbered;
    }

pub returns : goal.returns
returns c =
    let ls = c.self.inside.nodes.items in
    let n : ℕ = c.args.mark.nodes in
    let nodes : nodes_of c.truncate.new.self.items ≡ take n (nodes_of ls) = ap nodes_of c.truncate.ensures.items ∙ sym (take-map (λ (l : Linked). l.node) n ls) in
    rw (nodes, c.truncate-2.ensures.items) (ap (λ (r : Region). record r { nodes = take n r.nodes; words = take c.args.mark.words r.words }) c.self.view_is)
