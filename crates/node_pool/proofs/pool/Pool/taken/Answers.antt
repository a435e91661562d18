use Rattle.std.proofs.Common.{ℕ, ◌<◌, length, get_or, ap, ◌∙◌, arith}
use Rattle.std.proofs.lemmas.List.{get_or-replicate, length-replicate}
use Rattle.node_pool.proofs.pool.Pool.taken.Goals as goal

pub invariant_of-result : goal.invariant_of-result
invariant_of-result c =
    let none = c.in_ok-with_capacity.ensures.items in
    let zeros = c.in_ok-few_heads.ensures.items in
    let no_words = c.in_ok-with_capacity-2.ensures.items in
    record {
      heads = rw none (λ b le. ap (λ xs. get_or xs b 0) zeros ∙ get_or-replicate 1024 b 0 0 (let low : b < 1024 = omega (arith, le) in low));
      links = rw none (λ i below. absurd (omega (arith, below)));
      once = rw none (λ i j in_i in_j same. absurd (omega (arith, in_i)));
      heads_len = ap length zeros ∙ length-replicate {A = ℕ} 1024 0;
      nodes_fit = rw none (omega arith);
      words_fit = rw no_words (omega arith);
      nodes_taken = grind (arith, c.in_ok-with_capacity.ensures);
      words_taken = grind (arith, c.in_ok-with_capacity-2.ensures);
      heads_taken = grind (arith, c.in_ok-few_heads.ensures);
      most_heads = omega arith;
      nodes_numbered = omega arith;
      words_numbered = omega arith;
    }
