-- Counts of operations behind which words alone are written, and of those over fewer variables.
use Rattle.std.proofs.Common.{◌≡◌, ℕ, suc, ◌+◌, ◌*◌, ◌^◌, ◌<◌, ◌≤◌, List, Result, length, arith, ap, sym, subst, ◌∙◌}
use Rattle.std.proofs.Math.Nat.{add-mul, mul-add, mul-le-mul_left, mul-le-mul_right}
use Rattle.std.proofs.Math.Pow.{pow_mono}
use Rattle.node_pool.specs.declared.region.Node.{Node}
use Rattle.node_pool.specs.declared.region.Span.{Span}
use Rattle.bdd_core.proofs.Bound.{double}
use Rattle.bdd_core.proofs.Results.{if_err_more, if_ok_more}
use Rattle.bdd_core.specs.Diagram.{Function, IsWithin, meaning, top}
use Rattle.bdd_core.specs.Store.{Diagrams}
use Rattle.bdd_core.specs.Words.{word_at}
use Rattle.bdd_core.specs.declared.handle.Spent.{Spent}
use Rattle.bdd_ops.proofs.WithinLaws.{span_kept}
use Rattle.bdd_ops.specs.Counting.{Counts, IsCounted, IsSpentBy}
use Rattle.path_fixpoint.specs.Spending.{Spends}

module _ (u : ℕ) (old new other : Diagrams) (nodes : other.nodes ≡ new.nodes) (budget : other.budget ≡ new.budget) where
  counted_words : (operations : ℕ) → IsCounted u operations old new → IsCounted u operations old other
  counted_words operations x = record {
    budget = budget ∙ x.budget;
    more = x.more;
    is = nodes ∙ x.is;
    few = subst (λ (ns : List Node). length ns ≤ length old.nodes + operations * 2 ^ u) (sym nodes) x.few;
    early = λ i low high. subst (λ (ns : List Node). top ns i < u) (sym nodes) (x.early i low (subst (λ (ns : List Node). i < length ns) nodes high));
  }

  pub counts_words : {A : Type 0} (operations : ℕ) (r : Result A Spent) → Counts u operations old new r → Counts u operations old other r
  counts_words operations r x = record {
    added = counted_words operations x.added;
    refused = if_err_more (IsSpentBy u operations old new) (IsSpentBy u operations old other) r (λ s w. record {
      number = w.number;
      full = subst (λ (ns : List Node). length ns ≡ old.budget) (sym nodes) w.full;
      passed = w.passed;
      few_variables = w.few_variables;
    }) x.refused;
  }

  pub spends_words : {A : Type 0} (operations : ℕ) (out : Span) (r : Result A Spent) → ((k : ℕ) → k < out.len → word_at other out k ≡ word_at new out k) → Spends u operations out old new r
      → Spends u operations out old other r
  spends_words operations out r words x = record {
    counts = counts_words operations r x.counts;
    within = if_ok_more _ _ r
        (λ v all. span_kept u out new other words (λ k lt w. ap (λ (ns : List Node). meaning ns (word_at new out k) w) nodes) all) x.within;
  }

-- a function of the first variables reads no more than more of them
pub within_more : (k u : ℕ) (f : Function) → k ≤ u → IsWithin k f → IsWithin u f
within_more k u f le reads v w same = reads v w (λ y below. same y (omega (arith, below, le)))

-- over fewer variables an operation has at most half as many nodes, so half as many of the others have room for as many
module _ (k u a b : ℕ) (fewer : k < u) (half : a ≤ 2 * b) where
  half_room : a * 2 ^ k ≤ b * 2 ^ u
  half_room =
      let all : a * 2 ^ k ≤ (b + b) * 2 ^ k = mul-le-mul_right {m = a} {n = b + b} (2 ^ k) (omega (arith, half)) in
      let parted = add-mul b b (2 ^ k) in
      let twice : b * 2 ^ (suc k) ≡ b * (2 ^ k + 2 ^ k) = ap (λ (x : ℕ). b * x) (double k) in
      let again = mul-add b (2 ^ k) (2 ^ k) in
      let more : b * 2 ^ (suc k) ≤ b * 2 ^ u = mul-le-mul_left {m = 2 ^ (suc k)} {n = 2 ^ u} b (pow_mono {i = suc k} {j = u} fewer) in
      omega (arith, all, parted, twice, again, more)

  counted_half : (old new : Diagrams) → IsCounted k a old new → IsCounted u b old new
  counted_half old new x = record {
    budget = x.budget;
    more = x.more;
    is = x.is;
    few = omega (arith, x.few, half_room);
    early = λ i low high. (let tests = x.early i low high in omega (arith, tests, fewer));
  }

  pub spends_half : {A : Type 0} (out : Span) (old new : Diagrams) (r : Result A Spent) → Spends k a out old new r → Spends u b out old new r
  spends_half out old new r x = record {
    counts = record {
      added = counted_half old new x.counts.added;
      refused = if_err_more (IsSpentBy k a old new) (IsSpentBy u b old new) r (λ s w. record {
        number = w.number;
        full = w.full;
        passed = omega (arith, w.passed, half_room);
        few_variables = λ low. w.few_variables (omega (arith, low, fewer));
      }) x.counts.refused;
    };
    within = if_ok_more _ _ r (λ v all j lt. within_more k u (meaning new.nodes (word_at new out j)) (omega (arith, fewer)) (all j lt)) x.within;
  }
