-- The old bits of elements, one after the other, and what is made of them with the inputs.
use Rattle.std.proofs.Common.{◌≡◌, ℕ, ◌+◌, ◌<◌, arith, sym, subst, ◌∙◌, inl, inr}
use Rattle.std.specs.Prelude.{◌≢◌}
use Rattle.std.proofs.lemmas.Bool.{cases_eq}
use Rattle.node_pool.specs.declared.region.Span.{Span}
use Rattle.bdd_core.specs.Diagram.{Valuation}
use Rattle.bdd_core.specs.Store.{Diagrams}
use Rattle.bdd_core.specs.Words.{IsFilled, Writes, shows, word_at}
use Rattle.bdd_core.proofs.Frames.{shows_kept}

-- an element more
pub elements_more : (held : Span) (old new : Diagrams) (e first : ℕ) → e < held.len → IsFilled old held → Writes held old new
    → ((k : ℕ) → k ≢ e → word_at new held k ≡ word_at old held k) → ((v : Valuation) → shows new held e v ≡ v (first + e))
    → ((j : ℕ) → j < e → (v : Valuation) → shows old held j v ≡ v (first + j)) → (j : ℕ) → j < e + 1 → (v : Valuation) → shows new held j v ≡ v (first + j)
elements_more held old new e first inside live w apart here before j lt v = elim (cases_eq j e) [
  | inl same ↦ subst (λ (n : ℕ). shows new held n v ≡ v (first + n)) (sym same) (here v)
  | inr ne ↦
      let below : j < e = omega (arith, lt, ne) in
      shows_kept held held old new j v w (apart j ne) (live j (omega (arith, below, inside))) ∙ before j below v
]
