-- A signal that is let pass level by level, where it fits the strengths.
use Rattle.std.proofs.Common.{◌≡◌, ℕ, ◌+◌, ◌*◌, ◌<◌, ◌≤◌, Bool, true, false, cond, ◌&&◌, List, Option, Some, None, get_or, arith, ap, refl, sym, subst, ◌∙◌, inl, inr}
use Rattle.std.specs.Prelude.{IfSome, ◌↔◌}
use Rattle.std.proofs.lemmas.Bool.{cases_lt, false≢true}
use Rattle.bdd_core.specs.Diagram.{Valuation}
use Rattle.bdd_core.specs.Store.{Diagrams}
use Rattle.path_fixpoint.specs.Strengths.{strong, strong_end, word_of}
use Rattle.bdd_core.specs.Words.{IsFilled, Writes}
use Rattle.bdd_core.proofs.Frames.{shows_kept}
use Rattle.path_fixpoint.specs.declared.words.NetWords.{NetWords}
use Rattle.path_fixpoint.specs.Strengths.{net_words}

-- a bit that is held back by another where a third is set
pub limit_bits : (x h o : Bool) → (cond h (x && o) x ≡ true) ↔ ((x ≡ true) × (h ≡ true → o ≡ true))
limit_bits true true o = (λ e. (refl, λ t. e), λ q. q.1 refl)
limit_bits true false o = (λ e. (refl, λ t. absurd (false≢true t)), λ q. refl)
limit_bits false true o = (λ e. absurd (false≢true e), λ q. absurd (false≢true q.0))
limit_bits false false o = (λ e. absurd (false≢true e), λ q. absurd (false≢true q.0))

module _ (first old : Diagrams) (out : NetWords) (v : Valuation) (writes : Writes out.span first old) (words : old.words ≡ first.words) (live : IsFilled first out.span) where
  pub strong_old : (level i : ℕ) → 1 ≤ level → level ≤ out.source → net_words out.source * i + net_words out.source ≤ out.span.len → strong old out level i v ≡ strong first out level i v
  strong_old level i low high fits =
      shows_kept out.span out.span first old (word_of out level i) v writes (ap (λ (ws : List ℕ). get_or ws (out.span.start + word_of out level i) 0) words) (live (word_of out level i) (omega (arith, low, high, fits)))

  pub end_old : (level : ℕ) (from : Option ℕ) → 1 ≤ level → level ≤ out.source → IfSome from (λ i. net_words out.source * i + net_words out.source ≤ out.span.len) → strong_end old out level from v ≡ strong_end first out level from v
  end_old level None low high fits = refl
  end_old level (Some i) low high fits = strong_old level i low high fits

  -- the fit at one level more
  pub fits_more : (from : Option ℕ) (to device below : ℕ) (sure : Type 0) (now next here other : Bool) → below < out.source → IfSome from (λ i. net_words out.source * i + net_words out.source ≤ out.span.len) → net_words out.source * to + net_words out.source ≤ out.span.len
      → (now ≡ true) ↔ (sure × ((level : ℕ) → 1 ≤ level → level < below + 1 → strong first out level to v ≡ true → (level ≤ device) × (strong_end first out level from v ≡ true)))
      → here ≡ strong old out (below + 1) to v → (other ≡ true) ↔ ((below + 1 ≤ device) × (strong_end old out (below + 1) from v ≡ true))
      → (next ≡ true) ↔ ((now ≡ true) × (here ≡ true → other ≡ true))
      → (next ≡ true) ↔ (sure × ((level : ℕ) → 1 ≤ level → level < below + 1 + 1 → strong first out level to v ≡ true → (level ≤ device) × (strong_end first out level from v ≡ true)))
  fits_more from to device below sure now next here other lt from_fits to_fits so_far here_is other_is step =
      let to_old = strong_old (below + 1) to (omega arith) (omega (arith, lt)) to_fits in
      let from_old = end_old (below + 1) from (omega arith) (omega (arith, lt)) from_fits in (
        λ e.
            let a = step.0 e in
            let q = so_far.0 a.0 in (
              q.0,
              λ level low le str. elim (cases_lt level (below + 1)) [
                | inl less ↦ q.1 level low less str
                | inr ge ↦
                    let at : below + 1 ≡ level = omega (arith, ge, le) in
                    let str' : strong first out (below + 1) to v ≡ true = subst (λ (x : ℕ). strong first out x to v ≡ true) (sym at) str in
                    let o = other_is.0 (a.1 (here_is ∙ to_old ∙ str')) in
                    subst (λ (x : ℕ). (x ≤ device) × (strong_end first out x from v ≡ true)) at (o.0, sym from_old ∙ o.1)
              ],
            ),
        λ q. step.1 (
          so_far.1 (q.0, λ level low le. q.1 level low (omega (arith, le))),
          λ h.
              let o = q.1 (below + 1) (omega arith) (omega arith) (sym to_old ∙ sym here_is ∙ h) in
              other_is.1 (o.0, from_old ∙ o.1),
        ),
      )
