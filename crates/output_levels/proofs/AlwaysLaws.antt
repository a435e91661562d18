-- A function is constant in a care set exactly where one handle is that of the constant 0.
use Rattle.std.proofs.Common.{◌≡◌, ◌↔◌, ℕ, ◌+◌, ◌*◌, ◌<◌, ◌≤◌, ◌&&◌, Bool, true, false, cond, eqb, length, arith, ap, refl, sym, ◌∙◌}
use Rattle.std.proofs.lemmas.Bool.{eq-eqb, eqb-true, false≢true}
use Rattle.bdd_core.proofs.Meaning.{meaning_zero}
use Rattle.bdd_core.specs.Diagram.{Function, IsReduced, IsWithin, Valuation, choice, meaning}
use Rattle.bdd_core.specs.Store.{AddsNodes, Diagrams, IsCanonical, IsLive, Means, function_of}
use Rattle.bdd_ops.proofs.WithinLaws.{within_same}
use Rattle.path_fixpoint.specs.Strengths.{net_words, word_of}
use Rattle.bdd_core.specs.Words.{Writes}
use Rattle.bdd_core.specs.declared.handle.H.{H}
use Rattle.node_pool.specs.declared.region.Span.{Span}
use Rattle.bdd_ops.specs.Ops.{and_of}
use Rattle.output_levels.specs.Always.{IsAlways, IsNever}
use Rattle.path_fixpoint.specs.declared.words.NetWords.{NetWords}

module _ (d : Diagrams) (h : H) (f : Function) (means : Means d h f) (canonical : IsCanonical d) (ends : 2 ≤ length d.nodes) where
  zero_then : h.0 ≡ 0 → (v : Valuation) → f v ≡ false
  zero_then e v = sym (means.same v) ∙ ap (λ (k : ℕ). meaning d.nodes k v) e ∙ meaning_zero d.nodes v

  zero_from : ((v : Valuation) → f v ≡ false) → h.0 ≡ 0
  zero_from none =
      let zero : H = record { 0 = 0 } in
      (canonical h zero means.live (omega (arith, ends))).0 (λ v. means.same v ∙ none v ∙ sym (meaning_zero d.nodes v))

  -- the test of the handle says whether the function is 0 everywhere
  zero_test : (eqb h.0 0 ≡ true) ↔ ((v : Valuation) → f v ≡ false)
  zero_test = (λ e. zero_then (eqb-true h.0 0 e), λ none. eq-eqb h.0 0 (zero_from none))

-- where one lacks what another has
lacks_none : (b care : Bool) → (cond b false care ≡ false) ↔ (care ≡ true → b ≡ true)
lacks_none true care = (λ e c. refl, λ all. refl)
lacks_none false true = (λ e c. absurd (false≢true (sym e)), λ all. absurd (false≢true (all refl)))
lacks_none false false = (λ e c. absurd (false≢true c), λ all. refl)

both_none : (b care : Bool) → ((care && b) ≡ false) ↔ (care ≡ true → b ≡ false)
both_none b true = (λ e c. e, λ none. none refl)
both_none b false = (λ e c. absurd (false≢true c), λ none. refl)

module _ (old new : Diagrams) (care f h : H) (canonical : IsCanonical new) (ends : 2 ≤ length new.nodes) where
  pub always_test : Means new h (choice (function_of old f) (meaning old.nodes 0) (function_of old care)) → (eqb h.0 0 ≡ true) ↔ IsAlways (function_of old care) (function_of old f)
  always_test m =
      let test = zero_test new h (choice (function_of old f) (meaning old.nodes 0) (function_of old care)) m canonical ends in
      let zero : (v : Valuation) → cond (function_of old f v) (meaning old.nodes 0 v) (function_of old care v) ≡ cond (function_of old f v) false (function_of old care v) =
      λ v. ap (λ (b : Bool). cond (function_of old f v) b (function_of old care v)) (meaning_zero old.nodes v) in (
        λ e v. (lacks_none (function_of old f v) (function_of old care v)).0 (sym (zero v) ∙ test.0 e v),
        λ all. test.1 (λ v. zero v ∙ (lacks_none (function_of old f v) (function_of old care v)).1 (all v)),
      )

  pub never_test : Means new h (and_of (function_of old care) (function_of old f)) → (eqb h.0 0 ≡ true) ↔ IsNever (function_of old care) (function_of old f)
  never_test m =
      let test = zero_test new h (and_of (function_of old care) (function_of old f)) m canonical ends in (
        λ e v. (both_none (function_of old f v) (function_of old care v)).0 (test.0 e v),
        λ none. test.1 (λ v. (both_none (function_of old f v) (function_of old care v)).1 (none v)),
      )

-- the constants are there
pub nodes_ends : (d : Diagrams) → IsReduced d.vars d.nodes → 2 ≤ length d.nodes
nodes_ends d sound = sound.ends

-- a handle reads no more variables where nodes were added
pub kept_care : (u : ℕ) (old new : Diagrams) (h : H) → AddsNodes old new → IsLive old h → IsWithin u (function_of old h) → IsWithin u (function_of new h)
kept_care u old new h adds live w = within_same u (function_of old h) (function_of new h) (adds.kept h.0 live) w

-- the word of a level is one of the words of its place
pub word_range : (out : NetWords) (level place : ℕ) → level ≤ out.source → net_words out.source * place + net_words out.source ≤ out.span.len → word_of out level place < out.span.len
word_range out level place most fits = omega (arith, most, fits)

pub written_care : (u : ℕ) (out : Span) (old new : Diagrams) (h : H) → Writes out old new → IsLive old h → IsWithin u (function_of old h) → IsWithin u (function_of new h)
written_care u out old new h w live within = within_same u (function_of old h) (function_of new h) (w.adds.kept h.0 live) within
