-- One word that shows a signal too, where the device conducts and the signal fits the strengths.
use Rattle.std.proofs.Common.{◌≡◌, ◌≢◌, ℕ, ◌+◌, ◌*◌, ◌<◌, ◌≤◌, Bool, true, ◌||◌, List, Option, Some, Ok, get_or, ap, sym, subst, ◌∙◌, inl, inr}
use Rattle.std.specs.Prelude.{◌↔◌, IfSome}
use Rattle.std.proofs.lemmas.Bool.{cases_eq, or_cases, and_parts, or_left, or_right, and_from}
use Rattle.std.proofs.lemmas.Option.{same_Some}
use Rattle.bdd_core.specs.declared.handle.H.{H}
use Rattle.bdd_core.specs.Diagram.{Valuation, meaning}
use Rattle.bdd_core.specs.Store.{Diagrams, Makes}
use Rattle.vrt_model.specs.Reading.{conducts_at}
use Rattle.vrt_model.specs.declared.design.Kind.{Kind}
use Rattle.path_fixpoint.specs.Passed.{IsWider, gated}
use Rattle.path_fixpoint.specs.Reaching.{FitsAt, PassesSignal, slot_of}
use Rattle.path_fixpoint.specs.Strengths.{strong, word_of}
use Rattle.bdd_core.specs.Words.{IsFilled, Writes, word_at}
use Rattle.path_fixpoint.proofs.Fitting.{end_old, strong_old}
use Rattle.bdd_core.proofs.Frames.{shows_kept, writes_then, adds_words, writes_added}
use Rattle.path_fixpoint.proofs.Places.{words_differ}
use Rattle.path_fixpoint.specs.declared.words.NetWords.{NetWords}
use Rattle.path_fixpoint.specs.Strengths.{net_words}

module _ (out : NetWords) (value : Bool) (kind : Kind) (gate signal : ℕ) (from : Option ℕ) (i device : ℕ) (old mid late new : Diagrams) (passed fits : H) (changed : Bool)
    (made : Makes old mid (gated kind (meaning old.nodes gate) (meaning old.nodes signal)) (Ok passed))
    (live : IsFilled old out.span) (fit_writes : Writes out.span mid late) (fit_words : late.words ≡ mid.words)
    (fits_is : (v : Valuation) → (meaning late.nodes fits.0 v ≡ true) ↔ ((meaning mid.nodes passed.0 v ≡ true) × FitsAt mid out from i device v))
    (wider : IsWider out.span (word_of out (slot_of out value) i) (meaning late.nodes fits.0) changed late new)
    (wrote : Writes out.span late new)
    (apart : (k : ℕ) → k ≢ word_of out (slot_of out value) i → word_at new out.span k ≡ word_at late out.span k)
    (inside : word_of out (slot_of out value) i < out.span.len) (to_fits : net_words out.source * i + net_words out.source ≤ out.span.len) (from_fits : IfSome from (λ j. net_words out.source * j + net_words out.source ≤ out.span.len)) where
  first : Writes out.span old mid
  first = writes_added out.span old mid live made.adds

  first_words : mid.words ≡ old.words
  first_words = adds_words old mid old.words made.adds

  before : Writes out.span old late
  before = writes_then out.span old mid late first fit_writes

  same_late : (j : ℕ) → word_of out (slot_of out value) j < out.span.len → (v : Valuation) → strong late out (slot_of out value) j v ≡ strong old out (slot_of out value) j v
  same_late j lt v = shows_kept out.span out.span old late (word_of out (slot_of out value) j) v before
      (ap (λ (ws : List ℕ). get_or ws (out.span.start + word_of out (slot_of out value) j) 0) (fit_words ∙ first_words)) (live (word_of out (slot_of out value) j) lt)

  other : (j : ℕ) → word_of out (slot_of out value) j < out.span.len → j ≢ i → (v : Valuation) → strong new out (slot_of out value) j v ≡ strong old out (slot_of out value) j v
  other j lt ne v = shows_kept out.span out.span late new (word_of out (slot_of out value) j) v wrote (apart (word_of out (slot_of out value) j) (λ e. ne (words_differ out (slot_of out value) j i e))) (before.live (word_of out (slot_of out value) j) lt) ∙ same_late j lt v

  -- the fit is the same before and after the first step
  fit_mid : (v : Valuation) → FitsAt old out from i device v → FitsAt mid out from i device v
  fit_mid v f level low high on =
      let h = f level low high (sym (strong_old old mid out v first first_words live level i low high to_fits) ∙ on) in
      (h.0, end_old old mid out v first first_words live level from low high from_fits ∙ h.1)

  fit_old : (v : Valuation) → FitsAt mid out from i device v → FitsAt old out from i device v
  fit_old v f level low high on =
      let h = f level low high (strong_old old mid out v first first_words live level i low high to_fits ∙ on) in
      (h.0, sym (end_old old mid out v first first_words live level from low high from_fits) ∙ h.1)

  here : (v : Valuation) → strong new out (slot_of out value) i v ≡ (strong old out (slot_of out value) i v || meaning late.nodes fits.0 v)
  here v = wider.here v ∙ ap (λ (a : Bool). a || meaning late.nodes fits.0 v) (same_late i inside v)

  pub passes_signal : PassesSignal out value kind gate signal from (Some i) device changed old new
  passes_signal = record {
    grown = λ j lt v e. elim (cases_eq j i) [
      | inl is ↦ subst (λ (x : ℕ). strong new out (slot_of out value) x v ≡ true) (sym is)
          (here v ∙ or_left (strong old out (slot_of out value) i v) (meaning late.nodes fits.0 v) (subst (λ (x : ℕ). strong old out (slot_of out value) x v ≡ true) is e))
      | inr ne ↦ other j lt ne v ∙ e
    ];
    passed = λ j is v on seen fit. subst (λ (x : ℕ). strong new out (slot_of out value) x v ≡ true) (same_Some i j is)
        (here v ∙ or_right (strong old out (slot_of out value) i v) (meaning late.nodes fits.0 v)
        ((fits_is v).1 (
          made.ok.same v ∙ and_from (conducts_at kind (meaning old.nodes gate v)) (meaning old.nodes signal v) on seen,
          fit_mid v (subst (λ (x : ℕ). FitsAt old out from x device v) (sym (same_Some i j is)) fit),
        )));
    only = λ j lt v e. elim (cases_eq j i) [
      | inl is ↦ elim (or_cases (strong old out (slot_of out value) i v) (meaning late.nodes fits.0 v) (sym (here v) ∙ subst (λ (x : ℕ). strong new out (slot_of out value) x v ≡ true) is e)) [
        | inl was ↦ inl (subst (λ (x : ℕ). strong old out (slot_of out value) x v ≡ true) (sym is) was)
        | inr added ↦
            let q = (fits_is v).0 added in
            let parts = and_parts (conducts_at kind (meaning old.nodes gate v)) (meaning old.nodes signal v) (sym (made.ok.same v) ∙ q.0) in
            inr (ap Some (sym is), parts.0, parts.1, subst (λ (x : ℕ). FitsAt old out from x device v) (sym is) (fit_old v q.1))
      ]
      | inr ne ↦ inl (sym (other j lt ne v) ∙ e)
    ];
    same = λ e. wider.same e ∙ fit_words ∙ first_words;
  }
