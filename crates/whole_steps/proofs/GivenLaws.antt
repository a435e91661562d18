-- Words that are written one by one: for each item of a list the word of its signal.
use Rattle.std.proofs.Common.{◌≡◌, ◌≢◌, ℕ, ◌+◌, ◌<◌, List, cond, length, arith, ap, sym, subst, ◌∙◌, inl, inr}
use Rattle.std.specs.Prelude.{slice_get}
use Rattle.std.proofs.lemmas.Bool.{cases_eq}
use Rattle.std.proofs.lemmas.Option.{same_Some}
use Rattle.node_pool.specs.declared.region.Span.{Span}
use Rattle.bdd_core.specs.Diagram.{IsWithin, meaning}
use Rattle.bdd_core.specs.Store.{Diagrams}
use Rattle.bdd_core.proofs.Frames.{word_beside}
use Rattle.bdd_core.specs.Words.{IsApart, IsFilled, Writes, word_at}
use Rattle.bdd_ops.proofs.WithinLaws.{span_kept, within_zero}
use Rattle.bdd_ops.specs.Counting.{IsSpanWithin}
use Rattle.vrt_model.proofs.Members.{all_among, among_either}
use Rattle.vrt_model.specs.Lists.{At, Among}
use Rattle.vrt_model.specs.Reading.{clock_bit}
use Rattle.vrt_model.specs.declared.pairing.ClockedSignal.{ClockedSignal}
use Rattle.vrt_model.specs.declared.rules.Phase.{Phase}
use Rattle.vrt_model.specs.declared.whole.Whole.{Whole}
use Rattle.vrt_model.specs.declared.whole.WholePin.{WholePin}
use Rattle.whole_steps.specs.Logic.{IsLogicWhole, IsModelInput}
use Rattle.whole_steps.specs.Words.{AreGiven}

module _ (X : Type 0) (items : List X) (signal word : X → ℕ) (given : Span) where
  -- the items before a place have their words
  abbrev pub HaveWords : ℕ → Diagrams → Type 0
  HaveWords upto d = (j : ℕ) (x : X) → j < upto → At items j x → word_at d given (signal x) ≡ word x

  -- words of signals of no item stay
  abbrev pub KeepsOthers : Diagrams → Diagrams → Type 0
  KeepsOthers old new = (s : ℕ) → ((x : X) → Among items x → signal x ≢ s) → word_at new given s ≡ word_at old given s

  module _ (old new : Diagrams) (i : ℕ) (x : X) (there : At items i x) (here : word_at new given (signal x) ≡ word x)
      (others : (s : ℕ) → s ≢ signal x → word_at new given s ≡ word_at old given s) where
    -- an item more
    pub words_more : ((a b : X) → Among items a → Among items b → signal a ≡ signal b → word a ≡ word b) → HaveWords i old → HaveWords (i + 1) new
    words_more one before j y lt at = elim (cases_eq (signal y) (signal x)) [
      | inl e ↦ ap (λ (s : ℕ). word_at new given s) e ∙ here ∙ one x y (i, there) (j, at) (sym e)
      | inr ne ↦
          let other : j ≢ i = λ same. ne (ap signal (same_Some y x (sym at ∙ (ap (λ (m : ℕ). slice_get items m) same ∙ there)))) in
          others (signal y) ne ∙ before j y (omega (arith, lt, other)) at
    ]

    pub others_more : (first : Diagrams) → KeepsOthers first old → KeepsOthers first new
    others_more first kept s none = others s (λ e. none x (i, there) (sym e)) ∙ kept s none

-- a word more whose handle reads only the first u variables
pub within_more : (u : ℕ) (given : Span) (old new : Diagrams) (at : ℕ) → new ≡ record old { words = new.words } → IsWithin u (meaning old.nodes (word_at new given at))
    → ((s : ℕ) → s ≢ at → word_at new given s ≡ word_at old given s) → IsSpanWithin u old given → IsSpanWithin u new given
within_more u given old new at rest here others all k lt = elim (cases_eq k at) [
  | inl e ↦ subst (λ (m : ℕ). IsWithin u (meaning new.nodes (word_at new given m))) (sym e) (subst (λ ns. IsWithin u (meaning ns (word_at new given at))) (sym nodes) here)
  | inr ne ↦ subst (λ (h : ℕ). IsWithin u (meaning new.nodes h)) (sym (others k ne)) (subst (λ ns. IsWithin u (meaning ns (word_at old given k))) (sym nodes) (all k lt))
]
  where
    nodes : new.nodes ≡ old.nodes
    nodes = ap (λ (d : Diagrams). d.nodes) rest

-- handles beside read what they read
pub within_beside : (u : ℕ) (span out : Span) (old new : Diagrams) → Writes out old new → IsApart span out → IsFilled old span → IsSpanWithin u old span → IsSpanWithin u new span
within_beside u span out old new w apart live = span_kept u span old new (λ k lt. word_beside out span old new k w apart lt) (λ k lt. w.adds.kept (word_at old span k) (live k lt))

-- where the words are 0, nothing is read
pub zeros_within : (u : ℕ) (d : Diagrams) (span : Span) → ((k : ℕ) → k < span.len → word_at d span k ≡ 0) → IsSpanWithin u d span
zeros_within u d span zeros k lt = subst (λ (h : ℕ). IsWithin u (meaning d.nodes h)) (sym (zeros k lt)) (within_zero u d)

-- ---- what the model of a whole instance is given

module _ (w : Whole) (logic : IsLogicWhole w) where
  pub input_below : (s : ℕ) → IsModelInput w.model s → s < length w.model.signals
  input_below s m = elim (among_either w.model.inputs w.model.clocks s m) [
    | inl i ↦ all_among (λ (k : ℕ). k < length w.model.signals) w.model.inputs s logic.model.inputs i
    | inr c ↦ all_among (λ (k : ℕ). k < length w.model.signals) w.model.clocks s logic.model.clocks c
  ]

  pub clock_below : (c : ClockedSignal) → Among w.clocked c → c.signal < length w.model.signals
  clock_below c m = input_below c.signal (logic.clocked c m)

  pub pin_below : (p : WholePin) → Among w.inputs p → p.signal < length w.model.signals
  pin_below p m = input_below p.signal (logic.tied p m)

  -- after the words were cleared, those of the clocks and then those of the pins were written
  pub are_given : (phase : Phase) (gates given : Span) (old cleared clocked new : Diagrams) → given.len ≡ length w.model.signals + 1
      → ((k : ℕ) → k < given.len → word_at cleared given k ≡ 0)
      → ((c : ClockedSignal) → Among w.clocked c → word_at clocked given c.signal ≡ cond (clock_bit phase c.clock) 1 0)
      → ((s : ℕ) → ((c : ClockedSignal) → Among w.clocked c → c.signal ≢ s) → word_at clocked given s ≡ word_at cleared given s)
      → ((p : WholePin) → Among w.inputs p → word_at new given p.signal ≡ word_at clocked gates p.net.0)
      → ((s : ℕ) → ((p : WholePin) → Among w.inputs p → p.signal ≢ s) → word_at new given s ≡ word_at clocked given s)
      → ((p : WholePin) → Among w.inputs p → word_at clocked gates p.net.0 ≡ word_at old gates p.net.0)
      → AreGiven w phase gates given old new
  are_given phase gates given old cleared clocked new len zeros clocks others pins rest same = record {
    clocked = λ c m. rest c.signal (λ p l e. logic.apart c p m l (sym e)) ∙ clocks c m;
    tied = λ p m. pins p m ∙ same p m;
    default =
        rest (length w.model.signals) (λ p m e. let lt = pin_below p m in omega (arith, lt, e))
        ∙ others (length w.model.signals) (λ c m e. let lt = clock_below c m in omega (arith, lt, e)) ∙ zeros (length w.model.signals) (omega (arith, len));
  }
