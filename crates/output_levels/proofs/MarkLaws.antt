-- The words of a net in a store to which nodes were added.
use Rattle.std.proofs.Common.{◌≡◌, ℕ, ◌<◌, ap, sym, ◌∙◌}
use Rattle.bdd_core.proofs.Frames.{word_added}
use Rattle.bdd_core.specs.Diagram.{IsWithin, Valuation, meaning}
use Rattle.bdd_core.specs.Store.{AddsNodes, Diagrams, IsLive, function_of}
use Rattle.bdd_core.specs.Words.{IsFilled, word_at}
use Rattle.bdd_core.specs.declared.handle.H.{H}
use Rattle.bdd_ops.proofs.WithinLaws.{within_same}
use Rattle.bdd_ops.specs.Counting.{IsSpanWithin}
use Rattle.output_levels.specs.Always.{IsAlways, IsNever, strong_at}
use Rattle.path_fixpoint.specs.Strengths.{word_of}
use Rattle.path_fixpoint.specs.declared.words.NetWords.{NetWords}

module _ (first now : Diagrams) (adds : AddsNodes first now) (care : H) (care_live : IsLive first care) (out : NetWords) (filled : IsFilled first out.span) (place level : ℕ)
    (range : word_of out level place < out.span.len) (mark : H) (is : mark.0 ≡ word_at now out.span (word_of out level place)) where
  mark_shows : (v : Valuation) → function_of now mark v ≡ strong_at first out place level v
  mark_shows v =
      ap (λ (h : ℕ). meaning now.nodes h v) (is ∙ word_added out.span first now (word_of out level place) adds) ∙ adds.kept (word_at first out.span (word_of out level place)) (filled (word_of out level place) range) v

  care_shows : (v : Valuation) → function_of now care v ≡ function_of first care v
  care_shows v = adds.kept care.0 care_live v

  pub always_back : IsAlways (function_of now care) (function_of now mark) → IsAlways (function_of first care) (strong_at first out place level)
  always_back always v here = sym (mark_shows v) ∙ always v (care_shows v ∙ here)

  pub always_on : IsAlways (function_of first care) (strong_at first out place level) → IsAlways (function_of now care) (function_of now mark)
  always_on always v here = mark_shows v ∙ always v (sym (care_shows v) ∙ here)

  pub never_back : IsNever (function_of now care) (function_of now mark) → IsNever (function_of first care) (strong_at first out place level)
  never_back never v here = sym (mark_shows v) ∙ never v (care_shows v ∙ here)

  pub never_on : IsNever (function_of first care) (strong_at first out place level) → IsNever (function_of now care) (function_of now mark)
  never_on never v here = mark_shows v ∙ never v (sym (care_shows v) ∙ here)

  -- the handle reads what the word reads
  pub mark_within : (u : ℕ) → IsSpanWithin u first out.span → IsWithin u (function_of now mark)
  mark_within u all = within_same u (strong_at first out place level) (function_of now mark) mark_shows (all (word_of out level place) range)
