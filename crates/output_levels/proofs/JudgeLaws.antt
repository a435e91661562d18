-- The places of a part, judged one after the other.
use Rattle.std.proofs.Common.{◌≡◌, ℕ, ◌+◌, ◌*◌, ◌<◌, ◌≤◌, Bool, List, Option, Some, None, get_or, length, arith, ap, refl, sym, subst, ◌∙◌, inl, inr}
use Rattle.std.proofs.lemmas.Bool.{cases_eq}
use Rattle.std.proofs.lemmas.Option.{slice_get-get_or}
use Rattle.bdd_core.proofs.Frames.{word_added}
use Rattle.bdd_core.specs.Diagram.{Function, Valuation, meaning}
use Rattle.bdd_core.specs.Store.{AddsNodes, Diagrams, IsLive, function_of}
use Rattle.bdd_core.specs.Words.{IsFilled, word_at}
use Rattle.bdd_core.specs.declared.handle.H.{H}
use Rattle.bdd_ops.proofs.WithinLaws.{span_kept}
use Rattle.bdd_ops.specs.Counting.{IsSpanWithin}
use Rattle.channel_parts.specs.declared.part.Part.{Part}
use Rattle.node_pool.specs.declared.region.Span.{Span}
use Rattle.output_levels.proofs.AlwaysLaws.{word_range}
use Rattle.output_levels.specs.Always.{AreStrengths, LevelGives, strong_at}
use Rattle.output_levels.specs.PartLevels.{AreJudged, IsPlaceJudged, PlaceTells, level_at}
use Rattle.path_fixpoint.proofs.Places.{place_once}
use Rattle.path_fixpoint.specs.Parts.{IsPlace}
use Rattle.path_fixpoint.specs.Strengths.{net_words, word_of}
use Rattle.vrt_model.specs.Lists.{At, mark_at}
use Rattle.vrt_model.specs.declared.ids.Net.{Net}
use Rattle.path_fixpoint.specs.declared.words.NetWords.{NetWords}

-- the net at a place of a list
pub net_at : (nets ys : List Net) (i : ℕ) (d : Net) → ys ≡ nets → i < length ys → At nets i (get_or ys i d)
net_at nets ys i d same lt = subst (λ (xs : List Net). At xs i (get_or ys i d)) same (slice_get-get_or ys i d lt)

-- a level holds at equal care
pub level_same : (care other : Function) → ((v : Valuation) → care v ≡ other v) → (s : Valuation → ℕ) (found : Option ℕ) → LevelGives care s found → LevelGives other s found
level_same care other same s (Some level) gives = λ v here. gives v (same v ∙ here)
level_same care other same s None gives = λ level all. gives level (λ v here. all v (sym (same v) ∙ here))

-- ---- a store to which nodes were added

module _ (first now : Diagrams) (adds : AddsNodes first now) (care : H) (care_live : IsLive first care) (out : NetWords) (filled : IsFilled first out.span) (place : ℕ)
    (range : net_words out.source * place + net_words out.source ≤ out.span.len) where
  care_same : (v : Valuation) → function_of now care v ≡ function_of first care v
  care_same v = adds.kept care.0 care_live v

  strong_same : (level : ℕ) → level ≤ out.source → (v : Valuation) → strong_at now out place level v ≡ strong_at first out place level v
  strong_same level high v =
      ap (λ (h : ℕ). meaning now.nodes h v) (word_added out.span first now (word_of out level place) adds)
      ∙ adds.kept (word_at first out.span (word_of out level place)) (filled (word_of out level place) (word_range out level place high range)) v

  strengths_on : (s : Valuation → ℕ) → AreStrengths out.source (function_of first care) (strong_at first out place) s → AreStrengths out.source (function_of now care) (strong_at now out place) s
  strengths_on s are = record {
    most = λ v here. are.most v (sym (care_same v) ∙ here);
    says = λ v level here low high.
        let same = strong_same level high v in
        let says = are.says v level (sym (care_same v) ∙ here) low high in
        (λ e. says.0 (sym same ∙ e), λ le. same ∙ says.1 le);
  }

  -- what the words of a place tell then, they told at first
  pub place_first : (found : Option ℕ) → PlaceTells out.source (function_of now care) (strong_at now out place) found → PlaceTells out.source (function_of first care) (strong_at first out place) found
  place_first found tells s are = level_same (function_of now care) (function_of first care) care_same s found (tells s (strengths_on s are))

  pub judged_first : (asked : List Bool) (net : ℕ) (old new : List (Option ℕ)) → IsPlaceJudged out.source asked (function_of now care) (strong_at now out place) net old new
      → IsPlaceJudged out.source asked (function_of first care) (strong_at first out place) net old new
  judged_first asked net old new is = record { told = λ mark. place_first (level_at new net) (is.told mark); others = is.others }

-- ---- one place more

module _ (source : ℕ) (part : Part) (asked : List Bool) (care : Function) (is_strong : ℕ → ℕ → Function) where
  pub judged_none : (levels : List (Option ℕ)) → AreJudged source part asked care is_strong 0 levels levels
  judged_none levels = record { told = λ i n lt p mark. absurd (omega (arith, lt)); others = λ n none. refl }

  pub judged_more : (once : (i j n : ℕ) → IsPlace part i n → IsPlace part j n → i ≡ j) (k net : ℕ) → IsPlace part k net → (old mid new : List (Option ℕ))
      → AreJudged source part asked care is_strong k old mid → IsPlaceJudged source asked care (is_strong k) net mid new → AreJudged source part asked care is_strong (k + 1) old new
  judged_more once k net here old mid new before step = record {
    told = λ i n lt p mark. elim (cases_eq i k) [
      | inl e ↦
          let same : net ≡ n = place_once part k net n here (subst (λ (j : ℕ). IsPlace part j n) e p) in
          let told = step.told (ap (mark_at asked) same ∙ mark) in
          subst (λ (j : ℕ). PlaceTells source care (is_strong j) (level_at new n)) (sym e) (subst (λ (m : ℕ). PlaceTells source care (is_strong k) (level_at new m)) same told)
      | inr ne ↦
          let stays = step.others n (λ e on. ne (once i k n p (subst (IsPlace part k) (sym e) here))) in
          subst (PlaceTells source care (is_strong i)) (sym stays) (before.told i n (omega (arith, lt, ne)) p mark)
    ];
    others = λ n none.
        step.others n (λ e on. none k (omega arith) (subst (IsPlace part k) (sym e) here) on)
        ∙ before.others n (λ i lt. none i (omega (arith, lt)));
  }

-- ---- what the words of a part read

pub words_within : (u : ℕ) (out : Span) (first now : Diagrams) → AddsNodes first now → IsFilled first out → IsSpanWithin u first out → IsSpanWithin u now out
words_within u out first now adds live all =
    span_kept u out first now (λ k lt. word_added out first now k adds) (λ k lt. adds.kept (word_at first out k) (live k lt)) all
