-- Counts of the operations on nets, parts and circuits.
use Rattle.std.proofs.Common.{◌≡◌, ℕ, ◌+◌, ◌*◌, ◌<◌, ◌≤◌, Bool, true, false, Option, Some, None, List, take, Result, Ok, IfErr, length, slice_index, arith, ap, sym, subst, ◌∙◌}
use Rattle.std.specs.Prelude.{sum_by}
use Rattle.std.proofs.lemmas.List.Sums.{sum_by_more}
use Rattle.std.proofs.lemmas.Option.{get_or_from_slice_get, slice_get_within}
use Rattle.node_pool.specs.declared.region.Node.{Node}
use Rattle.node_pool.specs.declared.region.Span.{Span}
use Rattle.bdd_core.proofs.Bound.{within_place}
use Rattle.bdd_core.proofs.Results.{if_err_more}
use Rattle.bdd_core.specs.Diagram.{Function, IsReduced, IsWithin, choice, meaning, top}
use Rattle.bdd_core.specs.Store.{Diagrams, IsLive, Makes, function_of, AddsNodes}
use Rattle.bdd_core.specs.Words.{IsApart, IsFilled, word_at, WritesTwo}
use Rattle.bdd_core.specs.declared.handle.H.{H}
use Rattle.bdd_core.specs.declared.handle.Spent.{Spent}
use Rattle.bdd_ops.proofs.CountingLaws.{counts_made, counts_then}
use Rattle.bdd_ops.proofs.WithinLaws.{span_kept, within_and, within_choice, within_one, within_same, within_zero}
use Rattle.bdd_ops.specs.Counting.{Counts, IsSpanWithin, IsSpentBy}
use Rattle.bdd_ops.specs.Ops.{and_of}
use Rattle.bdd_core.proofs.Frames.{adds_words, two_word}
use Rattle.circuit_faults.proofs.ScanLaws.{slot_word}
use Rattle.circuit_faults.specs.Operations.{IsUsedUp}
use Rattle.circuit_faults.specs.Results.{first_word}
use Rattle.path_fixpoint.specs.Reaching.{slot_of}
use Rattle.path_fixpoint.specs.Strengths.{word_of}
use Rattle.vrt_model.specs.Lists.{At}
use Rattle.path_fixpoint.specs.declared.words.NetWords.{NetWords}
use Rattle.path_fixpoint.specs.Strengths.{net_words}

-- a reduced diagram reads only the variables of its store
pub reads_variables : (d : Diagrams) (k : ℕ) → IsReduced d.vars d.nodes → k < length d.nodes → IsWithin d.vars (meaning d.nodes k)
unfolding top
reads_variables d k sound lt = within_place d.vars d.vars d.nodes k sound (λ i high below. (sound.proper i high below).var_below) lt

-- the handles of a span after a step that adds nodes alone
pub span_within : (u : ℕ) (span : Span) (first old : Diagrams) → AddsNodes first old → IsFilled first span → IsSpanWithin u first span → IsSpanWithin u old span
span_within u span first old adds live all = span_kept u span first old
    (λ k lt. ap (λ (ws : List ℕ). slice_index ws (span.start + k)) (adds_words first old first.words adds)) (λ k lt. adds.kept (word_at first span k) (live k lt)) all

-- a refusal of counted operations
pub used_counted : {A : Type 0} (u operations : ℕ) (old new : Diagrams) (r : Result A Spent) → Counts u operations old new r → IfErr r (IsUsedUp old new)
used_counted u operations old new r c = if_err_more (IsSpentBy u operations old new) (IsUsedUp old new) r (λ s w. (w.number, w.full)) c.refused

-- the sum so far and the operations of the next item
pub sum_next : {X : Type 0} (f : X → ℕ) (xs : List X) (k : ℕ) (x : X) → At xs k x → sum_by f (take (k + 1) xs) ≡ sum_by f (take k xs) + f x
sum_next f xs k x there =
    sum_by_more f xs k x (slice_get_within xs k x there) ∙ ap (λ y. sum_by f (take k xs) + f y) (get_or_from_slice_get xs k x x there)

module _ (u : ℕ) where
  -- ---- a net

  pub kept_within : (old new : Diagrams) (h : H) → AddsNodes old new → IsLive old h → IsWithin u (function_of old h) → IsWithin u (function_of new h)
  kept_within old new h adds live w = within_same u (function_of old h) (function_of new h) (adds.kept h.0 live) w

  -- two operations
  counts_two : (old mid new : Diagrams) (f g : Function) (h : H) (r : Result H Spent) → 2 ≤ length old.nodes → Makes old mid f (Ok h) → IsWithin u f → Makes mid new g r → IsWithin u g
      → Counts u 2 old new r
  counts_two old mid new f g h r two first reads second reads' =
      let longer = first.adds.longer in
      counts_then u 1 1 old mid new r (counts_made u old mid two f (Ok h) first reads).added (counts_made u mid new (omega (arith, two, longer)) g r second reads')

  module _ (old mid new : Diagrams) (care : H) (f : Function) (h : H) (r : Result H Spent) (two : 2 ≤ length old.nodes) (care_live : IsLive old care) (care_in : IsWithin u (function_of old care))
      (first : Makes old mid f (Ok h)) (reads : IsWithin u f) where
    care_mid : IsWithin u (function_of mid care)
    care_mid = kept_within old mid care first.adds care_live care_in

    made_mid : IsWithin u (function_of mid h)
    made_mid = within_same u f (function_of mid h) first.ok.same reads

    pub counts_fight : Makes mid new (and_of (function_of mid care) (function_of mid h)) r → Counts u 2 old new r
    counts_fight second = counts_two old mid new f (and_of (function_of mid care) (function_of mid h)) h r two first reads second (within_and u (function_of mid care) (function_of mid h) care_mid made_mid)

    pub counts_float : Makes mid new (choice (function_of mid h) (meaning mid.nodes 0) (function_of mid care)) r → Counts u 2 old new r
    counts_float second =
        counts_two old mid new f (choice (function_of mid h) (meaning mid.nodes 0) (function_of mid care)) h r two first reads second
        (within_choice u (function_of mid h) (meaning mid.nodes 0) (function_of mid care) made_mid (within_zero u mid) care_mid)

  -- ---- the words of a part

  pub reach_within : (d : Diagrams) (out : NetWords) (value : Bool) (place : ℕ) (h : H) → h.0 ≡ word_at d out.span (word_of out (slot_of out value) place)
      → net_words out.source * place + net_words out.source ≤ out.span.len → IsSpanWithin u d out.span
      → IsWithin u (function_of d h)
  reach_within d out value place h is fits all = subst (λ (k : ℕ). IsWithin u (meaning d.nodes k)) (sym is) (all (word_of out (slot_of out value) place) (slot_word out value place fits))

  -- ---- a circuit

  first_within : (d : Diagrams) (known : Option Bool) (root : ℕ) → IsWithin u (meaning d.nodes root) → IsWithin u (meaning d.nodes (first_word known root))
  first_within d (Some true) root w = within_one u d
  first_within d (Some false) root w = within_zero u d
  first_within d None root w = w

  pub opened_within : (roots gates : Span) (known : ℕ → Option Bool) (old new : Diagrams) → gates.len ≤ roots.len → new.nodes ≡ old.nodes
      → ((n : ℕ) → n < gates.len → word_at new gates n ≡ first_word (known n) (word_at old roots n)) → IsSpanWithin u old roots → IsSpanWithin u new gates
  opened_within roots gates known old new len nodes first all k lt =
      subst (λ (ns : List Node). IsWithin u (meaning ns (word_at new gates k))) (sym nodes)
      (subst (λ (h : ℕ). IsWithin u (meaning old.nodes h)) (sym (first k lt)) (first_within old (known k) (word_at old roots k) (all k (omega (arith, lt, len)))))

  pub roots_within : (a b span : Span) (old new : Diagrams) → WritesTwo a b old new → IsApart span a → IsApart span b → IsFilled old span → IsSpanWithin u old span → IsSpanWithin u new span
  roots_within a b span old new w apart_a apart_b live all =
      span_kept u span old new (λ k lt. two_word a b span old new w apart_a apart_b k lt) (λ k lt. w.adds.kept (word_at old span k) (live k lt)) all
