-- Where one wish is missed, and the wishes one after the other.
use Rattle.std.proofs.Common.{◌≡◌, ◌≢◌, ℕ, ◌+◌, ◌<◌, ◌≤◌, ◌&&◌, Bool, true, false, cond, List, Option, Some, None, Result, Ok, IfOk, length, slice_index, arith, ap, ap₂, refl, sym, subst, ◌∙◌, inl, inr}
use Rattle.std.specs.Prelude.{◌↔◌}
use Rattle.std.proofs.lemmas.Bool.{cases_eq, false≢true}
use Rattle.std.proofs.lemmas.Option.{same_Some}
use Rattle.node_pool.specs.declared.region.Span.{Span}
use Rattle.bdd_core.proofs.Frames.{adds_words, filled_added, span_added}
use Rattle.bdd_core.proofs.Meaning.{meaning_zero}
use Rattle.bdd_core.proofs.Results.{if_ok_more}
use Rattle.bdd_core.specs.Diagram.{Function, IsSame, IsWithin, Valuation, choice, meaning}
use Rattle.bdd_core.specs.Store.{AddsNodes, Diagrams, IsLive, Makes, Means, function_of}
use Rattle.bdd_core.specs.Words.{IsFilled, shows, word_at}
use Rattle.bdd_core.specs.declared.handle.H.{H}
use Rattle.bdd_core.specs.declared.handle.Spent.{Spent}
use Rattle.bdd_ops.proofs.CountingLaws.{counts_made, counts_then}
use Rattle.bdd_ops.proofs.WithinLaws.{span_kept, within_and, within_choice, within_not, within_same}
use Rattle.bdd_ops.specs.Counting.{Counts, IsSpanWithin}
use Rattle.bdd_ops.specs.Ops.{and_of, not_of}
use Rattle.phase_wishes.specs.Missed.{AreBits, AreWithin, IsCompared, IsComparedAt, IsFirstMissed, IsFreeInside, IsInside, IsMet, IsWithinBits, asked_in, is_turned, net_at, source_at, turned_of, wanted_at}
use Rattle.phase_wishes.specs.declared.missed.Opposites.{Opposites}
use Rattle.phase_wishes.specs.declared.missed.WishFault.{WishFault}
use Rattle.phase_wishes.specs.declared.wishes.Wanted.{Wanted}
use Rattle.phase_wishes.specs.declared.wishes.Wanted.TheVariants.{Signal, Element, Other, Constant}
use Rattle.phase_wishes.specs.declared.wishes.Wish.{Wish}
use Rattle.phase_wishes.specs.declared.wishes.WishBits.{WishBits}
use Rattle.vrt_model.specs.Lists.{At, differ}

-- ---- bits

pub differs_at : (care a b : Bool) → ((care && differ a b) ≡ true) ↔ ((care ≡ true) × (a ≢ b))
differs_at false a b = (λ e. absurd (false≢true e), λ h. absurd (false≢true h.0))
differs_at true true true = (λ e. absurd (false≢true e), λ h. absurd (h.1 refl))
differs_at true true false = (λ e. (refl, λ same. false≢true (sym same)), λ h. refl)
differs_at true false true = (λ e. (refl, λ same. false≢true same), λ h. refl)
differs_at true false false = (λ e. absurd (false≢true e), λ h. absurd (h.1 refl))

same_at : (care a b : Bool) → (care && differ a b) ≡ false → care ≡ true → a ≡ b
same_at false a b e c = absurd (false≢true c)
same_at true true true e c = refl
same_at true true false e c = absurd (false≢true (sym e))
same_at true false true e c = absurd (false≢true (sym e))
same_at true false false e c = refl

-- ---- handles that read only the first variables

kept_within : (u : ℕ) (old new : Diagrams) (h : H) → AddsNodes old new → IsLive old h → IsWithin u (function_of old h) → IsWithin u (function_of new h)
kept_within u old new h adds live reads = within_same u (function_of old h) (function_of new h) (adds.kept h.0 live) reads

pub span_within : (u : ℕ) (span : Span) (old new : Diagrams) → AddsNodes old new → IsFilled old span → IsSpanWithin u old span → IsSpanWithin u new span
span_within u span old new adds live all = span_kept u span old new
    (λ k lt. ap (λ (ws : List ℕ). slice_index ws (span.start + k)) (adds_words old new old.words adds)) (λ k lt. adds.kept (word_at old span k) (live k lt)) all

pub source_within : (u : ℕ) (d : Diagrams) (bits : WishBits) (wanted : Wanted) → IsInside bits wanted → AreWithin u d bits → IsWithin u (source_at d bits wanted)
source_within u d bits (Signal signal) inside within = within.1 signal inside
source_within u d bits (Element element inverted) inside within = within.2 element inside
source_within u d bits (Other net inverted) inside within = within.0 net.0 inside
source_within u d bits (Constant v) inside within = λ x y same. refl

turned_within : (u : ℕ) (inverted : Bool) (f : Function) → IsWithin u f → IsWithin u (turned_of inverted f)
turned_within u inverted f reads = λ v w same. ap (λ (b : Bool). differ inverted b) (reads v w same)

pub asked_within : (u : ℕ) (d : Diagrams) (care : H) (bits : WishBits) (free : Option ℕ) → IsFreeInside bits free → IsWithin u (function_of d care) → AreWithin u d bits
    → IsWithin u (asked_in d care bits free)
asked_within u d care bits None inside care_in within = care_in
asked_within u d care bits (Some bit) inside care_in within =
    within_choice u (shows d bits.values bit) (λ v. false) (function_of d care) (within.1 bit inside) (λ x y same. refl) care_in

-- ---- the valuations at which a wish is asked for

module _ (old new : Diagrams) (care : H) (bits : WishBits) (free : Option ℕ) (bit word : ℕ) (r : Result H Spent) (is : free ≡ Some bit) (read : word ≡ word_at old bits.values bit)
    (makes : Makes old new (choice (meaning old.nodes word) (meaning old.nodes 0) (function_of old care)) r) where
  abbrev Masked : Function
  Masked = choice (meaning old.nodes word) (meaning old.nodes 0) (function_of old care)

  -- the operation gives 1 where there is care and the don't-care bit is 0
  masked : IsSame Masked (asked_in old care bits free)
  masked v =
      ap (λ (b : Bool). cond (meaning old.nodes word v) b (function_of old care v)) (meaning_zero old.nodes v)
      ∙ ap (λ (k : ℕ). cond (meaning old.nodes k v) false (function_of old care v)) read
      ∙ sym (ap (λ (o : Option ℕ). asked_in old care bits o v) is)

  pub asked_means : IfOk r (λ h. Means new h (asked_in old care bits free))
  asked_means =
      if_ok_more (λ h. Means new h Masked) (λ h. Means new h (asked_in old care bits free)) r (λ h of. record { live = of.live; same = λ v. of.same v ∙ masked v }) makes.ok

  pub asked_counts : (u : ℕ) → 2 ≤ length old.nodes → IsFreeInside bits free → IsWithin u (function_of old care) → AreWithin u old bits → Counts u 1 old new r
  asked_counts u two inside care_in within =
      counts_made u old new two Masked r makes
      (within_same u (asked_in old care bits free) Masked (λ v. masked v) (asked_within u old care bits free inside care_in within))

-- ---- the operations of one wish

module _ (u : ℕ) (old mid new : Diagrams) (care net : H) (both : Opposites) (other : IsSame (function_of old both.other) (not_of (function_of old both.wanted))) (two : 2 ≤ length old.nodes) where
  abbrev Apart : Function
  Apart = choice (function_of old net) (function_of old both.other) (function_of old both.wanted)

  pub apart_within : IsWithin u (function_of old net) → IsWithin u (function_of old both.wanted) → IsWithin u Apart
  apart_within net_in wanted_in =
      within_choice u (function_of old net) (function_of old both.other) (function_of old both.wanted) net_in
      (within_same u (not_of (function_of old both.wanted)) (function_of old both.other) other (within_not u (function_of old both.wanted) wanted_in)) wanted_in

  pub difference_counts : (apart : H) (r : Result H Spent) → IsLive old care → Makes old mid Apart (Ok apart) → Makes mid new (and_of (function_of mid care) (function_of mid apart)) r
      → IsWithin u (function_of old care) → IsWithin u (function_of old net) → IsWithin u (function_of old both.wanted) → Counts u 2 old new r
  difference_counts apart r live first last care_in net_in wanted_in =
      let reads = apart_within net_in wanted_in in
      counts_then u 1 1 old mid new r (counts_made u old mid two Apart (Ok apart) first reads).added
      (counts_made u mid new first.adds.sound.ends (and_of (function_of mid care) (function_of mid apart)) r last
      (within_and u (function_of mid care) (function_of mid apart) (kept_within u old mid care first.adds live care_in) (within_same u Apart (function_of mid apart) first.ok.same reads)))

module _ (u : ℕ) (old mid : Diagrams) (care net source : H) (bits : WishBits) (wish : Wish) (inverted : Bool) (both : Opposites) (adds : AddsNodes old mid)
    (care_live : IsLive old care) (net_live : IsLive old net) where
  -- what the second part of a wish reads
  pub reads_behind : IsWithin u (function_of old care) → IsWithin u (function_of old net) → IsWithin u (function_of old source)
      → Means mid both.wanted (turned_of inverted (function_of old source))
      → IsWithin u (function_of mid care) × IsWithin u (function_of mid net) × IsWithin u (function_of mid both.wanted)
  reads_behind care_in net_in source_in is = (
    kept_within u old mid care adds care_live care_in,
    kept_within u old mid net adds net_live net_in,
    within_same u (turned_of inverted (function_of old source)) (function_of mid both.wanted) is.same (turned_within u inverted (function_of old source) source_in),
  )

-- ---- handles that stay

pub bits_added : (bits : WishBits) (old new : Diagrams) → AddsNodes old new → AreBits old bits → AreBits new bits
bits_added bits old new adds are = record {
  gates_span = span_added bits.gates old new adds are.gates_span;
  gates_live = filled_added bits.gates old new adds are.gates_live;
  values_span = span_added bits.values old new adds are.values_span;
  values_live = filled_added bits.values old new adds are.values_live;
  next_span = span_added bits.next old new adds are.next_span;
  next_live = filled_added bits.next old new adds are.next_live;
}

pub within_added : (u : ℕ) (bits : WishBits) (old new : Diagrams) → AddsNodes old new → AreBits old bits → AreWithin u old bits → AreWithin u new bits
within_added u bits old new adds are within = (
  span_within u bits.gates old new adds are.gates_live within.0,
  span_within u bits.values old new adds are.values_live within.1,
  span_within u bits.next old new adds are.next_live within.2,
)

module _ (first old : Diagrams) (adds : AddsNodes first old) (bits : WishBits) (are : AreBits first bits) where
  shows_first : (span : Span) (k : ℕ) (v : Valuation) → IsFilled first span → k < span.len → shows old span k v ≡ shows first span k v
  shows_first span k v live lt =
      ap (λ (ws : List ℕ). meaning old.nodes (slice_index ws (span.start + k)) v) (adds_words first old first.words adds) ∙ adds.kept (word_at first span k) (live k lt) v

  source_first : (wanted : Wanted) → IsInside bits wanted → IsSame (source_at old bits wanted) (source_at first bits wanted)
  source_first (Signal signal) inside v = shows_first bits.values signal v are.values_live inside
  source_first (Element element inverted) inside v = shows_first bits.next element v are.next_live inside
  source_first (Other net inverted) inside v = shows_first bits.gates net.0 v are.gates_live inside
  source_first (Constant b) inside v = refl

  -- there it is asked for at the same valuations
  asked_first : (care : H) (free : Option ℕ) → IsLive first care → IsFreeInside bits free → IsSame (asked_in old care bits free) (asked_in first care bits free)
  asked_first care None live inside v = adds.kept care.0 live v
  asked_first care (Some bit) live inside v =
      ap₂ (λ (x y : Bool). cond x false y) (shows_first bits.values bit v are.values_live inside) (adds.kept care.0 live v)

  -- a wish that was compared in a later store, by what the first store shows
  pub compared_by : (new : Diagrams) (late early : Function) (wish : Wish) (fault : WishFault) → IsSame late early → wish.net.0 < bits.gates.len → IsInside bits wish.wanted
      → IsComparedAt old new late bits wish fault → IsComparedAt first new early bits wish fault
  compared_by new late early wish fault asked net inside is = record {
    wish_is = is.wish_is;
    at = record {
      live = is.at.live;
      same = λ v.
          is.at.same v ∙ ap (λ (x : Bool). x && differ (net_at old bits wish v) (wanted_at old bits wish.wanted v)) (asked v)
          ∙ ap₂ (λ (x y : Bool). early v && differ x y) (net_first v) (wanted_first v);
    };
    circuit = record { live = is.circuit.live; same = λ v. is.circuit.same v ∙ net_first v };
    wanted = record { live = is.wanted.live; same = λ v. is.wanted.same v ∙ wanted_first v };
  }
    where
      net_first : (v : Valuation) → net_at old bits wish v ≡ net_at first bits wish v
      net_first v = shows_first bits.gates wish.net.0 v are.gates_live net

      wanted_first : (v : Valuation) → wanted_at old bits wish.wanted v ≡ wanted_at first bits wish.wanted v
      wanted_first v = ap (λ (b : Bool). differ (is_turned wish.wanted) b) (source_first wish.wanted inside v)

  pub compared_first : (new : Diagrams) (care : H) (wish : Wish) (fault : WishFault) → IsLive first care → IsWithinBits bits wish → IsCompared old new care bits wish fault → IsCompared first new care bits wish fault
  compared_first new care wish fault live inside is =
      compared_by new (asked_in old care bits wish.free) (asked_in first care bits wish.free) wish fault (asked_first care wish.free live inside.2) inside.0 inside.1 is

-- ---- the wishes so far

module _ (wishes : List Wish) (care : H) (bits : WishBits) (first new : Diagrams) where
  -- a wish that is missed nowhere
  pub met_here : (wish : Wish) (fault : WishFault) → IsCompared first new care bits wish fault → fault.at.0 ≡ 0 → IsMet care bits first wish
  met_here wish fault is zero v cared =
      same_at (asked_in first care bits wish.free v) (net_at first bits wish v) (wanted_at first bits wish.wanted v)
      (sym (is.at.same v) ∙ ap (λ (k : ℕ). meaning new.nodes k v) zero ∙ meaning_zero new.nodes v) cared

  pub met_more : (i : ℕ) (wish : Wish) → At wishes i wish → IsMet care bits first wish
      → ((k : ℕ) (w : Wish) → k < i → At wishes k w → IsMet care bits first w)
      → (k : ℕ) (w : Wish) → k < i + 1 → At wishes k w → IsMet care bits first w
  met_more i wish there met before k w lt here = elim (cases_eq k i) [
    | inl e ↦
        let same : wish ≡ w = same_Some wish w (sym there ∙ subst (λ (n : ℕ). At wishes n w) e here) in
        subst (λ (x : Wish). IsMet care bits first x) same met
    | inr ne ↦ before k w (omega (arith, lt, ne)) here
  ]

  pub missed_here : (i : ℕ) (wish : Wish) (fault : WishFault) → At wishes i wish → IsCompared first new care bits wish fault → fault.at.0 ≢ 0
      → ((k : ℕ) (w : Wish) → k < i → At wishes k w → IsMet care bits first w) → IsFirstMissed wishes care bits fault first new
  missed_here i wish fault there is some before =
      subst (λ (w : Wish). (At wishes i w → IsCompared first new care bits w fault → IsFirstMissed wishes care bits fault first new)) is.wish_is here there is
    where
      here : At wishes i fault.wish → IsCompared first new care bits fault.wish fault → IsFirstMissed wishes care bits fault first new
      here stands same = record {
        index = i;
        stands = stands;
        live = same.at.live;
        some = some;
        exact = λ v.
            let at = differs_at (asked_in first care bits fault.wish.free v) (net_at first bits fault.wish v) (wanted_at first bits fault.wish.wanted v) in
            (λ e. at.0 (sym (same.at.same v) ∙ e), λ h. same.at.same v ∙ at.1 h);
        circuit = same.circuit;
        wanted = same.wanted;
        before = before;
      }
