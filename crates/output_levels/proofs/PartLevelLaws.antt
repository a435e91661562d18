-- What the words of a part tell of the levels of its nets, and the parts one after the other.
use Rattle.std.proofs.Common.{◌≡◌, ℕ, zero, suc, ◌+◌, ◌*◌, ◌<◌, ◌≤◌, Bool, true, false, List, [], ◌∷◌, Option, All, length, slice_index, arith, ap, refl, sym, subst, ◌∙◌, inl, inr}
use Rattle.std.proofs.lemmas.Bool.{cases_eq, false≢true}
use Rattle.std.specs.Prelude.{sum_by, take}
use Rattle.std.proofs.lemmas.List.Sums.{sum_by_more}
use Rattle.std.proofs.lemmas.Option.{get_or_from_slice_get, same_Some, slice_get_within}
use Rattle.bdd_core.proofs.Frames.{adds_none, adds_then, adds_words, beside_of, span_stays}
use Rattle.bdd_core.specs.Diagram.{IsReduced, IsWithin, Valuation, meaning}
use Rattle.bdd_core.specs.Store.{AddsNodes, Diagrams, IsLive, function_of, Adds}
use Rattle.bdd_core.specs.Words.{IsApart, IsBeside, IsFilled, Writes, shows, word_at}
use Rattle.bdd_core.specs.declared.handle.H.{H}
use Rattle.bdd_ops.proofs.WithinLaws.{span_kept, within_same}
use Rattle.bdd_ops.specs.Counting.{IsSpanWithin}
use Rattle.channel_parts.specs.declared.part.Part.{Part}
use Rattle.node_pool.specs.declared.region.Span.{Span}
use Rattle.output_levels.proofs.JudgeLaws.{level_same}
use Rattle.output_levels.specs.Always.{AreStrengths, strong_at}
use Rattle.output_levels.specs.PartLevels.{AreJudged, HasLevelSpans, HasStrengths, IsInPart, IsPartTold, IsToldIn, PartTells, WritesIn, level_at}
use Rattle.path_fixpoint.proofs.Places.{on_a_side, place_in}
use Rattle.path_fixpoint.proofs.ReachLaws.{strength_most}
use Rattle.path_fixpoint.specs.Parts.{IsPart, IsPlace}
use Rattle.path_fixpoint.specs.declared.words.NetWords.{NetWords}
use Rattle.vrt_model.specs.Levels.{source_level}
use Rattle.path_fixpoint.specs.Strengths.{HasSpans, StandsAt, TellsStrengths, net_words, circuit_words}
use Rattle.vrt_model.proofs.Lists.{one_at}
use Rattle.vrt_model.proofs.Members.{at_none}
use Rattle.vrt_model.specs.Lists.{Among, At, mark_at}
use Rattle.vrt_model.specs.Networks.{HasRanges}
use Rattle.vrt_model.specs.Path.{Network}
use Rattle.vrt_model.specs.declared.circuit.Circuit.{Circuit}
use Rattle.vrt_model.specs.declared.ids.Net.{Net}

-- ---- what is written

module _ (out : Span) where
  pub in_none : (d : Diagrams) → IsReduced d.vars d.nodes → length d.nodes ≤ d.budget → WritesIn out d d
  in_none d sound within = record { adds = adds_none d sound within; len = refl; others = λ j o. refl }

  pub in_then : (a b c : Diagrams) → WritesIn out a b → WritesIn out b c → WritesIn out a c
  in_then a b c f s = record {
    adds = adds_then a b c b.words c.words f.adds s.adds;
    len = s.len ∙ f.len;
    others = λ j o. s.others j o ∙ f.others j o;
  }

  -- words at the front of the span were written
  pub in_front : (old new : Diagrams) (len : ℕ) → len ≤ out.len → Writes (record { start = out.start; len = len }) old new → WritesIn out old new
  in_front old new len fits w = record {
    adds = w.adds;
    len = w.len;
    others = λ j o. w.others j (inner j o);
  }
    where
      inner : (j : ℕ) → IsBeside out j → IsBeside (record { start = out.start; len = len }) j
      inner j (inl low) = inl low
      inner j (inr high) = inr (omega (arith, high, fits))

  -- nodes alone were added
  pub in_added : (old new : Diagrams) → AddsNodes old new → WritesIn out old new
  in_added old new a =
      let words = adds_words old new old.words a in
      record {
        adds = subst (λ (ws : List ℕ). Adds old new ws) (sym words) a;
        len = ap (λ (ws : List ℕ). length ws) words;
        others = λ j o. ap (λ (ws : List ℕ). slice_index ws j) words;
      }

  -- a span apart from it keeps its words, and what they show
  module _ (gates : Span) (old new : Diagrams) (apart : IsApart gates out) (w : WritesIn out old new) where
    pub gate_word : (k : ℕ) → k < gates.len → word_at new gates k ≡ word_at old gates k
    gate_word k lt = w.others (gates.start + k) (beside_of gates out k apart lt)

    pub gate_shows : IsFilled old gates → (k : ℕ) → k < gates.len → (v : Valuation) → shows new gates k v ≡ shows old gates k v
    gate_shows live k lt v = ap (λ (h : ℕ). meaning new.nodes h v) (gate_word k lt) ∙ w.adds.kept (word_at old gates k) (live k lt) v

    pub gates_filled : IsFilled old gates → IsFilled new gates
    gates_filled live k lt = (let same = gate_word k lt in let is = live k lt in let longer = w.adds.longer in omega (arith, same, is, longer))

    pub gates_within : (u : ℕ) → IsFilled old gates → IsSpanWithin u old gates → IsSpanWithin u new gates
    gates_within u live all = span_kept u gates old new gate_word (λ k lt. w.adds.kept (word_at old gates k) (live k lt)) all

  pub spans_later : (c : Circuit) (parts others : List Part) (gates : Span) (old new : Diagrams) → WritesIn out old new → HasLevelSpans c parts gates out old
      → ((part : Part) → Among others part → Among parts part) → HasLevelSpans c others gates out new
  spans_later c parts others gates old new w has among = record {
    gates_span = span_stays gates old new new.words w.adds w.len has.gates_span;
    gates_len = has.gates_len;
    gates_live = gates_filled gates old new has.apart w has.gates_live;
    out_span = span_stays out old new new.words w.adds w.len has.out_span;
    room = λ part m. has.room part (among part m);
    apart = has.apart;
  }

-- ---- the words of one part

-- the front of the words is as the part wants it
pub part_spans : (c : Circuit) (part : Part) (parts : List Part) (gates out : Span) (d : Diagrams) → HasLevelSpans c parts gates out d → Among parts part
    → HasSpans c part gates (circuit_words c (record { start = out.start; len = net_words (source_level c) * length part.nets })) d
part_spans c part parts gates out d has m =
    let room = has.room part m in
    record {
      gates_span = has.gates_span;
      gates_len = has.gates_len;
      gates_live = has.gates_live;
      source = refl;
      out_span = (has.out_span.0, let end = has.out_span.1 in omega (arith, room, end));
      out_len = refl;
      apart = elim has.apart [ inl low ↦ inl low | inr high ↦ inr (omega (arith, room, high)) ];
    }

pub one_among : (part other : Part) (parts : List Part) → Among parts part → Among (part ∷ []) other → Among parts other
one_among part other parts m (zero, e) = subst (Among parts) (same_Some part other e) m
one_among part other parts m (suc i, e) = absurd (at_none i other e)

-- the nets of a part are in range
pub part_range : (c : Circuit) (part : Part) → IsPart c part → (asked : List Bool) → length asked ≡ length c.nets → All (λ (n : Net). n.0 < length asked) part.nets
part_range c part is asked len k d lt = (let inside = is.nets k d lt in omega (arith, inside, len))

module _ (c : Circuit) (part : Part) (ranges : HasRanges c) (is_part : IsPart c part) (gates : Span) (out : NetWords) (source : out.source ≡ source_level c) (care : H) (old mid : Diagrams) (live : IsLive old care)
    (writes : Writes out.span old mid) (tells : (v : Valuation) (w : Network) → StandsAt c part gates old v w → TellsStrengths c part out mid v w) where
  mid_care : (v : Valuation) → function_of mid care v ≡ function_of old care v
  mid_care v = writes.adds.kept care.0 live v

  -- the strengths of a net in the network of the part are those that its words say
  strengths_said : (i n : ℕ) → IsPlace part i n → (s : Valuation → ℕ) → HasStrengths c part gates (function_of old care) old n s → AreStrengths out.source (function_of mid care) (strong_at mid out i) s
  strengths_said i n p s has = record {
    most = λ v here. (let at = has v (sym (mid_care v) ∙ here) in omega (arith, strength_most c part is_part ranges gates gates out true old v at.0 n (s v) at.1 at.2, source));
    says = λ v level here low high. (let at = has v (sym (mid_care v) ∙ here) in tells v at.0 at.1 i n level (s v) p low (omega (arith, high, source)) at.2);
  }

  -- so the judged places of the part tell of its nets
  pub part_told : (asked : List Bool) (levels after : List (Option ℕ)) → AreJudged out.source part asked (function_of mid care) (strong_at mid out) (length part.nets) levels after
      → IsPartTold c part asked gates care old levels after
  part_told asked levels after judged = record {
    told = λ n inside mark s has.
        level_same (function_of mid care) (function_of old care) mid_care s (level_at after n)
        (judged.told inside.0 n (place_in part inside.0 n inside.1) inside.1 mark s (strengths_said inside.0 n inside.1 s has));
    others = λ n away. judged.others n (λ i lt p mark. away (i, p));
  }

-- where no net of a part is asked for, all is told
pub none_told : (c : Circuit) (part : Part) (asked : List Bool) (gates : Span) (care : H) (d : Diagrams) (levels : List (Option ℕ)) → ((i : ℕ) (n : Net) → At part.nets i n → mark_at asked n.0 ≡ false)
    → IsPartTold c part asked gates care d levels levels
none_told c part asked gates care d levels none = record {
  told = λ n inside mark.
      let place = inside.1 in
      let off : mark_at asked place.0.0 ≡ false = none inside.0 place.0 place.1 in
      absurd (false≢true (sym off ∙ ap (mark_at asked) place.2 ∙ mark));
  others = λ n away. refl;
}

-- ---- one part more

-- the net is in one of the first parts of a list
abbrev pub IsInFirst : List Part → ℕ → ℕ → Type 0
IsInFirst parts k n = (j : ℕ) × (part : Part) × (j < k) × At parts j part × IsInPart part n

module _ (c : Circuit) (parts : List Part) (asked : List Bool) (gates out : Span) (care : H) (first now : Diagrams) (live : IsLive first care)
    (has : HasLevelSpans c parts gates out first) (writes : WritesIn out first now) where
  now_care : (v : Valuation) → function_of now care v ≡ function_of first care v
  now_care v = writes.adds.kept care.0 live v

  -- what is told then was told at first
  tells_first : (part : Part) (n : ℕ) (found : Option ℕ) → PartTells c part gates care now n found → PartTells c part gates care first n found
  tells_first part n found tells s strengths =
      level_same (function_of now care) (function_of first care) now_care s found
      (tells s (λ v here.
      let at = strengths v (sym (now_care v) ∙ here) in
      let stands = at.1 in
      let here_stands : StandsAt c part gates now v at.0 = record {
        nets = stands.nets;
        holds = stands.holds;
        outputs = stands.outputs;
        source = stands.source;
        devices = stands.devices;
        reading = λ m lt. gate_shows out gates first now has.apart writes has.gates_live m (let len = has.gates_len in omega (arith, lt, len)) v ∙ stands.reading m lt;
      } in
      (at.0, here_stands, at.2)))

  pub told_first : (levels : List (Option ℕ)) (n : ℕ) → IsToldIn c parts gates care now levels n → IsToldIn c parts gates care first levels n
  told_first levels n told = (told.0, told.1, told.2, tells_first told.0 n (level_at levels n) told.3)

  pub told_more : (k : ℕ) (part : Part) → At parts k part → (old new : List (Option ℕ)) → ((n : ℕ) → IsInFirst parts k n → mark_at asked n ≡ true → IsToldIn c parts gates care first old n)
      → IsPartTold c part asked gates care now old new → (n : ℕ) → IsInFirst parts (k + 1) n → mark_at asked n ≡ true → IsToldIn c parts gates care first new n
  told_more k part here old new before step n inside mark =
      elim (on_a_side part n) [
        | inl in_part ↦ (part, (k, here), in_part, tells_first part n (level_at new n) (step.told n in_part mark))
        | inr away ↦
            let told = before n (earlier inside away) mark in
            let stays = step.others n (λ (i : IsInPart part n). away i.0 i.1) in
            (told.0, told.1, told.2, subst (PartTells c told.0 gates care first n) (sym stays) told.3)
      ]
    where
      earlier : IsInFirst parts (k + 1) n → ((i : ℕ) → IsPlace part i n → ⊥) → IsInFirst parts k n
      earlier (j, other, lt, at, place) away =
          elim (cases_eq j k) [
            | inl e ↦ absurd (let same : other ≡ part = one_at parts k other part (subst (λ (x : ℕ). At parts x other) e at) here in
                let moved : IsInPart part n = subst (λ (q : Part). IsInPart q n) same place in away moved.0 moved.1)
            | inr ne ↦ (j, other, omega (arith, lt, ne), at, place)
          ]

pub in_first : (parts : List Part) (k : ℕ) (part : Part) (n : ℕ) → length parts ≤ k → Among parts part → IsInPart part n → IsInFirst parts k n
in_first parts k part n all there inside = (let lt = slice_get_within parts there.0 part there.1 in (there.0, part, omega (arith, lt, all), there.1, inside))

-- the sum so far and the operations of the next part
pub sum_next : (f : Part → ℕ) (xs : List Part) (k : ℕ) (x : Part) → At xs k x → sum_by f (take (k + 1) xs) ≡ sum_by f (take k xs) + f x
sum_next f xs k x there =
    sum_by_more f xs k x (slice_get_within xs k x there) ∙ ap (λ y. sum_by f (take k xs) + f y) (get_or_from_slice_get xs k x x there)

-- the care set reads no more variables where words were written
pub words_care : (u : ℕ) (out : Span) (old new : Diagrams) (care : H) → WritesIn out old new → IsLive old care → IsWithin u (function_of old care) → IsWithin u (function_of new care)
words_care u out old new care w live within = within_same u (function_of old care) (function_of new care) (w.adds.kept care.0 live) within
