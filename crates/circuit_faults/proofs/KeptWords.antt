-- The words of the kept circuit: copied part by part, and what stays.
use Rattle.std.proofs.Common.{◌≡◌, ℕ, ◌+◌, ◌*◌, ◌<◌, ◌≤◌, Bool, true, false, List, [], ◌∷◌, length, length-set, slice_index, arith, ap, refl, sym, subst, ◌∙◌, inl, inr}
use Rattle.std.specs.Prelude.{slice_set}
use Rattle.std.proofs.lemmas.Bool.{cases_eq}
use Rattle.node_pool.specs.declared.region.Node.{Node}
use Rattle.node_pool.specs.declared.region.Span.{Span}
use Rattle.bdd_core.proofs.Frames.{adds_rewritten, adds_then, adds_words, beside_of, rest_then, span_stays, word_apart, word_beside, word_here, word_other}
use Rattle.bdd_core.specs.Diagram.{IsReduced, IsWithin, Valuation, meaning}
use Rattle.bdd_core.specs.Store.{Adds, AddsNodes, Diagrams, IsSpan}
use Rattle.bdd_core.specs.Words.{IsApart, IsBeside, IsFilled, Writes, shows, word_at}
use Rattle.bdd_ops.proofs.CountingLaws.{counted_more, counted_same, counted_then}
use Rattle.bdd_ops.proofs.WithinLaws.{span_kept as span_same}
use Rattle.bdd_ops.specs.Counting.{IsCounted, IsSpanWithin}
use Rattle.channel_parts.specs.declared.part.Part.{Part}
use Rattle.circuit_faults.proofs.CircuitLaws.{apart_inner, words_in}
use Rattle.circuit_faults.proofs.ScanLaws.{slot_word}
use Rattle.circuit_faults.specs.KeptResults.{HasKeptSpans, WritesKept}
use Rattle.circuit_faults.specs.KeptScans.{IsCopiedTo, IsPartReached, IsReached, ReadWithin, reach_span}
use Rattle.circuit_faults.specs.Scans.{IsInside}
use Rattle.circuit_faults.specs.declared.spans.KeptSpans.{KeptSpans}
use Rattle.path_fixpoint.proofs.Places.{place_in, place_once, place_words}
use Rattle.path_fixpoint.specs.Parts.{IsPart, IsPlace, pins_of}
use Rattle.path_fixpoint.specs.Reaching.{slot_of}
use Rattle.path_fixpoint.specs.Solved.{HasRootSpans, TellsReach, network_at}
use Rattle.path_fixpoint.specs.Strengths.{strong, word_of}
use Rattle.vrt_model.proofs.Members.{all_among}
use Rattle.vrt_model.specs.Circuits.{IsNet}
use Rattle.vrt_model.specs.Lists.{Among}
use Rattle.vrt_model.specs.declared.circuit.Circuit.{Circuit}
use Rattle.path_fixpoint.specs.declared.words.NetWords.{NetWords}
use Rattle.path_fixpoint.specs.Strengths.{net_words}
use Rattle.vrt_model.specs.Levels.{source_level}

apart_turned : (a b : Span) → IsApart a b → IsApart b a
apart_turned a b (inl low) = inr low
apart_turned a b (inr high) = inl high

pub inside_range : (c : Circuit) (part : Part) → IsPart c part → (n : ℕ) → IsInside part n → n < length c.nets
inside_range c part is n inside = subst (λ (m : ℕ). m < length c.nets) inside.1.2 (all_among (IsNet c) part.nets inside.1.0 is.nets (inside.0, inside.1.1))

-- words alone were written
pub span_rewritten : (span : Span) (old new : Diagrams) → new ≡ record old { words = new.words } → length new.words ≡ length old.words → IsSpan old span → IsSpan new span
span_rewritten span old new rest len is = (subst (λ (d : Diagrams). d.own ≤ span.start) (sym rest) is.0, omega (arith, is.1, len))

-- ---- one value, net by net

module _ (part : Part) (value : Bool) (out : NetWords) (to : Span) where
  pub copied_none : (d : Diagrams) → IsCopiedTo part value out to 0 d d
  copied_none d = record {
    rest = refl;
    len = refl;
    beside = λ j b. refl;
    copied = λ i n lt p. absurd (omega (arith, lt));
    others = λ n none. refl;
  }

  pub copied_filled : (upto : ℕ) (old new : Diagrams) → IsApart to out.span → IsFilled old out.span → IsCopiedTo part value out to upto old new → IsFilled new out.span
  copied_filled upto old new apart live c k lt =
      let same : word_at new out.span k ≡ word_at old out.span k = c.beside (out.span.start + k) (beside_of out.span to k (apart_turned to out.span apart) lt) in
      let nodes : length new.nodes ≡ length old.nodes = ap (λ (d : Diagrams). length d.nodes) c.rest in
      omega (arith, same, nodes, live k lt)

  module _ (once : (i j n : ℕ) → IsPlace part i n → IsPlace part j n → i ≡ j) (len : out.span.len ≡ net_words out.source * length part.nets) (apart : IsApart to out.span) (first old new : Diagrams) (i n : ℕ) (there : IsPlace part i n)
      (before : IsCopiedTo part value out to i first old) (in_to : n < to.len) (span : to.start + to.len ≤ length old.words)
      (is : new ≡ record old { words = slice_set old.words (to.start + n) (word_at old out.span (word_of out (slot_of out value) i)) }) where
    abbrev word : ℕ
    word = word_at old out.span (word_of out (slot_of out value) i)

    -- the words of the part stay
    source : (j m : ℕ) → IsPlace part j m → word_at old out.span (word_of out (slot_of out value) j) ≡ word_at first out.span (word_of out (slot_of out value) j)
    source j m p =
        before.beside (out.span.start + word_of out (slot_of out value) j)
        (beside_of out.span to (word_of out (slot_of out value) j) (apart_turned to out.span apart) (slot_word out value j (place_words out (length part.nets) j len (place_in part j m p))))

    pub copied_more : IsCopiedTo part value out to (i + 1) first new
    copied_more = record {
      rest = rest_then first old new (slice_set old.words (to.start + n) word) before.rest is;
      len = ap (λ (d : Diagrams). length d.words) is ∙ length-set old.words (to.start + n) word ∙ before.len;
      beside = λ j b.
          word_other to old new n word is in_to span j (λ e. elim b [ inl low ↦ omega (arith, low, e) | inr high ↦ omega (arith, high, e, in_to) ])
          ∙ before.beside j b;
      copied = λ j m lt p. elim (cases_eq j i) [
        | inl e ↦
            let here : IsPlace part i m = subst (λ (x : ℕ). IsPlace part x m) e p in
            let at_i : word_at new to m ≡ word_at first out.span (word_of out (slot_of out value) i) =
            subst (λ (x : ℕ). word_at new to x ≡ word_at first out.span (word_of out (slot_of out value) i)) (place_once part i n m there here)
            (word_here to old new n word is in_to span ∙ source i n there) in
            subst (λ (x : ℕ). word_at new to m ≡ word_at first out.span (word_of out (slot_of out value) x)) (sym e) at_i
        | inr ne ↦
            word_apart to old new n word is in_to span m (λ e. ne (once j i m p (subst (IsPlace part i) (sym e) there)))
            ∙ before.copied j m (omega (arith, lt, ne)) p
      ];
      others = λ m none.
          word_apart to old new n word is in_to span m (λ e. none i (omega arith) (subst (IsPlace part i) (sym e) there))
          ∙ before.others m (λ j lt. none j (omega (arith, lt)));
    }

-- ---- what is written

pub kept_none : (spans : KeptSpans) (d : Diagrams) → IsReduced d.vars d.nodes → length d.nodes ≤ d.budget → WritesKept spans d d
kept_none spans d sound within = record { adds = adds_rewritten d d refl sound within; len = refl; others = λ j z o p. refl }

pub kept_then : (spans : KeptSpans) (a b c : Diagrams) → WritesKept spans a b → WritesKept spans b c → WritesKept spans a c
kept_then spans a b c f s = record {
  adds = adds_then a b c b.words c.words f.adds s.adds;
  len = s.len ∙ f.len;
  others = λ j z o p. s.others j z o p ∙ f.others j z o p;
}

-- nodes alone were added
pub kept_added : (spans : KeptSpans) (old new : Diagrams) → AddsNodes old new → WritesKept spans old new
kept_added spans old new a =
    let words = adds_words old new old.words a in
    record {
      adds = subst (λ (ws : List ℕ). Adds old new ws) (sym words) a;
      len = ap (λ (ws : List ℕ). length ws) words;
      others = λ j z o p. ap (λ (ws : List ℕ). slice_index ws j) words;
    }

-- the words of a part among those of the greatest
pub kept_solved : (c : Circuit) (spans : KeptSpans) (part : Part) (words : NetWords) (old new : Diagrams) → words ≡ words_in c spans.out part → net_words (source_level c) * length part.nets ≤ spans.out.len → Writes words.span old new
    → WritesKept spans old new
kept_solved c spans part words old new is room w = record {
  adds = w.adds;
  len = w.len;
  others = λ j z o p. w.others j (subst (λ (s : NetWords). IsBeside s.span j) (sym is) (inner j p));
}
  where
    inner : (j : ℕ) → IsBeside spans.out j → IsBeside (words_in c spans.out part).span j
    inner j (inl low) = inl low
    inner j (inr high) = inr (omega (arith, high, room))

reach_beside : (spans : KeptSpans) (value : Bool) (j : ℕ) → IsBeside spans.zeros j → IsBeside spans.ones j → IsBeside (reach_span spans value) j
reach_beside spans true j z o = o
reach_beside spans false j z o = z

pub kept_copied : (spans : KeptSpans) (part : Part) (value : Bool) (out : NetWords) (upto : ℕ) (old new : Diagrams) → IsReduced old.vars old.nodes → length old.nodes ≤ old.budget
    → IsCopiedTo part value out (reach_span spans value) upto old new → WritesKept spans old new
kept_copied spans part value out upto old new sound within c = record {
  adds = adds_rewritten old new c.rest sound within;
  len = c.len;
  others = λ j z o p. c.beside j (reach_beside spans value j z o);
}

-- ---- the spans, as steps leave them

module _ (c : Circuit) (parts : List Part) (spans : KeptSpans) (old : Diagrams) (has : HasKeptSpans c parts spans old) where
  module _ (new : Diagrams) (w : WritesKept spans old new) where
    span_kept : (span : Span) → IsSpan old span → IsSpan new span
    span_kept span = span_stays span old new new.words w.adds w.len

    -- a span apart from what is written
    word_kept : (span : Span) (k : ℕ) → IsApart span spans.zeros → IsApart span spans.ones → IsApart span spans.out → k < span.len → word_at new span k ≡ word_at old span k
    word_kept span k zeros ones out lt =
        w.others (span.start + k) (beside_of span spans.zeros k zeros lt) (beside_of span spans.ones k ones lt) (beside_of span spans.out k out lt)

    filled_kept : (span : Span) → IsApart span spans.zeros → IsApart span spans.ones → IsApart span spans.out → IsFilled old span → IsFilled new span
    filled_kept span zeros ones out live k lt = let same = word_kept span k zeros ones out lt in omega (arith, same, live k lt, w.adds.longer)

    shows_kept : (span : Span) (k : ℕ) (v : Valuation) → IsApart span spans.zeros → IsApart span spans.ones → IsApart span spans.out → IsFilled old span → k < span.len
        → shows new span k v ≡ shows old span k v
    shows_kept span k v zeros ones out live lt =
        ap (λ (h : ℕ). meaning new.nodes h v) (word_kept span k zeros ones out lt) ∙ w.adds.kept (word_at old span k) (live k lt) v

    pub gates_shown : (n : ℕ) (v : Valuation) → n < length c.nets → shows new spans.gates n v ≡ shows old spans.gates n v
    gates_shown n v lt = shows_kept spans.gates n v has.gates_zeros has.gates_ones has.gates_out has.gates_live (omega (arith, lt, has.gates_len))

    pub roots_shown : (n : ℕ) (v : Valuation) → n < length c.nets + length (pins_of c) → shows new spans.roots n v ≡ shows old spans.roots n v
    roots_shown n v lt = shows_kept spans.roots n v has.roots_zeros has.roots_ones has.roots_out has.roots_live (omega (arith, lt, has.roots_len))

    span_within : (u : ℕ) (span : Span) → IsApart span spans.zeros → IsApart span spans.ones → IsApart span spans.out → IsFilled old span → IsSpanWithin u old span → IsSpanWithin u new span
    span_within u span zeros ones out live all =
        span_same u span old new (λ k lt. word_kept span k zeros ones out lt) (λ k lt. w.adds.kept (word_at old span k) (live k lt)) all

    pub gates_within : (u : ℕ) → IsSpanWithin u old spans.gates → IsSpanWithin u new spans.gates
    gates_within u = span_within u spans.gates has.gates_zeros has.gates_ones has.gates_out has.gates_live

    pub roots_within : (u : ℕ) → IsSpanWithin u old spans.roots → IsSpanWithin u new spans.roots
    roots_within u = span_within u spans.roots has.roots_zeros has.roots_ones has.roots_out has.roots_live

    -- the same is asked for some of the parts
    pub spans_later : (some : List Part) → ((part : Part) → Among some part → Among parts part) → HasKeptSpans c some spans new
    spans_later some among = record {
      roots_span = span_kept spans.roots has.roots_span;
      roots_len = has.roots_len;
      roots_live = filled_kept spans.roots has.roots_zeros has.roots_ones has.roots_out has.roots_live;
      gates_span = span_kept spans.gates has.gates_span;
      gates_len = has.gates_len;
      gates_live = filled_kept spans.gates has.gates_zeros has.gates_ones has.gates_out has.gates_live;
      zeros_span = span_kept spans.zeros has.zeros_span;
      zeros_len = has.zeros_len;
      ones_span = span_kept spans.ones has.ones_span;
      ones_len = has.ones_len;
      out_span = span_kept spans.out has.out_span;
      room = λ part m. has.room part (among part m);
      roots_zeros = has.roots_zeros;
      roots_ones = has.roots_ones;
      roots_out = has.roots_out;
      gates_zeros = has.gates_zeros;
      gates_ones = has.gates_ones;
      gates_out = has.gates_out;
      zeros_ones = has.zeros_ones;
      zeros_out = has.zeros_out;
      ones_out = has.ones_out;
    }

  -- for one part
  module _ (part : Part) (member : Among parts part) where
    room : net_words (source_level c) * length part.nets ≤ spans.out.len
    room = has.room part member

    pub kept_root_spans : (words : NetWords) → words ≡ words_in c spans.out part → HasRootSpans c part spans.gates spans.roots words old
    kept_root_spans words is =
        subst (λ (s : NetWords). HasRootSpans c part spans.gates spans.roots s old) (sym is) (record {
          spans = record {
            gates_span = has.gates_span;
            gates_len = has.gates_len;
            gates_live = has.gates_live;
            source = refl;
            out_span = (has.out_span.0, (let end = has.out_span.1 in omega (arith, end, room)));
            out_len = refl;
            apart = apart_inner spans.gates spans.out (net_words (source_level c) * length part.nets) room has.gates_out;
          };
          roots_span = has.roots_span;
          roots_len = has.roots_len;
          roots_live = has.roots_live;
          roots_apart = apart_inner spans.roots spans.out (net_words (source_level c) * length part.nets) room has.roots_out;
        })

    pub reach_apart : (value : Bool) (words : NetWords) → words ≡ words_in c spans.out part → IsApart (reach_span spans value) words.span
    reach_apart true words is = subst (λ (s : NetWords). IsApart spans.ones s.span) (sym is) (apart_inner spans.ones spans.out (net_words (source_level c) * length part.nets) room has.ones_out)
    reach_apart false words is = subst (λ (s : NetWords). IsApart spans.zeros s.span) (sym is) (apart_inner spans.zeros spans.out (net_words (source_level c) * length part.nets) room has.zeros_out)

  pub reach_len : (value : Bool) → (reach_span spans value).len ≡ length c.nets
  reach_len true = has.ones_len
  reach_len false = has.zeros_len

-- ---- a part that was solved, and its words copied

module _ (c : Circuit) (part : Part) (spans : KeptSpans) (words : NetWords) (old mid next new : Diagrams) (has : HasKeptSpans c (part ∷ []) spans old)
    (len : words.span.len ≡ net_words words.source * length part.nets) (zeros_apart : IsApart spans.zeros words.span)
    (in_range : (n : ℕ) → IsInside part n → n < length c.nets)
    (solved : Writes words.span old mid)
    (zeros : IsCopiedTo part false words spans.zeros (length part.nets) mid next) (ones : IsCopiedTo part true words spans.ones (length part.nets) next new) where
  next_nodes : next.nodes ≡ mid.nodes
  next_nodes = ap (λ (d : Diagrams). d.nodes) zeros.rest

  new_nodes : new.nodes ≡ mid.nodes
  new_nodes = ap (λ (d : Diagrams). d.nodes) ones.rest ∙ next_nodes

  -- the word of a net is that of its place
  copied_word : (value : Bool) (i n : ℕ) → IsPlace part i n → word_at new (reach_span spans value) n ≡ word_at mid words.span (word_of words (slot_of words value) i)
  copied_word true i n p =
      let fits = place_words words (length part.nets) i len (place_in part i n p) in
      ones.copied i n (place_in part i n p) p
      ∙ zeros.beside (words.span.start + word_of words (slot_of words true) i)
      (beside_of words.span spans.zeros (word_of words (slot_of words true) i) (apart_turned spans.zeros words.span zeros_apart) (slot_word words true i fits))
  copied_word false i n p =
      ones.beside (spans.zeros.start + n) (beside_of spans.zeros spans.ones n has.zeros_ones (let lt = in_range n (i, p) in omega (arith, lt, has.zeros_len)))
      ∙ zeros.copied i n (place_in part i n p) p

  -- it reads only the first variables
  pub copied_within : (u : ℕ) → IsSpanWithin u mid words.span → ReadWithin u spans (IsInside part) new
  copied_within u all n value inside =
      let fits = place_words words (length part.nets) inside.0 len (place_in part inside.0 n inside.1) in
      subst (λ (ns : List Node). IsWithin u (meaning ns (word_at new (reach_span spans value) n))) (sym new_nodes)
      (subst (λ (h : ℕ). IsWithin u (meaning mid.nodes h)) (sym (copied_word value inside.0 n inside.1)) (all (word_of words (slot_of words value) inside.0) (slot_word words value inside.0 fits)))

  pub counted_copies : (u operations : ℕ) → IsCounted u operations old mid → IsCounted u operations old new
  counted_copies u operations before =
      let budget : new.budget ≡ mid.budget = ap (λ (d : Diagrams). d.budget) ones.rest ∙ ap (λ (d : Diagrams). d.budget) zeros.rest in
      counted_more u (operations + 0) operations old new (omega arith) (counted_then u operations 0 old mid new before (counted_same u mid new budget new_nodes))

  -- the words of other nets stay
  other_word : (value : Bool) (n : ℕ) → n < length c.nets → (¬ IsInside part n) → word_at next (reach_span spans value) n ≡ word_at mid (reach_span spans value) n
  other_word true n lt away = zeros.beside (spans.ones.start + n) (beside_of spans.ones spans.zeros n (apart_turned spans.zeros spans.ones has.zeros_ones) (omega (arith, lt, has.ones_len)))
  other_word false n lt away = zeros.others n (λ i below p. away (i, p))

  last_word : (value : Bool) (n : ℕ) → n < length c.nets → (¬ IsInside part n) → word_at new (reach_span spans value) n ≡ word_at next (reach_span spans value) n
  last_word true n lt away = ones.others n (λ i below p. away (i, p))
  last_word false n lt away = ones.beside (spans.zeros.start + n) (beside_of spans.zeros spans.ones n has.zeros_ones (omega (arith, lt, has.zeros_len)))

  solved_word : (apart : (value : Bool) → IsApart (reach_span spans value) words.span) (size : (value : Bool) → (reach_span spans value).len ≡ length c.nets) (value : Bool) (n : ℕ) → n < length c.nets
      → word_at mid (reach_span spans value) n ≡ word_at old (reach_span spans value) n
  solved_word apart size value n lt = word_beside words.span (reach_span spans value) old mid n solved (apart value) (omega (arith, lt, size value))

  module _ (tells : (v : Valuation) → TellsReach part words mid v (network_at old c part spans.gates spans.roots v)) where
    net_reached : (n : ℕ) → IsInside part n → IsReached c part spans n old new
    net_reached n inside = record {
      live = λ value.
          let fits = place_words words (length part.nets) inside.0 len (place_in part inside.0 n inside.1) in
          subst (λ (ns : List Node). word_at new (reach_span spans value) n < length ns) (sym new_nodes)
          (subst (λ (h : ℕ). h < length mid.nodes) (sym (copied_word value inside.0 n inside.1)) (solved.live (word_of words (slot_of words value) inside.0) (slot_word words value inside.0 fits)));
      reaches = λ value v.
          let same : shows new (reach_span spans value) n v ≡ strong mid words (slot_of words value) inside.0 v =
          ap (λ (ns : List Node). meaning ns (word_at new (reach_span spans value) n) v) new_nodes
          ∙ ap (λ (h : ℕ). meaning mid.nodes h v) (copied_word value inside.0 n inside.1) in
          let t = tells v inside.0 n value inside.1 in
          (λ e. t.0 (sym same ∙ e), λ r. same ∙ t.1 r);
    }

    pub part_reached : ((value : Bool) → IsApart (reach_span spans value) words.span) → ((value : Bool) → (reach_span spans value).len ≡ length c.nets) → IsPartReached c part spans old new
    part_reached apart size = record {
      nets = net_reached;
      others = λ n value lt away. last_word value n lt away ∙ other_word value n lt away ∙ solved_word apart size value n lt;
    }
