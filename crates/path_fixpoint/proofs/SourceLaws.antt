-- The roots of a value, one after the other, and what they are at each valuation.
use Rattle.std.proofs.Common.{◌≡◌, ◌≢◌, ℕ, ◌+◌, ◌*◌, ◌<◌, ◌≤◌, ◌⊎◌, Bool, true, false, cond, ◌||◌, List, length, Ok, get_or, arith, ap, refl, sym, subst, ◌∙◌, inl, inr}
use Rattle.std.specs.Prelude.{◌↔◌}
use Rattle.std.proofs.lemmas.Bool.{cases_eq, cases_lt, false≢true, or_cases, or_left, or_right, false_from_ne_true}
use Rattle.std.proofs.lemmas.Option.{slice_get_within}
use Rattle.node_pool.specs.declared.region.Span.{Span}
use Rattle.bdd_core.specs.declared.handle.H.{H}
use Rattle.bdd_core.specs.Diagram.{Valuation, meaning}
use Rattle.bdd_core.specs.Store.{Diagrams, Makes}
use Rattle.bdd_core.proofs.Meaning.{meaning_zero}
use Rattle.vrt_model.proofs.Clear.{HopFits, RootFits}
use Rattle.vrt_model.proofs.Members.{all_among}
use Rattle.vrt_model.proofs.PathKinds.{Arrives, arrives_root}
use Rattle.vrt_model.proofs.Strength.{AtLeast, HopHas, RootHas, at_least-strength, strength-at_least}
use Rattle.vrt_model.specs.Circuits.{IsHold}
use Rattle.vrt_model.specs.Networks.{HasRanges}
use Rattle.vrt_model.specs.Levels.{source_level}
use Rattle.vrt_model.specs.Lists.{At, Among}
use Rattle.vrt_model.specs.Path.{IsRoot, Network, Root, level_of_drive}
use Rattle.vrt_model.specs.declared.circuit.Circuit.{Circuit}
use Rattle.vrt_model.specs.declared.circuit.FlatNet.{FlatNet}
use Rattle.vrt_model.specs.declared.circuit.Hold.{Hold}
use Rattle.vrt_model.specs.declared.whole.WholePin.{WholePin}
use Rattle.channel_parts.specs.declared.part.Part.{Part}
use Rattle.path_fixpoint.specs.Parts.{IsGiven, IsPart, IsPlace, pins_of}
use Rattle.path_fixpoint.specs.Passed.{IsWider}
use Rattle.path_fixpoint.specs.Reaching.{HasReachPaths, HasReachRoots, HasRootWords, SolvedAt, bit_is, slot_of}
use Rattle.path_fixpoint.specs.Sources.{AddsRoots, HasDriveLevel, IsGivenSource, IsHoldSource, IsOpen, IsPinSource}
use Rattle.path_fixpoint.specs.Strengths.{ChangesLevel, strong, word_of}
use Rattle.bdd_core.specs.Words.{IsApart, IsFilled, Writes, shows, word_at}
use Rattle.bdd_core.proofs.Frames.{shows_beside, shows_kept, writes_then, adds_words, writes_added}
use Rattle.path_fixpoint.proofs.PinLaws.{pin_level, pin_ranges}
use Rattle.path_fixpoint.proofs.Places.{levels_differ, place_in, place_once, place_words, words_differ}
use Rattle.path_fixpoint.proofs.SourceLevels.{drive_below, hold_below, source_low}
use Rattle.path_fixpoint.proofs.ReachLaws.{differ_same, given_strength, slot_high, slot_low, slot_place, strength_most}
use Rattle.path_fixpoint.specs.declared.words.NetWords.{NetWords}
use Rattle.path_fixpoint.specs.Strengths.{net_words}

-- the word of a level at a place
level_in : (part : Part) (out : NetWords) (level i n : ℕ) → out.span.len ≡ net_words out.source * length part.nets → 1 ≤ level → level ≤ out.source → IsPlace part i n → word_of out level i < out.span.len
level_in part out level i n len low high p = omega (arith, place_words out (length part.nets) i len (place_in part i n p), low, high)

-- a step that changes words of the value alone leaves a root open, or not open
module _ (part : Part) (roots : Span) (out : NetWords) (value : Bool) (len : out.span.len ≡ net_words out.source * length part.nets) (a b : Diagrams) (wr : Writes out.span a b) (changes : ChangesLevel out (slot_of out value) a b)
    (apart : IsApart roots out.span) (roots_live : IsFilled a roots) (out_live : IsFilled a out.span) (n at size i : ℕ) (at_in : at < roots.len) (low : 1 ≤ size) (p : IsPlace part i n) (v : Valuation) where
  upper_same : size < out.source → strong b out (size + 1) i v ≡ strong a out (size + 1) i v
  upper_same lt =
      shows_kept out.span out.span a b (word_of out (size + 1) i) v wr
      (changes (word_of out (size + 1) i) (λ j e. omega (arith, levels_differ out (size + 1) (slot_of out value) i j (omega arith) (omega (arith, lt)) (omega (arith, slot_low out value)) (slot_high out value) e, lt, slot_low out value)))
      (out_live (word_of out (size + 1) i) (level_in part out (size + 1) i n len (omega arith) (omega (arith, lt)) p))

  root_same : shows b roots at v ≡ shows a roots at v
  root_same = shows_beside out.span roots a b at v wr apart roots_live at_in

  pub open_later : IsOpen roots out value at size a i v → IsOpen roots out value at size b i v
  open_later o = (root_same ∙ o.0, λ lt. upper_same lt ∙ o.1 lt)

  pub open_before : IsOpen roots out value at size b i v → IsOpen roots out value at size a i v
  open_before o = (sym root_same ∙ o.0, λ lt. sym (upper_same lt) ∙ o.1 lt)

-- a bit that stands where another is 0
pub block_bits : (s b : Bool) → (cond s false b ≡ true) ↔ ((b ≡ true) × (s ≡ false))
block_bits true b = (λ e. absurd (false≢true e), λ q. absurd (false≢true (sym q.1)))
block_bits false b = (λ e. (e, refl), λ q. q.0)

-- the same roots by another description
pub adds_same : (part : Part) (roots : Span) (out : NetWords) (value : Bool) (P R : ℕ → ℕ → ℕ → Type 0) (a b : Diagrams) → ((n at size : ℕ) → R n at size → P n at size)
    → ((n at size : ℕ) → P n at size → R n at size) → AddsRoots part roots out value P a b → AddsRoots part roots out value R a b
adds_same part roots out value P R a b less more x = record {
  grown = x.grown;
  marked = λ n at size r. x.marked n at size (less n at size r);
  only = λ i lt v e. elim (x.only i lt v e) [ inl was ↦ inl was | inr new ↦ inr (new.0, new.1, new.2, more new.0 new.1 new.2 new.3, new.4, new.5) ];
}

-- no root
pub adds_none : (part : Part) (roots : Span) (out : NetWords) (value : Bool) (P : ℕ → ℕ → ℕ → Type 0) (d : Diagrams) → ((n at size : ℕ) → P n at size → (i : ℕ) → IsPlace part i n → ⊥)
    → AddsRoots part roots out value P d d
adds_none part roots out value P d none = record {
  grown = λ i lt v e. e;
  marked = λ n at size q i p. absurd (none n at size q i p);
  only = λ i lt v e. inl e;
}

-- some roots, and then others
pub adds_then : (part : Part) (roots : Span) (out : NetWords) (value : Bool) (P Q R : ℕ → ℕ → ℕ → Type 0) (a b c : Diagrams) → out.span.len ≡ net_words out.source * length part.nets → Writes out.span a b → ChangesLevel out (slot_of out value) a b
    → IsApart roots out.span → IsFilled a roots → IsFilled a out.span
    → ((n at size : ℕ) → R n at size → P n at size ⊎ Q n at size) → ((n at size : ℕ) → P n at size → R n at size) → ((n at size : ℕ) → Q n at size → R n at size)
    → ((n at size : ℕ) → R n at size → (at < roots.len) × (1 ≤ size))
    → AddsRoots part roots out value P a b → AddsRoots part roots out value Q b c → AddsRoots part roots out value R a c
adds_then part roots out value P Q R a b c len wr changes apart roots_live out_live either from_p from_q ranges first second = record {
  grown = λ i lt v e. second.grown i lt v (first.grown i lt v e);
  marked = λ n at size r i p v o. elim (either n at size r) [
    | inl q ↦ second.grown i (omega (arith, place_words out (length part.nets) i len (place_in part i n p), slot_low out value, slot_high out value)) v (first.marked n at size q i p v o)
    | inr q ↦ second.marked n at size q i p v (open_later part roots out value len a b wr changes apart roots_live out_live n at size i (ranges n at size r).0 (ranges n at size r).1 p v o)
  ];
  only = λ i lt v e. elim (second.only i lt v e) [
    | inr new ↦
        let r = from_q new.0 new.1 new.2 new.3 in
        let range = ranges new.0 new.1 new.2 r in
        inr (new.0, new.1, new.2, r, new.4, open_before part roots out value len a b wr changes apart roots_live out_live new.0 new.1 new.2 i range.0 range.1 new.4 v new.5)
    | inl was ↦ elim (first.only i lt v was) [
      | inl old ↦ inl old
      | inr new ↦ inr (new.0, new.1, new.2, from_p new.0 new.1 new.2 new.3, new.4, new.5)
    ]
  ];
}

-- one root: its bit, what is left of it where its net is not stronger, and the word to which that is added
module _ (part : Part) (once : (i j n : ℕ) → IsPlace part i n → IsPlace part j n → i ≡ j) (roots : Span) (out : NetWords) (value : Bool) (net handle size i : ℕ) (old a b new : Diagrams) (bit signal : H) (changed : Bool)
    (len : out.span.len ≡ net_words out.source * length part.nets) (low : 1 ≤ size) (out_live : IsFilled old out.span) (here : IsPlace part i net)
    (made : Makes old a (bit_is value (λ v. shows old roots handle v)) (Ok bit)) (wb : Writes out.span a b) (sb : b.words ≡ a.words)
    (signal_is : (v : Valuation) → (meaning b.nodes signal.0 v ≡ true) ↔ ((meaning a.nodes bit.0 v ≡ true) × (size < out.source → strong a out (size + 1) i v ≡ false)))
    (wider : IsWider out.span (word_of out (slot_of out value) i) (meaning b.nodes signal.0) changed b new) (wn : Writes out.span b new)
    (apart : (k : ℕ) → k ≢ word_of out (slot_of out value) i → word_at new out.span k ≡ word_at b out.span k) where
  wa : Writes out.span old a
  wa = writes_added out.span old a out_live made.adds

  sa : a.words ≡ old.words
  sa = adds_words old a old.words made.adds

  before : Writes out.span old b
  before = writes_then out.span old a b wa wb

  inside : word_of out (slot_of out value) i < out.span.len
  inside = omega (arith, place_words out (length part.nets) i len (place_in part i net here), slot_low out value, slot_high out value)

  same_b : (j : ℕ) → word_of out (slot_of out value) j < out.span.len → (v : Valuation) → strong b out (slot_of out value) j v ≡ strong old out (slot_of out value) j v
  same_b j lt v = shows_kept out.span out.span old b (word_of out (slot_of out value) j) v before (ap (λ (ws : List ℕ). get_or ws (out.span.start + word_of out (slot_of out value) j) 0) (sb ∙ sa)) (out_live (word_of out (slot_of out value) j) lt)

  other : (j : ℕ) → word_of out (slot_of out value) j < out.span.len → j ≢ i → (v : Valuation) → strong new out (slot_of out value) j v ≡ strong old out (slot_of out value) j v
  other j lt ne v = shows_kept out.span out.span b new (word_of out (slot_of out value) j) v wn (apart (word_of out (slot_of out value) j) (λ e. ne (words_differ out (slot_of out value) j i e))) (before.live (word_of out (slot_of out value) j) lt) ∙ same_b j lt v

  at : (v : Valuation) → strong new out (slot_of out value) i v ≡ (strong old out (slot_of out value) i v || meaning b.nodes signal.0 v)
  at v = wider.here v ∙ ap (λ (x : Bool). x || meaning b.nodes signal.0 v) (same_b i inside v)

  upper : (v : Valuation) → size < out.source → strong a out (size + 1) i v ≡ strong old out (size + 1) i v
  upper v lt = shows_kept out.span out.span old a (word_of out (size + 1) i) v wa (ap (λ (ws : List ℕ). get_or ws (out.span.start + word_of out (size + 1) i) 0) sa)
      (out_live (word_of out (size + 1) i) (level_in part out (size + 1) i net len (omega arith) (omega (arith, lt)) here))

  says : (v : Valuation) → (meaning b.nodes signal.0 v ≡ true) ↔ IsOpen roots out value handle size old i v
  says v = (
    λ e. let q = (signal_is v).0 e in ((differ_same value (shows old roots handle v)).0 (sym (made.ok.same v) ∙ q.0), λ lt. sym (upper v lt) ∙ q.1 lt),
    λ o. (signal_is v).1 (made.ok.same v ∙ (differ_same value (shows old roots handle v)).1 o.0, λ lt. upper v lt ∙ o.1 lt),
  )

  pub adds_one : AddsRoots part roots out value (λ n at' size'. (n ≡ net) × (at' ≡ handle) × (size' ≡ size)) old new
  adds_one = record {
    grown = λ j lt v e. elim (cases_eq j i) [
      | inl is ↦ subst (λ (x : ℕ). strong new out (slot_of out value) x v ≡ true) (sym is)
          (at v ∙ or_left (strong old out (slot_of out value) i v) (meaning b.nodes signal.0 v) (subst (λ (x : ℕ). strong old out (slot_of out value) x v ≡ true) is e))
      | inr ne ↦ other j lt ne v ∙ e
    ];
    marked = λ n k l q j p v o.
        let j_is : j ≡ i = once j i net (subst (IsPlace part j) q.0 p) here in
        let o' : IsOpen roots out value handle size old i v =
        subst (λ (x : ℕ). IsOpen roots out value handle size old x v) j_is (subst (λ (x : ℕ). IsOpen roots out value handle x old j v) q.2 (subst (λ (x : ℕ). IsOpen roots out value x l old j v) q.1 o)) in
        subst (λ (x : ℕ). strong new out (slot_of out value) x v ≡ true) (sym j_is)
        (at v ∙ or_right (strong old out (slot_of out value) i v) (meaning b.nodes signal.0 v) ((says v).1 o'));
    only = λ j lt v e. elim (cases_eq j i) [
      | inl is ↦ elim (or_cases (strong old out (slot_of out value) i v) (meaning b.nodes signal.0 v) (sym (at v) ∙ subst (λ (x : ℕ). strong new out (slot_of out value) x v ≡ true) is e)) [
        | inl was ↦ inl (subst (λ (x : ℕ). strong old out (slot_of out value) x v ≡ true) (sym is) was)
        | inr new' ↦ inr (net, handle, size, (refl, refl, refl), subst (λ (x : ℕ). IsPlace part x net) (sym is) here, subst (λ (x : ℕ). IsOpen roots out value handle size old x v) (sym is) ((says v).0 new'))
      ]
      | inr ne ↦ inl (sym (other j lt ne v) ∙ e)
    ];
  }

-- ---- the roots of the network

module _ (c : Circuit) (part : Part) (is_part : IsPart c part) (in_range : HasRanges c) (gates roots : Span) (out : NetWords) (value : Bool) (old a b d new : Diagrams) (words : HasRootWords c part gates roots out old)
    (zero : (i : ℕ) → i < length part.nets → word_at a out.span (word_of out (slot_of out value) i) ≡ 0) (wa : Writes out.span old a) (ca : ChangesLevel out (slot_of out value) old a)
    (wb : Writes out.span a b) (cb : ChangesLevel out (slot_of out value) a b) (wd : Writes out.span b d) (cd : ChangesLevel out (slot_of out value) b d)
    (given : AddsRoots part roots out value (IsGivenSource c part) a b) (holds : AddsRoots part roots out value (IsHoldSource c) b d)
    (pins : AddsRoots part roots out value (IsPinSource out.source (pins_of c) (length c.nets)) d new)
    (v : Valuation) (w : Network) (s : ℕ → ℕ) (is : SolvedAt c part gates roots out old v w s) where
  len : out.span.len ≡ net_words out.source * length part.nets
  len = words.words.out_len

  roots_in : (x y : Diagrams) → Writes out.span x y → IsFilled x roots → IsFilled y roots
  roots_in x y wr live k lt = omega (arith, wr.others (roots.start + k) (elim words.roots_apart [ inl l ↦ inl (omega (arith, l, lt)) | inr h ↦ inr (omega (arith, h)) ]), live k lt, wr.adds.longer)

  roots_a : IsFilled a roots
  roots_a = roots_in old a wa words.roots_live

  roots_b : IsFilled b roots
  roots_b = roots_in a b wb roots_a

  -- open at the beginning is open at each step
  to_a : (n at size i : ℕ) → at < roots.len → 1 ≤ size → IsPlace part i n → IsOpen roots out value at size old i v ↔ IsOpen roots out value at size a i v
  to_a n at size i at_in low p = (
    open_later part roots out value len old a wa ca words.roots_apart words.roots_live words.words.out_live n at size i at_in low p v,
    open_before part roots out value len old a wa ca words.roots_apart words.roots_live words.words.out_live n at size i at_in low p v,
  )

  to_b : (n at size i : ℕ) → at < roots.len → 1 ≤ size → IsPlace part i n → IsOpen roots out value at size old i v ↔ IsOpen roots out value at size b i v
  to_b n at size i at_in low p = (
    λ o. open_later part roots out value len a b wb cb words.roots_apart roots_a wa.live n at size i at_in low p v ((to_a n at size i at_in low p).0 o),
    λ o. (to_a n at size i at_in low p).1 (open_before part roots out value len a b wb cb words.roots_apart roots_a wa.live n at size i at_in low p v o),
  )

  to_d : (n at size i : ℕ) → at < roots.len → 1 ≤ size → IsPlace part i n → IsOpen roots out value at size old i v ↔ IsOpen roots out value at size d i v
  to_d n at size i at_in low p = (
    λ o. open_later part roots out value len b d wd cd words.roots_apart roots_b wb.live n at size i at_in low p v ((to_b n at size i at_in low p).0 o),
    λ o. (to_b n at size i at_in low p).1 (open_before part roots out value len b d wd cd words.roots_apart roots_b wb.live n at size i at_in low p v o),
  )

  hold_in : (at : ℕ) (hold : Hold) → At c.holds at hold → IsHold c hold
  hold_in at hold e = all_among (IsHold c) c.holds hold in_range.holds (at, e)

  pin_in : (k : ℕ) (pin : WholePin) → At (pins_of c) k pin → length c.nets + k < roots.len
  pin_in k pin e = omega (arith, slice_get_within (pins_of c) k pin e, words.roots_len)

  pin_levels : (k : ℕ) (pin : WholePin) → At (pins_of c) k pin → HasDriveLevel out.source pin
  pin_levels k pin e = subst (λ (l : ℕ). HasDriveLevel l pin) (sym words.words.source) (pin_level c pin in_range (k, e))

  -- a net that is as strong as a root is not one level stronger
  not_above : (n size i : ℕ) → IsPlace part i n → size ≡ s n → size < out.source → strong old out (size + 1) i v ≡ false
  not_above n size i p e lt = false_from_ne_true (strong old out (size + 1) i v)
      (λ on. let le = at_least-strength w n (s n) (size + 1) (is.strength n) ((is.solved (size + 1) (omega arith) (omega (arith, lt)) i n p).0 on) in omega (arith, le, e))

  -- a root of an output outside the part is weaker than a given net
  pin_outside : (pin : WholePin) (n : ℕ) → Among (pins_of c) pin → n ≡ pin.net.0 → ((i : ℕ) → IsPlace part i n → ⊥) → IsGiven c n → level_of_drive out.source pin.drive < out.source
  pin_outside pin n m net none q =
      elim (drive_below c pin.drive (pin_ranges c pin in_range m).1) [
        | inr lt ↦ subst (λ (l : ℕ). level_of_drive l pin.drive < l) (sym words.words.source) lt
        | inl soft ↦ absurd (let there = is.soft pin m soft (subst (IsGiven c) net q) in none there.0 (subst (IsPlace part there.0) (sym net) there.1))
      ]

  pub source_roots : HasReachRoots c part out value new v w s
  source_roots root r k =
      elim r [
        | inl g ↦
            let there : At c.nets root.net g.0 = subst (λ (ns : List FlatNet). At ns root.net g.0) is.stands.nets g.1 in
            let given_net : IsGiven c root.net = (g.0, there, g.2) in (
              λ i p.
                  let n_in : root.net < length c.nets = slice_get_within c.nets root.net g.0 there in
                  let bit : shows old roots root.net v ≡ value = is.given root.net n_in ∙ sym g.4 ∙ k.1 in
                  let lt = slot_place c part is_part in_range gates roots out value old i root.net words p in
                  pins.grown i lt v (holds.grown i lt v
                  (given.marked root.net root.net (source_level c) ((i, p), given_net, refl, refl) i p v
                  ((to_a root.net root.net (source_level c) i (omega (arith, n_in, words.roots_len)) (source_low c) p).0 (bit, λ l. absurd (omega (arith, l, words.words.source)))))),
              λ none q. sym g.4 ∙ k.1,
            )
        | inr other ↦ elim other [
          | inl h ↦
              let there : At c.holds h.0 h.1 = subst (λ (hs : List Hold). At hs h.0 h.1) is.stands.holds h.2 in
              let size : root.level ≡ h.1.size = h.4 in
              let range = hold_in h.0 h.1 there in
              let bit : shows old roots h.1.net.0 v ≡ value = is.held h.0 h.1 there ∙ sym h.5 ∙ k.1 in
              let strength : h.1.size ≡ s h.1.net.0 = sym size ∙ k.0 ∙ ap s h.3 in (
                λ i p.
                    let p' : IsPlace part i h.1.net.0 = subst (IsPlace part i) h.3 p in
                    pins.grown i (slot_place c part is_part in_range gates roots out value old i root.net words p) v
                    (holds.marked h.1.net.0 h.1.net.0 h.1.size (h.0, h.1, there, refl, refl, refl) i p' v
                    ((to_b h.1.net.0 h.1.net.0 h.1.size i (omega (arith, range.net, words.roots_len)) range.size.0 p').0 (bit, not_above h.1.net.0 h.1.size i p' strength))),
                λ none q. absurd (omega (arith, given_strength c part is_part in_range gates roots out value old v w root.net (s root.net) is.stands (is.strength root.net) q, k.0, size, (hold_below c h.1.size range.size).1)),
              )
          | inr o ↦
              let pin : WholePin = o.1 in
              let there : At (pins_of c) o.0 pin = subst (λ (ps : List WholePin). At ps o.0 pin) is.stands.outputs o.2 in
              let level : ℕ = level_of_drive out.source pin.drive in
              let size : root.level ≡ level = o.4 ∙ ap (λ (x : ℕ). level_of_drive x pin.drive) (is.stands.source ∙ sym words.words.source) in
              let bit : shows old roots (length c.nets + o.0) v ≡ value = is.driven o.0 pin there ∙ sym o.5 ∙ k.1 in
              let strength : level ≡ s pin.net.0 = sym size ∙ k.0 ∙ ap s o.3 in (
                λ i p.
                    let p' : IsPlace part i pin.net.0 = subst (IsPlace part i) o.3 p in
                    pins.marked pin.net.0 (length c.nets + o.0) level (o.0, pin, there, refl, refl, refl) i p' v
                    ((to_d pin.net.0 (length c.nets + o.0) level i (pin_in o.0 pin there) (pin_levels o.0 pin there).0 p').0 (bit, not_above pin.net.0 level i p' strength)),
                λ none q. absurd (omega (
                  arith,
                  given_strength c part is_part in_range gates roots out value old v w root.net (s root.net) is.stands (is.strength root.net) q,
                  k.0,
                  size,
                  words.words.source,
                  pin_outside pin root.net (o.0, there) o.3 none q,
                )),
              )
        ]
      ]

  at_most : (m size j : ℕ) → IsPlace part j m → (size < out.source → strong old out (size + 1) j v ≡ false) → s m ≤ size
  at_most m size j q off =
      elim (cases_lt size out.source) [
        | inr top ↦ omega (arith, top, words.words.source, strength_most c part is_part in_range gates roots out value old v w m (s m) is.stands (is.strength m))
        | inl lt ↦ elim (cases_lt size (s m)) [
          | inr done ↦ done
          | inl up ↦
              let at : AtLeast w (size + 1) m = strength-at_least w m (s m) (size + 1) (omega arith) (is.strength m) (omega (arith, up)) in
              absurd (false≢true (sym (off lt) ∙ (is.solved (size + 1) (omega arith) (omega (arith, lt)) j m q).1 at))
        ]
      ]

  -- at the net of a root that is open a path ends that fits
  fits_from : (root : Root) (at size i n : ℕ) → IsRoot w root → root.level ≡ size → at < roots.len → 1 ≤ size → IsPlace part i root.net → IsPlace part i n
      → shows old roots at v ≡ root.value → IsOpen roots out value at size old i v → Arrives w (RootFits s value) (HopFits s) n
  fits_from root at size i n is_root level at_in low q p bit o =
      let below : size ≤ s root.net = at_least-strength w root.net (s root.net) size (is.strength root.net) (arrives_root w (RootHas size) (HopHas size) root is_root (omega (arith, level))) in
      let above : s root.net ≤ size = at_most root.net size i q o.1 in
      subst (Arrives w (RootFits s value) (HopFits s)) (place_once part i root.net n q p)
      (arrives_root w (RootFits s value) (HopFits s) root is_root (omega (arith, below, above, level), sym bit ∙ o.0))

  pub source_paths : HasReachPaths part out value new v w s
  source_paths i n p e =
      let lt = slot_place c part is_part in_range gates roots out value old i n words p in
      elim (pins.only i lt v e) [
        | inr x ↦
            let h = x.3 in
            let pin : WholePin = h.1 in
            let root : Root = record { net = pin.net.0; level = level_of_drive w.source pin.drive; value = w.driven h.0 } in
            let there : At w.outputs h.0 pin = subst (λ (ps : List WholePin). At ps h.0 pin) (sym is.stands.outputs) h.2 in
            let low : 1 ≤ x.2 = (let lowest = (pin_levels h.0 pin h.2).0 in let same = h.5 in omega (arith, lowest, same)) in
            let at_in : x.1 < roots.len = (let inside = pin_in h.0 pin h.2 in let same = h.4 in omega (arith, inside, same)) in
            fits_from root x.1 x.2 i n (inr (inr (h.0, pin, there, refl, refl, refl))) (ap (λ (y : ℕ). level_of_drive y pin.drive) (is.stands.source ∙ sym words.words.source) ∙ h.5) at_in low
            (subst (IsPlace part i) (sym h.3) x.4) p (ap (λ (m : ℕ). shows old roots m v) h.4 ∙ is.driven h.0 pin h.2) ((to_d x.0 x.1 x.2 i at_in low x.4).1 x.5)
        | inl later ↦ elim (holds.only i lt v later) [
          | inr x ↦
              let h = x.3 in
              let hold : Hold = h.1 in
              let range = hold_in h.0 hold h.2 in
              let root : Root = record { net = hold.net.0; level = hold.size; value = w.held h.0 } in
              let there : At w.holds h.0 hold = subst (λ (hs : List Hold). At hs h.0 hold) (sym is.stands.holds) h.2 in
              let low : 1 ≤ x.2 = (let lowest = range.size.0 in let same = h.5 in omega (arith, lowest, same)) in
              let at_in : x.1 < roots.len = (let inside = range.net in let net = h.3 in let same = h.4 in omega (arith, inside, net, same, words.roots_len)) in
              fits_from root x.1 x.2 i n (inr (inl (h.0, hold, there, refl, refl, refl))) h.5 at_in low
              (subst (IsPlace part i) (sym h.3) x.4) p (ap (λ (m : ℕ). shows old roots m v) (h.4 ∙ sym h.3) ∙ is.held h.0 hold h.2) ((to_b x.0 x.1 x.2 i at_in low x.4).1 x.5)
          | inl was ↦ elim (given.only i lt v was) [
            | inl none ↦ absurd (false≢true (sym (meaning_zero a.nodes v) ∙ sym (ap (λ (h : ℕ). meaning a.nodes h v) (zero i (place_in part i n p))) ∙ none))
            | inr x ↦
                let g = x.3 in
                let n_in : x.0 < length c.nets = slice_get_within c.nets x.0 g.1.0 g.1.1 in
                let root : Root = record { net = x.0; level = source_level c; value = w.given x.0 } in
                let there : At w.nets x.0 g.1.0 = subst (λ (ns : List FlatNet). At ns x.0 g.1.0) (sym is.stands.nets) g.1.1 in
                let low : 1 ≤ x.2 = (let top = g.3 in omega (arith, top, source_low c)) in
                let at_in : x.1 < roots.len = (let same = g.2 in omega (arith, n_in, same, words.roots_len)) in
                fits_from root x.1 x.2 i n (inl (g.1.0, there, g.1.2, sym is.stands.source, refl)) (sym g.3) at_in low x.4 p
                (ap (λ (m : ℕ). shows old roots m v) g.2 ∙ is.given x.0 n_in) ((to_a x.0 x.1 x.2 i at_in low x.4).1 x.5)
          ]
        ]
      ]
