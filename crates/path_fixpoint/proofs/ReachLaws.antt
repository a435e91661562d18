-- Rounds of one value, taken at each valuation by itself: they end where the marks are at exactly the nets that the value
-- reaches.
use Rattle.std.proofs.Common.{◌≡◌, ℕ, ◌+◌, ◌<◌, ◌≤◌, ◌⊎◌, min, ◌&&◌, Bool, true, false, not, List, length, Option, Some, None, get_or, arith, ap, refl, sym, subst, ◌∙◌, inl, inr}
use Rattle.std.specs.Prelude.{◌↔◌}
use Rattle.std.proofs.lemmas.Bool.{cases_lt, false≢true}
use Rattle.std.proofs.lemmas.Option.{same_Some, slice_get_within}
use Rattle.node_pool.specs.declared.region.Span.{Span}
use Rattle.bdd_core.specs.Diagram.{Valuation, meaning}
use Rattle.bdd_core.specs.Store.{Diagrams}
use Rattle.vrt_model.proofs.Clear.{HopFits, RootFits, arrives-reaches, reaches-arrives}
use Rattle.vrt_model.proofs.GivenNets.{level_most}
use Rattle.vrt_model.proofs.Members.{all_among}
use Rattle.vrt_model.proofs.PathKinds.{Arrives, arrives_on, arrives_root, closed_end}
use Rattle.vrt_model.proofs.Strength.{at_least-strength, at_least_on, strength-at_least}
use Rattle.vrt_model.specs.Circuits.{IsHold}
use Rattle.vrt_model.specs.Networks.{HasLevels, HasRanges}
use Rattle.vrt_model.specs.Levels.{source_level}
use Rattle.vrt_model.specs.Lists.{At, Among, differ}
use Rattle.vrt_model.specs.Path.{IsOn, Joins, Network, Root, level_of_drive}
use Rattle.vrt_model.specs.Reading.{conducts, conducts_at}
use Rattle.vrt_model.specs.Response.{IsStrength}
use Rattle.vrt_model.specs.declared.circuit.Circuit.{Circuit}
use Rattle.vrt_model.specs.declared.circuit.Device.{Device}
use Rattle.vrt_model.specs.declared.circuit.FlatNet.{FlatNet}
use Rattle.vrt_model.specs.declared.circuit.Hold.{Hold}
use Rattle.vrt_model.specs.declared.whole.WholePin.{WholePin}
use Rattle.channel_parts.specs.declared.part.Part.{Part}
use Rattle.path_fixpoint.specs.declared.side.Side.{Side}
use Rattle.path_fixpoint.specs.declared.side.Side.TheVariants.{Inside, Outside}
use Rattle.path_fixpoint.specs.Parts.{IsGiven, IsPart, IsPlace, is_on_side, part_devices, pins_of}
use Rattle.path_fixpoint.specs.Reaching.{FitsAt, HasReach, HasReachPaths, HasReachPassed, HasReachRoots, HasRootWords, IsReached, PassesSignal, SolvedAt, offered_end, reached_end, slot_of}
use Rattle.path_fixpoint.specs.Strengths.{ChangesLevel, StandsAt, StrongGrows, strong, strong_end, word_of}
use Rattle.bdd_core.specs.Words.{Writes, shows}
use Rattle.path_fixpoint.proofs.Counts.{count, count_all, none_counted, same_or_more}
use Rattle.bdd_core.proofs.Frames.{filled_beside, shows_beside, shows_kept, span_written}
use Rattle.path_fixpoint.proofs.Passing.{given_path}
use Rattle.path_fixpoint.proofs.PinLaws.{pin_level}
use Rattle.path_fixpoint.proofs.Places.{EndIs, levels_differ, on_a_side, place_in, place_once, place_words}
use Rattle.path_fixpoint.proofs.RoundLaws.{level_stays, stands_kept, words_kept}
use Rattle.path_fixpoint.proofs.SourceLevels.{device_below, hold_below}
use Rattle.path_fixpoint.proofs.Spreading.{device_ranges}
use Rattle.path_fixpoint.specs.Strengths.{net_words}
use Rattle.path_fixpoint.specs.declared.words.NetWords.{NetWords}

pub slot_low : (out : NetWords) (value : Bool) → out.source + 1 ≤ slot_of out value
slot_low out true = omega arith
slot_low out false = omega arith

pub slot_high : (out : NetWords) (value : Bool) → slot_of out value ≤ net_words out.source
slot_high out true = omega arith
slot_high out false = omega arith

-- the words of one value are not those of the other
pub values_differ : (out : NetWords) (i j : ℕ) → word_of out (slot_of out false) i ≡ word_of out (slot_of out true) j → ⊥
values_differ out i j e =
    let same : slot_of out false ≡ slot_of out true = levels_differ out (slot_of out false) (slot_of out true) i j (omega arith) (omega arith) (omega arith) (omega arith) e in
    omega (arith, same)

-- a bit that is compared with a value
pub differ_same : (value b : Bool) → (differ (not value) b ≡ true) ↔ (b ≡ value)
differ_same true b = (λ e. e, λ e. e)
differ_same false true = (λ e. absurd (false≢true e), λ e. absurd (false≢true (sym e)))
differ_same false false = (λ e. refl, λ e. refl)

module _ (c : Circuit) (part : Part) (is_part : IsPart c part) (in_range : HasRanges c) (gates roots : Span) (out : NetWords) (value : Bool) where
  pub slot_in : (d : Diagrams) (i : ℕ) → HasRootWords c part gates roots out d → i < length part.nets → word_of out (slot_of out value) i < out.span.len
  slot_in d i words lt = omega (arith, place_words out (length part.nets) i words.words.out_len lt, slot_low out value, slot_high out value)

  pub slot_place : (d : Diagrams) (i n : ℕ) → HasRootWords c part gates roots out d → IsPlace part i n → word_of out (slot_of out value) i < out.span.len
  slot_place d i n words p = slot_in d i words (place_in part i n p)

  pub root_words_kept : (old new : Diagrams) → HasRootWords c part gates roots out old → Writes out.span old new → HasRootWords c part gates roots out new
  root_words_kept old new words w = record {
    words = words_kept c part gates out old new words.words w;
    roots_span = span_written out.span roots old new w words.roots_span;
    roots_len = words.roots_len;
    roots_live = filled_beside out.span roots old new w words.roots_apart words.roots_live;
    roots_apart = words.roots_apart;
  }

  pub solved_kept : (old new : Diagrams) (v : Valuation) (w : Network) (s : ℕ → ℕ) → HasRootWords c part gates roots out old → Writes out.span old new
      → ChangesLevel out (slot_of out value) old new → SolvedAt c part gates roots out old v w s → SolvedAt c part gates roots out new v w s
  solved_kept old new v w s words wr changes is = record {
    stands = stands_kept c part gates out old new v w words.words wr is.stands;
    source = is.source;
    given = λ n lt. shows_beside out.span roots old new n v wr words.roots_apart words.roots_live (omega (arith, lt, words.roots_len)) ∙ is.given n lt;
    held = λ at hold e.
        let lt = (all_among (IsHold c) c.holds hold in_range.holds (at, e)).net in
        shows_beside out.span roots old new hold.net.0 v wr words.roots_apart words.roots_live (omega (arith, lt, words.roots_len)) ∙ is.held at hold e;
    driven = λ at pin e.
        let lt = slice_get_within (pins_of c) at pin e in
        shows_beside out.span roots old new (length c.nets + at) v wr words.roots_apart words.roots_live (omega (arith, lt, words.roots_len)) ∙ is.driven at pin e;
    soft = is.soft;
    strength = is.strength;
    solved = λ level low high.
        level_stays c part gates out level (slot_of out value) old new v w low high (omega (arith, slot_low out value)) (slot_high out value) (λ e. omega (arith, e, high, slot_low out value)) words.words wr changes (is.solved level low high);
  }

  -- roots and devices of the network are in range
  pub levels_of : (d : Diagrams) (v : Valuation) (w : Network) → StandsAt c part gates d v w → HasLevels w
  levels_of d v w st = record {
    roots = λ root r. elim r [
      | inl g ↦ omega (arith, g.3)
      | inr other ↦ elim other [
        | inl h ↦
            let there : At c.holds h.0 h.1 = subst (λ (hs : List Hold). At hs h.0 h.1) st.holds h.2 in
            omega (arith, h.4, (hold_below c h.1.size (all_among (IsHold c) c.holds h.1 in_range.holds (h.0, there)).size).1, st.source)
        | inr o ↦
            let there : At (pins_of c) o.0 o.1 = subst (λ (ps : List WholePin). At ps o.0 o.1) st.outputs o.2 in
            let size : root.level ≡ level_of_drive (source_level c) o.1.drive = o.4 ∙ ap (λ (s : ℕ). level_of_drive s o.1.drive) st.source in
            omega (arith, size, (pin_level c o.1 in_range (o.0, there)).1, st.source)
      ]
    ];
    devices = λ dev on. omega (arith, (device_below c dev.level (device_ranges c part dev in_range (subst (λ (ds : List Device). Among ds dev) st.devices on.0)).level).1, st.source);
  }

  pub strength_most : (d : Diagrams) (v : Valuation) (w : Network) (n s : ℕ) → StandsAt c part gates d v w → IsStrength w n s → s ≤ source_level c
  strength_most d v w n s st is =
      elim is.1 [ inl z ↦ omega (arith, z) | inr q ↦ omega (arith, q.4, level_most w (levels_of d v w st) q.0 q.1 q.2, st.source) ]

  -- a net with a given value has the source level
  pub given_strength : (d : Diagrams) (v : Valuation) (w : Network) (n s : ℕ) → StandsAt c part gates d v w → IsStrength w n s → IsGiven c n → source_level c ≤ s
  given_strength d v w n s st is given = at_least-strength w n s (source_level c) is (given_path c w (source_level c) n st.nets (omega (arith, st.source)) given)

  -- the end of a channel shows what it showed before a step that wrote no word
  pub end_kept : (old new : Diagrams) (v : Valuation) (o : Option ℕ) (n : ℕ) → HasRootWords c part gates roots out old → Writes out.span old new → new.words ≡ old.words
      → EndIs part o n → n < length c.nets → reached_end new roots out value o n v ≡ reached_end old roots out value o n v
  end_kept old new v (Some i) n words wr same is lt =
      shows_kept out.span out.span old new (word_of out (slot_of out value) i) v wr (ap (λ (ws : List ℕ). get_or ws (out.span.start + word_of out (slot_of out value) i) 0) same)
      (words.words.out_live (word_of out (slot_of out value) i) (slot_place old i n words is.some))
  end_kept old new v None n words wr same is lt =
      ap (λ (b : Bool). differ (not value) b) (shows_beside out.span roots old new n v wr words.roots_apart words.roots_live (omega (arith, lt, words.roots_len)))

  pub offered_kept : (old new : Diagrams) (v : Valuation) (side : Side) (o : Option ℕ) (n : ℕ) → HasRootWords c part gates roots out old → Writes out.span old new → new.words ≡ old.words
      → EndIs part o n → n < length c.nets → offered_end new roots out value side o n v ≡ offered_end old roots out value side o n v
  offered_kept old new v side o n words wr same is lt = ap (λ (b : Bool). is_on_side side o && b) (end_kept old new v o n words wr same is lt)

  -- ---- where a device fits the strengths

  module _ (d : Diagrams) (v : Valuation) (w : Network) (s : ℕ → ℕ) (is : SolvedAt c part gates roots out d v w s) (dev : Device) (on : IsOn w dev)
      (m n : ℕ) (joins : Joins dev m n) (from : Option ℕ) (i : ℕ) (from_is : EndIs part from m) (outside : from ≡ None → IsGiven c m) (to_is : IsPlace part i n) where
    -- at the one end, the words and the strength say the same
    end_says : (level : ℕ) (o : Option ℕ) → o ≡ from → 1 ≤ level → level ≤ out.source → (strong_end d out level o v ≡ true) ↔ (level ≤ s m)
    end_says level None e low high = (λ q. omega (arith, high, is.source, given_strength d v w m (s m) is.stands (is.strength m) (outside (sym e))), λ q. refl)
    end_says level (Some j) e low high =
        let here : IsPlace part j m = (subst (λ (o : Option ℕ). EndIs part o m) (sym e) from_is).some in (
          λ q. at_least-strength w m (s m) level (is.strength m) ((is.solved level low high j m here).0 q),
          λ le. (is.solved level low high j m here).1 (strength-at_least w m (s m) level (omega (arith, low)) (is.strength m) le),
        )

    there_says : (level : ℕ) → 1 ≤ level → level ≤ out.source → (strong d out level i v ≡ true) ↔ (level ≤ s n)
    there_says level low high = (
      λ q. at_least-strength w n (s n) level (is.strength n) ((is.solved level low high i n to_is).0 q),
      λ le. (is.solved level low high i n to_is).1 (strength-at_least w n (s n) level (omega (arith, low)) (is.strength n) le),
    )

    -- what the device brings is no more than the strength
    brings : min (s m) dev.level ≤ s n
    brings = elim (cases_lt 0 (s m)) [
      | inl pos ↦ at_least-strength w n (s n) (min (s m) dev.level) (is.strength n)
          (at_least_on w (s m) m n dev (strength-at_least w m (s m) (s m) pos (is.strength m) (omega arith)) on joins)
      | inr none ↦ omega (arith, none)
    ]

    most : s n ≤ out.source
    most = omega (arith, strength_most d v w n (s n) is.stands (is.strength n), is.source)

    pub fits_hop : FitsAt d out from i dev.level v → HopFits s m dev n
    fits_hop fits =
        elim (cases_lt 0 (s n)) [
          | inl pos ↦
              let h = fits (s n) (omega (arith, pos)) most ((there_says (s n) (omega (arith, pos)) most).1 (omega arith)) in
              omega (arith, brings, h.0, (end_says (s n) from refl (omega (arith, pos)) most).0 h.1)
          | inr none ↦ omega (arith, none, brings)
        ]

    pub hop_fits : HopFits s m dev n → FitsAt d out from i dev.level v
    hop_fits e level low high on' =
        let le = (there_says level low high).0 on' in
        (omega (arith, e, le), (end_says level from refl low high).1 (omega (arith, e, le)))

  -- ---- the end of a channel

  module _ (d : Diagrams) (v : Valuation) (w : Network) (s : ℕ → ℕ) (is : SolvedAt c part gates roots out d v w s) (m : ℕ) (from : Option ℕ) (from_is : EndIs part from m)
      (outside : from ≡ None → IsGiven c m) (m_in : m < length c.nets) where
    -- one that is marked shows the value
    pub end_reached : (o : Option ℕ) → o ≡ from → IsReached c part out value d v w m → reached_end d roots out value o m v ≡ true
    end_reached None e r =
        (differ_same value (shows d roots m v)).1 (is.given m m_in ∙ r.1 ((subst (λ (o : Option ℕ). EndIs part o m) (sym e) from_is).none refl) (outside (sym e)))
    end_reached (Some j) e r = r.0 j (subst (λ (o : Option ℕ). EndIs part o m) (sym e) from_is).some

    -- one that shows the value is the end of a path
    pub end_arrives : (o : Option ℕ) → o ≡ from → HasReachPaths part out value d v w s → reached_end d roots out value o m v ≡ true → Arrives w (RootFits s value) (HopFits s) m
    end_arrives (Some j) e paths q = paths j m (subst (λ (o : Option ℕ). EndIs part o m) (sym e) from_is).some q
    end_arrives None e paths q =
        let given = outside (sym e) in
        let root : Root = record { net = m; level = source_level c; value = w.given m } in
        let at : At w.nets m given.0 = subst (λ (ns : List FlatNet). At ns m given.0) (sym is.stands.nets) given.1 in
        let level : source_level c ≡ s m = omega (arith, given_strength d v w m (s m) is.stands (is.strength m) given, strength_most d v w m (s m) is.stands (is.strength m)) in
        arrives_root w (RootFits s value) (HopFits s) root (inl (given.0, at, given.2, sym is.stands.source, refl)) (level, sym (is.given m m_in) ∙ (differ_same value (shows d roots m v)).0 q)

  -- ---- one direction of a device

  module _ (old new : Diagrams) (words : HasRootWords c part gates roots out old) (dev : Device) (member : Among (part_devices c part) dev)
      (m n gate signal : ℕ) (from to : Option ℕ) (from_is : EndIs part from m) (to_is : EndIs part to n) (outside : from ≡ None → IsGiven c m)
      (changed : Bool) (p : PassesSignal out value dev.kind gate signal from to dev.level changed old new) where
    module _ (v : Valuation) (w : Network) (s : ℕ → ℕ) (is : SolvedAt c part gates roots out old v w s) (joins : Joins dev m n) (there : Among w.devices dev)
        (gate_is : conducts_at dev.kind (meaning old.nodes gate v) ≡ conducts w.reading dev) where
      placed : (o : Option ℕ) → o ≡ to → (i : ℕ) → IsPlace part i n → to ≡ Some i
      placed None e i q = absurd ((subst (λ (o : Option ℕ). EndIs part o n) (sym e) to_is).none refl i q)
      placed (Some j) e i q = sym e ∙ ap Some (is_part.once j i n (subst (λ (o : Option ℕ). EndIs part o n) (sym e) to_is).some q)

      place_of : (o : Option ℕ) → o ≡ to → (i : ℕ) → to ≡ Some i → IsPlace part i n
      place_of None e i q = absurd (cc (e, q))
      place_of (Some j) e i q = subst (λ (x : ℕ). IsPlace part x n) (same_Some j i (e ∙ q)) (subst (λ (o : Option ℕ). EndIs part o n) (sym e) to_is).some

      pub over_value : conducts w.reading dev ≡ true → HopFits s m dev n → meaning old.nodes signal v ≡ true → IsReached c part out value new v w n
      over_value on fits seen = (
        λ i q. p.passed i (placed to refl i q) v (gate_is ∙ on) seen (hop_fits old v w s is dev (there, on) m n joins from i from_is outside q fits),
        λ none given. absurd (omega (arith, fits, given_strength old v w n (s n) is.stands (is.strength n) given, (device_below c dev.level (device_ranges c part dev in_range member).level).1)),
      )

      pub over_value_paths : (meaning old.nodes signal v ≡ true → Arrives w (RootFits s value) (HopFits s) m) → HasReachPaths part out value old v w s → HasReachPaths part out value new v w s
      over_value_paths arrives paths i k q e =
          elim (p.only i (slot_place old i k words q) v e) [
            | inl was ↦ paths i k q was
            | inr added ↦
                let here : IsPlace part i n = place_of to refl i added.0 in
                let on : conducts w.reading dev ≡ true = sym gate_is ∙ added.1 in
                subst (Arrives w (RootFits s value) (HopFits s)) (place_once part i n k here q)
                (arrives_on w (RootFits s value) (HopFits s) m n dev (arrives added.2) (there, on) joins
                (fits_hop old v w s is dev (there, on) m n joins from i from_is outside here added.3))
          ]

  -- ---- rounds

  abbrev pub HasAllReached : Diagrams → Valuation → Network → (ℕ → ℕ) → Type 0
  HasAllReached d v w s = (n : ℕ) → Arrives w (RootFits s value) (HopFits s) n → IsReached c part out value d v w n

  pub reached_grown : (old new : Diagrams) (v : Valuation) (w : Network) (n : ℕ) → HasRootWords c part gates roots out old → StrongGrows out (slot_of out value) old new
      → IsReached c part out value old v w n → IsReached c part out value new v w n
  reached_grown old new v w n words grown r = (λ i p. grown i (slot_place old i n words p) v (r.0 i p), r.1)

  -- what devices pass on from outside the part is marked
  abbrev pub IsReachEntered : Diagrams → Valuation → Network → (ℕ → ℕ) → Type 0
  IsReachEntered d v w s = (dev : Device) → Among (part_devices c part) dev → HasReachPassed c part out value Outside dev d d v w s

  pub reach_closed : (d : Diagrams) (v : Valuation) (w : Network) (s : ℕ → ℕ) → w.devices ≡ part_devices c part → HasReachRoots c part out value d v w s → IsReachEntered d v w s
      → ((dev : Device) → Among (part_devices c part) dev → HasReachPassed c part out value Inside dev d d v w s) → HasAllReached d v w s
  reach_closed d v w s devices rooted entered passed n r =
      subst (IsReached c part out value d v w) r.4
      (closed_end w (RootFits s value) (HopFits s) (IsReached c part out value d v w) rooted
      (λ m k dev on j fits q.
      let among = subst (λ (ds : List Device). Among ds dev) devices on.0 in
      elim (on_a_side part m) [ inl here ↦ passed dev among on m k j fits here q | inr away ↦ entered dev among on m k j fits away q ]) r.0 r.1 r.2 r.3)

  -- what was passed on from outside stays, since no mark stands there
  pub reach_entered : (old new : Diagrams) (v : Valuation) (w : Network) (s : ℕ → ℕ) → HasRootWords c part gates roots out old → StrongGrows out (slot_of out value) old new
      → ((dev : Device) → Among (part_devices c part) dev → HasReachPassed c part out value Outside dev old old v w s ⊎ HasReachPassed c part out value Outside dev old new v w s)
      → IsReachEntered new v w s
  reach_entered old new v w s words grown passed dev among on m k j fits away q =
      let before : IsReached c part out value old v w m = (λ i p. absurd (away i p), q.1) in
      elim (passed dev among) [
        | inl stays ↦ reached_grown old new v w k words grown (stays on m k j fits away before)
        | inr got ↦ got on m k j fits away before
      ]

  pub reach_from : (d : Diagrams) (v : Valuation) (w : Network) (s : ℕ → ℕ) → ((n : ℕ) → IsStrength w n (s n)) → HasReachPaths part out value d v w s → HasAllReached d v w s → HasReach part out value d v w
  reach_from d v w s strength paths all i n p = (λ e. arrives-reaches w s strength value n (paths i n p e), λ r. (all n (reaches-arrives w s strength value n r)).0 i p)

  -- a step that wrote no word changed no mark
  pub value_same : (old new : Diagrams) (i : ℕ) (v : Valuation) → HasRootWords c part gates roots out old → Writes out.span old new → new.words ≡ old.words → i < length part.nets
      → strong new out (slot_of out value) i v ≡ strong old out (slot_of out value) i v
  value_same old new i v words wr same lt =
      shows_kept out.span out.span old new (word_of out (slot_of out value) i) v wr (ap (λ (ws : List ℕ). get_or ws (out.span.start + word_of out (slot_of out value) i) 0) same)
      (words.words.out_live (word_of out (slot_of out value) i) (slot_in old i words lt))

-- what a path through a given net outside the part brings is said by its root alone; so a mark is set for each round, or
-- all are
abbrev pub HasReachProgress : Circuit → Part → NetWords → Bool → ℕ → Diagrams → Valuation → Network → (ℕ → ℕ) → Type 0
HasReachProgress c part out value rounds d v w s =
    ((n : ℕ) → Arrives w (RootFits s value) (HopFits s) n → IsReached c part out value d v w n) ⊎ (rounds ≤ count (λ i. strong d out (slot_of out value) i v) (length part.nets))

module _ (c : Circuit) (part : Part) (is_part : IsPart c part) (in_range : HasRanges c) (gates roots : Span) (out : NetWords) (value : Bool) where
  -- where no net is marked, what comes from outside is all that there is
  pub reach_first : (old new : Diagrams) (v : Valuation) (w : Network) (s : ℕ → ℕ) → HasRootWords c part gates roots out old → w.devices ≡ part_devices c part
      → StrongGrows out (slot_of out value) old new → HasReachRoots c part out value old v w s → IsReachEntered c part is_part in_range gates roots out value new v w s
      → HasReachProgress c part out value 1 new v w s
  reach_first old new v w s words devices grown rooted entered =
      elim (cases_lt 0 (count (λ i. strong new out (slot_of out value) i v) (length part.nets))) [
        | inl some ↦ inr (omega (arith, some))
        | inr none ↦ inl (reach_closed c part is_part in_range gates roots out value new v w s devices
            (λ root r k. reached_grown c part is_part in_range gates roots out value old new v w root.net words grown (rooted root r k)) entered
            (λ dev among on m k j fits here q.
            absurd (none_counted (λ i. strong new out (slot_of out value) i v) (length part.nets) (omega (arith, none)) here.0 (place_in part here.0 m here.1) (q.0 here.0 here.1))))
      ]

  pub reach_progress : (rounds : ℕ) (old new : Diagrams) (v : Valuation) (w : Network) (s : ℕ → ℕ) → HasRootWords c part gates roots out old → w.devices ≡ part_devices c part
      → StrongGrows out (slot_of out value) old new → IsReachEntered c part is_part in_range gates roots out value old v w s
      → ((dev : Device) → Among (part_devices c part) dev → HasReachPassed c part out value Inside dev old new v w s)
      → HasReachRoots c part out value old v w s → HasReachProgress c part out value rounds old v w s → HasReachProgress c part out value (rounds + 1) new v w s
  reach_progress rounds old new v w s words devices grown entered passed rooted (inl all) =
      inl (λ n r. reached_grown c part is_part in_range gates roots out value old new v w n words grown (all n r))
  reach_progress rounds old new v w s words devices grown entered passed rooted (inr le) =
      elim (same_or_more (λ i. strong old out (slot_of out value) i v) (λ i. strong new out (slot_of out value) i v) (length part.nets)
      (λ i lt. grown i (slot_in c part is_part in_range gates roots out value old i words lt) v)) [
        | inr more ↦ inr (omega (arith, le, more))
        | inl same ↦
            inl (λ n r. reached_grown c part is_part in_range gates roots out value old new v w n words grown
            (reach_closed c part is_part in_range gates roots out value old v w s devices rooted entered
            (λ dev m on a b j fits here q. let got = passed dev m on a b j fits here q in (λ i p. same.0 i (place_in part i b p) (got.0 i p), got.1)) n r))
      ]

  -- where each net of the part is marked, as after as many rounds as the part has nets, the value reaches all of them
  pub reach_all : (rounds : ℕ) (d : Diagrams) (v : Valuation) (w : Network) (s : ℕ → ℕ) → length part.nets ≤ rounds → HasReachProgress c part out value rounds d v w s
      → (n : ℕ) → Arrives w (RootFits s value) (HopFits s) n → (i : ℕ) → IsPlace part i n → strong d out (slot_of out value) i v ≡ true
  reach_all rounds d v w s enough (inl all) n r i p = (all n r).0 i p
  reach_all rounds d v w s enough (inr le) n r i p = count_all (λ j. strong d out (slot_of out value) j v) (length part.nets) (omega (arith, enough, le)) i (place_in part i n p)

  pub reach_from_marks : (d : Diagrams) (v : Valuation) (w : Network) (s : ℕ → ℕ) → ((n : ℕ) → IsStrength w n (s n)) → HasReachPaths part out value d v w s
      → ((n : ℕ) → Arrives w (RootFits s value) (HopFits s) n → (i : ℕ) → IsPlace part i n → strong d out (slot_of out value) i v ≡ true) → HasReach part out value d v w
  reach_from_marks d v w s strength paths all i n p = (λ e. arrives-reaches w s strength value n (paths i n p e), λ r. all n (reaches-arrives w s strength value n r) i p)
