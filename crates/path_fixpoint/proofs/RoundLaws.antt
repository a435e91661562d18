-- Rounds of one level of strength, taken at each valuation by itself: they end where the marks are at exactly the nets at
-- which a path of at least this level ends.
use Rattle.std.proofs.Common.{◌≡◌, ◌≢◌, ℕ, ◌+◌, ◌<◌, ◌≤◌, ◌⊎◌, List, length, get_or, arith, ap, sym, subst, ◌∙◌, inl, inr}
use Rattle.std.proofs.lemmas.Bool.{cases_lt}
use Rattle.node_pool.specs.declared.region.Span.{Span}
use Rattle.bdd_core.specs.Diagram.{Valuation}
use Rattle.bdd_core.specs.Store.{Diagrams}
use Rattle.vrt_model.proofs.PathKinds.{closed_end}
use Rattle.vrt_model.proofs.Strength.{AtLeast, HopHas, RootHas, at_least-strength, strength-at_least}
use Rattle.vrt_model.specs.Lists.{Among}
use Rattle.vrt_model.specs.Path.{Network}
use Rattle.vrt_model.specs.declared.circuit.Circuit.{Circuit}
use Rattle.vrt_model.specs.declared.circuit.Device.{Device}
use Rattle.channel_parts.specs.declared.part.Part.{Part}
use Rattle.path_fixpoint.specs.declared.side.Side.TheVariants.{Inside, Outside}
use Rattle.path_fixpoint.specs.Parts.{part_devices}
use Rattle.path_fixpoint.specs.Strengths.{ChangesLevel, HasLevel, HasPassed, HasPaths, HasRoots, HasSpans, HasWords, IsStrong, StandsAt, StrongGrows, TellsStrengths, net_words, strong, word_of}
use Rattle.bdd_core.specs.Words.{Writes}
use Rattle.path_fixpoint.proofs.Counts.{count, count_all, none_counted, same_or_more}
use Rattle.bdd_core.proofs.Frames.{filled_beside, shows_beside, shows_kept, span_written}
use Rattle.path_fixpoint.proofs.Places.{levels_differ, on_a_side, place_in, place_word, word_in}
use Rattle.vrt_model.specs.Levels.{source_level}
use Rattle.path_fixpoint.specs.declared.words.NetWords.{NetWords}

-- the marks are at all nets where a path of at least this level ends
abbrev pub HasAll : Part → NetWords → ℕ → Diagrams → Valuation → Network → Type 0
HasAll part out level d v w = (n : ℕ) → AtLeast w level n → IsStrong part out level d v n

-- at a valuation either all these marks are set, or at least one for each round
abbrev pub HasProgress : Part → NetWords → ℕ → ℕ → Diagrams → Valuation → Network → Type 0
HasProgress part out level rounds d v w = HasAll part out level d v w ⊎ (rounds ≤ count (λ i. strong d out level i v) (length part.nets))

-- what devices pass on from outside the part is marked
abbrev pub IsEntered : Circuit → Part → NetWords → ℕ → Diagrams → Valuation → Network → Type 0
IsEntered c part out level d v w = (dev : Device) → Among (part_devices c part) dev → HasPassed part out level Outside dev d d v w

module _ (c : Circuit) (part : Part) (gates : Span) (out : NetWords) where
  pub words_kept : (old new : Diagrams) → HasWords c part gates out old → Writes out.span old new → HasWords c part gates out new
  words_kept old new words w = record {
    gates_span = span_written out.span gates old new w words.gates_span;
    gates_len = words.gates_len;
    gates_live = filled_beside out.span gates old new w words.apart words.gates_live;
    source = words.source;
    out_span = span_written out.span out.span old new w words.out_span;
    out_len = words.out_len;
    out_live = w.live;
    apart = words.apart;
  }

  pub words_from : (old new : Diagrams) → HasSpans c part gates out old → Writes out.span old new → HasWords c part gates out new
  words_from old new spans w = record {
    gates_span = span_written out.span gates old new w spans.gates_span;
    gates_len = spans.gates_len;
    gates_live = filled_beside out.span gates old new w spans.apart spans.gates_live;
    source = spans.source;
    out_span = span_written out.span out.span old new w spans.out_span;
    out_len = spans.out_len;
    out_live = w.live;
    apart = spans.apart;
  }

  pub stands_from : (old new : Diagrams) (v : Valuation) (w : Network) → HasSpans c part gates out old → Writes out.span old new → StandsAt c part gates old v w → StandsAt c part gates new v w
  stands_from old new v w spans wr s = record {
    nets = s.nets;
    holds = s.holds;
    outputs = s.outputs;
    source = s.source;
    devices = s.devices;
    reading = λ n lt. shows_beside out.span gates old new n v wr spans.apart spans.gates_live (omega (arith, lt, spans.gates_len)) ∙ s.reading n lt;
  }

  -- at least a level, by the strength
  pub tells_from : (d : Diagrams) (v : Valuation) (w : Network) → ((level : ℕ) → 1 ≤ level → level ≤ source_level c → HasLevel part out level d v w) → TellsStrengths c part out d v w
  tells_from d v w levels i n level s p low high is =
      (λ e. at_least-strength w n s level is ((levels level low high i n p).0 e), λ le. (levels level low high i n p).1 (strength-at_least w n s level (omega (arith, low)) is le))

  pub stands_kept : (old new : Diagrams) (v : Valuation) (w : Network) → HasWords c part gates out old → Writes out.span old new → StandsAt c part gates old v w → StandsAt c part gates new v w
  stands_kept old new v w words wr s = record {
    nets = s.nets;
    holds = s.holds;
    outputs = s.outputs;
    source = s.source;
    devices = s.devices;
    reading = λ n lt. shows_beside out.span gates old new n v wr words.apart words.gates_live (omega (arith, lt, words.gates_len)) ∙ s.reading n lt;
  }

  module _ (level : ℕ) (low : 1 ≤ level) (high : level ≤ out.source) where
    pub roots_grown : (old new : Diagrams) (v : Valuation) (w : Network) → HasWords c part gates out old → StrongGrows out level old new → HasRoots part out level old v w → HasRoots part out level new v w
    roots_grown old new v w words grown roots root r le i p = grown i (place_word c part gates out old level i root.net words low high p) v (roots root r le i p)

    -- a step that wrote no word changed no mark
    pub strong_same : (old new : Diagrams) (i : ℕ) (v : Valuation) → HasWords c part gates out old → Writes out.span old new → new.words ≡ old.words → i < length part.nets
        → strong new out level i v ≡ strong old out level i v
    strong_same old new i v words wr same lt =
        shows_kept out.span out.span old new (word_of out level i) v wr (ap (λ (ws : List ℕ). get_or ws (out.span.start + word_of out level i) 0) same)
        (words.out_live (word_of out level i) (word_in c part gates out old level i words low high lt))

    pub closed_all : (d : Diagrams) (v : Valuation) (w : Network) → w.devices ≡ part_devices c part → HasRoots part out level d v w
        → IsEntered c part out level d v w → ((dev : Device) → Among (part_devices c part) dev → HasPassed part out level Inside dev d d v w) → HasAll part out level d v w
    closed_all d v w devices roots entered passed n r =
        subst (IsStrong part out level d v) r.4
        (closed_end w (RootHas level) (HopHas level) (IsStrong part out level d v) roots
        (λ m k dev on j le s.
        let among = subst (λ (ds : List Device). Among ds dev) devices on.0 in
        elim (on_a_side part m) [ inl here ↦ passed dev among on le m k j here s | inr away ↦ entered dev among on le m k j away s ]) r.0 r.1 r.2 r.3)

    -- what was passed on from outside stays, since no mark stands there
    pub entered_more : (old new : Diagrams) (v : Valuation) (w : Network) → HasWords c part gates out old → StrongGrows out level old new
        → ((dev : Device) → Among (part_devices c part) dev → HasPassed part out level Outside dev old old v w ⊎ HasPassed part out level Outside dev old new v w) → IsEntered c part out level new v w
    entered_more old new v w words grown passed dev among on le m k j away s =
        elim (passed dev among) [
          | inl stays ↦ (λ i p. grown i (place_word c part gates out old level i k words low high p) v (stays on le m k j away (λ x q. absurd (away x q)) i p))
          | inr got ↦ got on le m k j away (λ x q. absurd (away x q))
        ]

    -- where no net is marked, what comes from outside is all that there is
    pub progress_first : (old new : Diagrams) (v : Valuation) (w : Network) → HasWords c part gates out old → w.devices ≡ part_devices c part → StrongGrows out level old new
        → HasRoots part out level old v w → IsEntered c part out level new v w → HasProgress part out level 1 new v w
    progress_first old new v w words devices grown roots entered =
        elim (cases_lt 0 (count (λ i. strong new out level i v) (length part.nets))) [
          | inl some ↦ inr (omega (arith, some))
          | inr none ↦ inl (closed_all new v w devices (roots_grown old new v w words grown roots) entered
              (λ dev among on le m k j here s. absurd (none_counted (λ i. strong new out level i v) (length part.nets) (omega (arith, none)) here.0 (place_in part here.0 m here.1) (s here.0 here.1))))
        ]

    pub progress_more : (rounds : ℕ) (old new : Diagrams) (v : Valuation) (w : Network) → HasWords c part gates out old → w.devices ≡ part_devices c part
        → StrongGrows out level old new → IsEntered c part out level old v w → ((dev : Device) → Among (part_devices c part) dev → HasPassed part out level Inside dev old new v w)
        → HasRoots part out level old v w → HasProgress part out level rounds old v w → HasProgress part out level (rounds + 1) new v w
    progress_more rounds old new v w words devices grown entered passed roots (inl all) = inl (λ n r i p. grown i (place_word c part gates out old level i n words low high p) v (all n r i p))
    progress_more rounds old new v w words devices grown entered passed roots (inr le) =
        elim (same_or_more (λ i. strong old out level i v) (λ i. strong new out level i v) (length part.nets) (λ i lt. grown i (word_in c part gates out old level i words low high lt) v)) [
          | inr more ↦ inr (omega (arith, le, more))
          | inl same ↦
              let all : HasAll part out level old v w = closed_all old v w devices roots entered (λ dev m on le' a b j here s i p. same.0 i (place_in part i b p) (passed dev m on le' a b j here s i p)) in
              inl (λ n r i p. grown i (place_word c part gates out old level i n words low high p) v (all n r i p))
        ]

    pub level_from : (d : Diagrams) (v : Valuation) (w : Network) → HasPaths part out level d v w → HasAll part out level d v w → HasLevel part out level d v w
    level_from d v w paths all i n p = (paths i n p, λ r. all n r i p)

    -- after as many rounds as the part has nets all these marks are set
    pub progress_all : (rounds : ℕ) (d : Diagrams) (v : Valuation) (w : Network) → length part.nets ≤ rounds → HasProgress part out level rounds d v w → HasAll part out level d v w
    progress_all rounds d v w enough (inl all) = all
    progress_all rounds d v w enough (inr le) = λ n r i p. count_all (λ j. strong d out level j v) (length part.nets) (omega (arith, enough, le)) i (place_in part i n p)

  -- a step at one level leaves the marks of another
  pub level_stays : (level other : ℕ) (old new : Diagrams) (v : Valuation) (w : Network) → 1 ≤ level → level ≤ out.source → 1 ≤ other → other ≤ net_words out.source → level ≢ other
      → HasWords c part gates out old → Writes out.span old new → ChangesLevel out other old new → HasLevel part out level old v w → HasLevel part out level new v w
  level_stays level other old new v w low high low' high' ne words wr changes is i n p =
      let same : strong new out level i v ≡ strong old out level i v =
      shows_kept out.span out.span old new (word_of out level i) v wr (changes (word_of out level i) (λ j e. ne (levels_differ out level other i j low (omega (arith, high)) low' high' e)))
      (words.out_live (word_of out level i) (place_word c part gates out old level i n words low high p)) in
      (λ e. (is i n p).0 (sym same ∙ e), λ r. same ∙ (is i n p).1 r)
