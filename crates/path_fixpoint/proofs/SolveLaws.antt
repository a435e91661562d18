-- A part solved, step by step, at each valuation.
use Rattle.std.proofs.Common.{◌≡◌, ℕ, ◌+◌, ◌≤◌, Bool, true, false, length, Option, arith, ap, refl, sym, ◌∙◌, inl, inr}
use Rattle.std.proofs.lemmas.Option.{slice_get_within}
use Rattle.node_pool.specs.declared.region.Span.{Span}
use Rattle.bdd_core.specs.Diagram.{Valuation}
use Rattle.bdd_core.specs.Store.{Diagrams}
use Rattle.vrt_model.proofs.Decidable.{strength_exists}
use Rattle.vrt_model.proofs.Members.{all_among}
use Rattle.vrt_model.proofs.Strength.{at_least-strength, strength-at_least}
use Rattle.vrt_model.specs.Circuits.{IsHold}
use Rattle.vrt_model.specs.Levels.{source_level}
use Rattle.vrt_model.specs.Networks.{HasRanges, IsFinite}
use Rattle.vrt_model.specs.Path.{Network}
use Rattle.vrt_model.specs.Response.{IsStrength}
use Rattle.vrt_model.specs.declared.circuit.Circuit.{Circuit}
use Rattle.vrt_model.specs.declared.circuit.Hold.{Hold}
use Rattle.channel_parts.specs.declared.part.Part.{Part}
use Rattle.path_fixpoint.specs.Parts.{AreSoftInside, IsPart, pins_of}
use Rattle.path_fixpoint.specs.Reaching.{HasReach, HasRootWords, SolvedAt, slot_of}
use Rattle.path_fixpoint.specs.Solved.{HasRootSpans, TellsReach, net_of, network_at}
use Rattle.path_fixpoint.specs.Strengths.{ChangesLevel, HasLevel, StandsAt, TellsStrengths, strong, word_of}
use Rattle.bdd_core.specs.Words.{Writes, shows}
use Rattle.bdd_core.proofs.Frames.{filled_beside, shows_beside, shows_kept, span_written}
use Rattle.path_fixpoint.proofs.PinLaws.{pin_ranges}
use Rattle.path_fixpoint.proofs.Places.{levels_differ, place_word}
use Rattle.path_fixpoint.proofs.ReachLaws.{levels_of, slot_high, slot_low, slot_place, values_differ}
use Rattle.path_fixpoint.proofs.RoundLaws.{words_from}
use Rattle.path_fixpoint.proofs.Spreading.{device_ranges}
use Rattle.path_fixpoint.specs.declared.words.NetWords.{NetWords}

module _ (c : Circuit) (part : Part) (is_part : IsPart c part) (in_range : HasRanges c) (gates roots : Span) (out : NetWords) where
  pub root_words_from : (old new : Diagrams) → HasRootSpans c part gates roots out old → Writes out.span old new → HasRootWords c part gates roots out new
  root_words_from old new spans w = record {
    words = words_from c part gates out old new spans.spans w;
    roots_span = span_written out.span roots old new w spans.roots_span;
    roots_len = spans.roots_len;
    roots_live = filled_beside out.span roots old new w spans.roots_apart spans.roots_live;
    roots_apart = spans.roots_apart;
  }

  -- the network at the beginning, as the handles of then say it
  pub stands_here : (old : Diagrams) (v : Valuation) → StandsAt c part gates old v (network_at old c part gates roots v)
  stands_here old v = record {
    nets = refl;
    holds = refl;
    outputs = refl;
    source = refl;
    devices = refl;
    reading = λ n lt. refl;
  }

  -- its nets and levels are in range, so each net has a strength
  pub is_finite : (old : Diagrams) (v : Valuation) → IsFinite (network_at old c part gates roots v) (length c.nets) (source_level c)
  is_finite old v =
      let w : Network = network_at old c part gates roots v in
      record {
        bounded = record {
          roots = λ root r. elim r [
            | inl g ↦ slice_get_within c.nets root.net g.0 g.1
            | inr other ↦ elim other [
              | inl h ↦ omega (arith, h.3, (all_among (IsHold c) c.holds h.1 in_range.holds (h.0, h.2)).net)
              | inr o ↦ omega (arith, o.3, (pin_ranges c o.1 in_range (o.0, o.2)).0)
            ]
          ];
          hops = λ m n d on j.
              let range = device_ranges c part d in_range on.0 in
              elim j [ inl q ↦ omega (arith, q.1, range.right) | inr q ↦ omega (arith, q.0, range.left) ];
        };
        most = λ root r. (levels_of c part is_part in_range gates roots out true old v w (stands_here old v)).roots root r;
      }

  pub strength_here : (old : Diagrams) (v : Valuation) (n : ℕ) → (s : ℕ) × IsStrength (network_at old c part gates roots v) n s
  strength_here old v n = strength_exists (network_at old c part gates roots v) (length c.nets) (source_level c) (is_finite old v) n

  pub levels_from : (d : Diagrams) (v : Valuation) (w : Network) → out.source ≡ source_level c → ((n : ℕ) → (s : ℕ) × IsStrength w n s) → TellsStrengths c part out d v w → (level : ℕ) → 1 ≤ level → level ≤ out.source
      → HasLevel part out level d v w
  levels_from d v w source has tells level low high i n p =
      let e = has n in
      let t = tells i n level e.0 p low (omega (arith, high, source)) e.1 in
      (λ on. strength-at_least w n e.0 level (omega (arith, low)) e.1 (t.0 on), λ r. t.1 (at_least-strength w n e.0 level e.1 r))

  -- it is solved once the words of the levels are written
  pub solved_from : (old new : Diagrams) (v : Valuation) → AreSoftInside c part → HasRootSpans c part gates roots out old → Writes out.span old new
      → TellsStrengths c part out new v (network_at old c part gates roots v)
      → SolvedAt c part gates roots out new v (network_at old c part gates roots v) (λ n. (strength_here old v n).0)
  solved_from old new v soft spans wr tells = record {
    stands = record {
      nets = refl;
      holds = refl;
      outputs = refl;
      source = refl;
      devices = refl;
      reading = λ n lt. shows_beside out.span gates old new n v wr spans.spans.apart spans.spans.gates_live (omega (arith, lt, spans.spans.gates_len));
    };
    source = spans.spans.source;
    given = λ n lt. shows_beside out.span roots old new n v wr spans.roots_apart spans.roots_live (omega (arith, lt, spans.roots_len));
    held = λ at hold e.
        let lt = (all_among (IsHold c) c.holds hold in_range.holds (at, e)).net in
        shows_beside out.span roots old new hold.net.0 v wr spans.roots_apart spans.roots_live (omega (arith, lt, spans.roots_len))
        ∙ ap (λ (o : Option Hold). shows old roots (net_of o) v) (sym e);
    driven = λ at pin e.
        let lt = slice_get_within (pins_of c) at pin e in
        shows_beside out.span roots old new (length c.nets + at) v wr spans.roots_apart spans.roots_live (omega (arith, lt, spans.roots_len));
    soft = soft;
    strength = λ n. (strength_here old v n).1;
    solved = levels_from new v (network_at old c part gates roots v) spans.spans.source (strength_here old v) tells;
  }

  -- the words of the levels stay, where those of a value alone change
  pub tells_stay : (value : Bool) (a b : Diagrams) (v : Valuation) (w : Network) → HasRootWords c part gates roots out a → Writes out.span a b → ChangesLevel out (slot_of out value) a b
      → TellsStrengths c part out a v w → TellsStrengths c part out b v w
  tells_stay value a b v w words wr changes tells i n level s p low high is =
      let same : strong b out level i v ≡ strong a out level i v =
      shows_kept out.span out.span a b (word_of out level i) v wr
      (changes (word_of out level i) (λ j e. omega (arith, levels_differ out level (slot_of out value) i j low (omega (arith, high, words.words.source)) (omega (arith, slot_low out value)) (slot_high out value) e, high, words.words.source, slot_low out value)))
      (words.words.out_live (word_of out level i) (place_word c part gates out a level i n words.words low (omega (arith, high, words.words.source)) p)) in
      let t = tells i n level s p low high is in
      (λ e. t.0 (sym same ∙ e), λ le. same ∙ t.1 le)

  -- and so do those of 0, where those of 1 change
  pub zeros_stay : (a b : Diagrams) (v : Valuation) (w : Network) → HasRootWords c part gates roots out a → Writes out.span a b → ChangesLevel out (slot_of out true) a b
      → HasReach part out false a v w → HasReach part out false b v w
  zeros_stay a b v w words wr changes is i n p =
      let same : strong b out (slot_of out false) i v ≡ strong a out (slot_of out false) i v =
      shows_kept out.span out.span a b (word_of out (slot_of out false) i) v wr
      (changes (word_of out (slot_of out false) i) (λ j e. values_differ out i j e))
      (words.words.out_live (word_of out (slot_of out false) i) (slot_place c part is_part in_range gates roots out false a i n words p)) in
      (λ e. (is i n p).0 (sym same ∙ e), λ r. same ∙ (is i n p).1 r)

  pub both_reach : (d : Diagrams) (v : Valuation) (w : Network) → HasReach part out false d v w → HasReach part out true d v w → TellsReach part out d v w
  both_reach d v w zeros ones i n true p = ones i n p
  both_reach d v w zeros ones i n false p = zeros i n p
