-- The word of an output of a whole instance is written after its model was evaluated.
use Rattle.std.proofs.Common.{◌≡◌, ℕ, ◌+◌, ◌<◌, ◌≤◌, arith, ap, refl, subst, sym, ◌∙◌, length, slice_set, inl, inr}
use Rattle.node_pool.specs.declared.region.Node.{Node}
use Rattle.node_pool.specs.declared.region.Span.{Span}
use Rattle.std.specs.Prelude.{List}
use Rattle.bdd_core.proofs.Frames.{rest_then, span_written, two_then, word_apart, word_beside, word_here, word_other, writes_word, filled_beside}
use Rattle.bdd_core.specs.Diagram.{IsSame, IsWithin, Valuation, meaning}
use Rattle.bdd_core.specs.Store.{Diagrams, IsSpan}
use Rattle.bdd_core.specs.Words.{IsApart, IsBeside, IsFilled, Writes, WritesTwo, shows, word_at}
use Rattle.bdd_ops.proofs.CountingLaws.{counted_more, counted_same, counted_then}
use Rattle.bdd_ops.specs.Counting.{IsCounted, IsSpanWithin}
use Rattle.std.proofs.lemmas.Option.{slice_get_within}
use Rattle.vrt_model.proofs.Lists.{one_at}
use Rattle.vrt_model.proofs.Members.{all_among}
use Rattle.vrt_model.specs.Circuits.{IsDrive, IsNet, IsWhole}
use Rattle.vrt_model.specs.Lists.{At, Among}
use Rattle.vrt_model.specs.Networks.{HasRanges}
use Rattle.vrt_model.specs.State.{ModelGives, OutputPin, output_pins}
use Rattle.vrt_model.specs.declared.circuit.Circuit.{Circuit}
use Rattle.vrt_model.specs.declared.rules.Phase.{Phase}
use Rattle.vrt_model.specs.declared.whole.Whole.{Whole}
use Rattle.vrt_model.specs.declared.whole.WholePin.{WholePin}
use Rattle.whole_steps.proofs.GivenLaws.{within_beside, within_more}
use Rattle.whole_steps.specs.Tables.{IsOutput, OutputGives, output_words}
use Rattle.whole_steps.specs.declared.table.OutputPlace.{OutputPlace}

-- ---- the pin at a place

-- what holds of the instance and the pin that stand there
pub of_output : (c : Circuit) (place : OutputPlace) (w : Whole) (pin : WholePin) (o : OutputPin) → At c.wholes place.whole w → At w.outputs place.output pin → IsOutput c (output_pins c) place o
    → (Q : OutputPin → Type 0) → Q (record { whole = w; pin = pin }) → Q o
of_output c place w pin o at there is Q q =
    let whole : w ≡ o.whole = one_at c.wholes place.whole w o.whole at is.whole in
    let pins : pin ≡ o.pin = one_at w.outputs place.output pin o.pin there (subst (λ (y : Whole). At y.outputs place.output o.pin) (sym whole) is.output) in
    subst (λ (y : Whole). Q (record { whole = y; pin = o.pin })) whole (subst (λ (p : WholePin). Q (record { whole = w; pin = p })) pins q)

-- its number is below those of all
pub number_below : (c : Circuit) (place : OutputPlace) → ((o : OutputPin) × IsOutput c (output_pins c) place o) → place.number < length (output_pins c)
number_below c place is = slice_get_within (output_pins c) place.number is.0 is.1.number

-- its numbers are in range
module _ (c : Circuit) (ranges : HasRanges c) (w : Whole) (m : Among c.wholes w) where
  is_whole : IsWhole c w
  is_whole = all_among (IsWhole c) c.wholes w ranges.wholes m

  pub output_in_range : (pin : WholePin) → Among w.outputs pin → IsNet c pin.net × (pin.signal < length w.model.signals)
  output_in_range pin at =
      let fits = all_among (λ (p : WholePin). IsNet c p.net × (p.signal < length w.model.signals) × IsDrive c p.drive) w.outputs pin is_whole.outputs at in (fits.0, fits.1)

  pub input_in_range : (pin : WholePin) → Among w.inputs pin → IsNet c pin.net
  input_in_range pin at = (all_among (λ (p : WholePin). IsNet c p.net × (p.signal < length w.model.signals) × IsDrive c p.drive) w.inputs pin is_whole.inputs at).0

-- ---- the words

-- a step that wrote the first words of a span
pub two_second : (gates words out : Span) (old new : Diagrams) → words.start ≡ out.start → words.len ≤ out.len → Writes words old new → WritesTwo gates out old new
two_second gates words out old new start len w = record { adds = w.adds; len = w.len; others = λ j p q. w.others j (inside j q) }
  where
    inside : (j : ℕ) → IsBeside out j → IsBeside words j
    inside j (inl low) = inl (omega (arith, low, start))
    inside j (inr high) = inr (omega (arith, high, start, len))

pub apart_first : (gates words out : Span) → words.start ≡ out.start → words.len ≤ out.len → IsApart gates out → IsApart gates words
apart_first gates words out start len (inl low) = inl (omega (arith, low, start))
apart_first gates words out start len (inr high) = inr (omega (arith, high, start, len))

module _ (c : Circuit) (pins words out : Span) (old mid new : Diagrams) (start : words.start ≡ out.start) (len : words.len ≤ out.len) (apart : IsApart pins out) (writes : Writes words old mid)
    (span : IsSpan old pins) (live : IsFilled old pins) (at h : ℕ) (at_in : at < length (output_pins c)) (room : length (output_pins c) ≤ pins.len)
    (is : new ≡ record mid { words = slice_set mid.words (pins.start + at) h }) where
  apart_words : IsApart pins words
  apart_words = apart_first pins words out start len apart

  span_mid : pins.start + pins.len ≤ length mid.words
  span_mid = (span_written words pins old mid writes span).1

  live_mid : IsFilled mid pins
  live_mid = filled_beside words pins old mid writes apart_words live

  inside : at < pins.len
  inside = omega (arith, at_in, room)

  nodes : new.nodes ≡ mid.nodes
  nodes = ap (λ (d : Diagrams). d.nodes) is

  written : h < length mid.nodes → Writes pins mid new
  written h_in = writes_word pins mid new at h is inside span_mid h_in writes.adds.sound writes.adds.within live_mid

  -- the words of the outputs alone, and so others stay
  pub other_word : h < length mid.nodes → (span : Span) (n : ℕ) → IsApart span pins → n < span.len → word_at new span n ≡ word_at mid span n
  other_word h_in span n beside lt = word_beside pins span mid new n (written h_in) beside lt

  pub mid_kept : (k : ℕ) → k < length mid.nodes → IsSame (meaning new.nodes k) (meaning mid.nodes k)
  mid_kept k lt v = ap (λ (ns : List Node). meaning ns k v) nodes

  pub mid_nodes : new.nodes ≡ mid.nodes
  mid_nodes = nodes

  last_word : h < length mid.nodes → WritesTwo (output_words c pins) out mid new
  last_word h_in = record {
    adds = (written h_in).adds;
    len = (written h_in).len;
    others = λ j p q. word_other pins mid new at h is inside span_mid j (λ e. elim p [ inl low ↦ omega (arith, low, e) | inr high ↦ omega (arith, high, e, at_in) ]);
  }

  pub step_writes : h < length mid.nodes → WritesTwo (output_words c pins) out old new
  step_writes h_in = two_then (output_words c pins) out old mid new (two_second (output_words c pins) words out old mid start len writes) (last_word h_in)

  pub step_live : h < length mid.nodes → IsFilled new pins
  step_live h_in = (written h_in).live

  pub step_gives : (phase : Phase) (o : OutputPin) (gates : Span) → ((v : Valuation) → ModelGives phase o (λ n. shows old gates n v) (meaning mid.nodes h v)) → OutputGives phase at o gates pins old new
  step_gives phase o gates gives = record {
    bit = λ v.
        let word : word_at new pins at ≡ h = word_here pins mid new at h is inside span_mid in
        let same : meaning mid.nodes h v ≡ shows new pins at v =
        ap (λ (ns : List Node). meaning ns h v) (sym nodes) ∙ ap (λ (k : ℕ). meaning new.nodes k v) (sym word) in
        subst (ModelGives phase o (λ n. shows old gates n v)) same (gives v);
    others = λ k lt ne. word_apart pins mid new at h is inside span_mid k ne ∙ word_beside words pins old mid k writes apart_words lt;
  }

  pub step_within : (u : ℕ) → IsSpanWithin u old pins → IsWithin u (meaning mid.nodes h) → IsSpanWithin u new pins
  step_within u reads here =
      within_more u pins mid new at (rest_then mid mid new _ refl is)
      (subst (λ (k : ℕ). IsWithin u (meaning mid.nodes k)) (sym (word_here pins mid new at h is inside span_mid)) here)
      (λ s ne. word_apart pins mid new at h is inside span_mid s ne) (within_beside u pins words old mid writes apart_words live reads)

  pub step_counted : (u operations : ℕ) → IsCounted u operations old mid → IsCounted u operations old new
  step_counted u operations counted =
      counted_more u (operations + 0) operations old new (omega arith)
      (counted_then u operations 0 old mid new counted (counted_same u mid new (ap (λ (d : Diagrams). d.budget) is) nodes))
