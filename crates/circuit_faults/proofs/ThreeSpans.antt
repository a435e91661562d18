-- Steps that write words of three spans: the outputs of whole instances, the nets and the parts.
use Rattle.std.proofs.Common.{◌≡◌, ℕ, ◌+◌, ◌<◌, ◌≤◌, List, length, arith, ap, ◌∙◌, inl, inr}
use Rattle.std.specs.Prelude.{slice_index}
use Rattle.std.proofs.lemmas.Bool.{cases_lt}
use Rattle.std.proofs.lemmas.List.{length-map}
use Rattle.node_pool.specs.declared.region.Span.{Span}
use Rattle.bdd_core.proofs.Frames.{adds_then, beside_of, span_stays, two_span}
use Rattle.bdd_core.specs.Diagram.{Valuation, meaning}
use Rattle.bdd_core.specs.Store.{Diagrams, IsSpan}
use Rattle.bdd_core.specs.Words.{IsApart, IsBeside, IsFilled, WritesTwo, shows, word_at}
use Rattle.channel_parts.specs.declared.part.Part.{Part}
use Rattle.circuit_faults.specs.Results.{HasCircuitSpans, WritesThree, output_span, root_at}
use Rattle.path_fixpoint.specs.Parts.{pins_of}
use Rattle.vrt_model.specs.State.{OutputPin, output_pins}
use Rattle.vrt_model.specs.declared.circuit.Circuit.{Circuit}

pub three_then : (a b c : Span) (x y z : Diagrams) → WritesThree a b c x y → WritesThree a b c y z → WritesThree a b c x z
three_then a b c x y z f s = record {
  adds = adds_then x y z y.words z.words f.adds s.adds;
  len = s.len ∙ f.len;
  others = λ j p q r. s.others j p q r ∙ f.others j p q r;
}

-- of two of them
pub three_first : (a b c : Span) (old new : Diagrams) → WritesTwo a c old new → WritesThree a b c old new
three_first a b c old new w = record { adds = w.adds; len = w.len; others = λ j p q r. w.others j p r }

pub three_second : (a b c : Span) (old new : Diagrams) → WritesTwo b c old new → WritesThree a b c old new
three_second a b c old new w = record { adds = w.adds; len = w.len; others = λ j p q r. w.others j q r }

-- the first has no word
pub three_empty : (a b c : Span) (old new : Diagrams) → a.len ≡ 0 → WritesThree a b c old new → WritesTwo b c old new
three_empty a b c old new none w = record {
  adds = w.adds;
  len = w.len;
  others = λ j q r. w.others j (elim (cases_lt j a.start) [ inl low ↦ inl low | inr high ↦ inr (omega (arith, high, none)) ]) q r;
}

pub three_span : (a b c span : Span) (old new : Diagrams) → WritesThree a b c old new → IsSpan old span → IsSpan new span
three_span a b c span old new w = span_stays span old new new.words w.adds w.len

-- a word beside all three stays
pub three_word : (a b c span : Span) (old new : Diagrams) (k : ℕ) → WritesThree a b c old new → IsBeside a (span.start + k) → IsApart span b → IsApart span c → k < span.len
    → word_at new span k ≡ word_at old span k
three_word a b c span old new k w beside apart_b apart_c lt = w.others (span.start + k) beside (beside_of span b k apart_b lt) (beside_of span c k apart_c lt)

-- ---- the words of the outputs among those of the roots

-- there are as many outputs as pins, and the roots have room for them
pub outputs_count : (c : Circuit) → length (pins_of c) ≡ length (output_pins c)
outputs_count c = length-map (output_pins c) (λ (out : OutputPin). out.pin)

pub roots_fit : (c : Circuit) (parts : List Part) (roots gates out : Span) (d : Diagrams) → HasCircuitSpans c parts roots gates out d → length c.nets + length (output_pins c) ≤ roots.len
roots_fit c parts roots gates out d spans = (let len = spans.roots_len in let same = outputs_count c in omega (arith, len, same))

module _ (c : Circuit) (roots : Span) where
  -- the words of nets are before them
  pub net_beside : (n : ℕ) → n < length c.nets → IsBeside (output_span c roots) (roots.start + n)
  net_beside n lt = inl (omega (arith, lt))

  pub apart_outputs : (span : Span) → length c.nets + length (output_pins c) ≤ roots.len → IsApart roots span → IsApart span (output_span c roots)
  apart_outputs span fits (inl low) = inr (omega (arith, low, fits))
  apart_outputs span fits (inr high) = inl (omega (arith, high))

  -- the word of an output is the root behind those of the nets
  pub output_word : (d : Diagrams) (at : ℕ) → word_at d (output_span c roots) at ≡ word_at d roots (length c.nets + at)
  output_word d at = let place : (roots.start + length c.nets) + at ≡ roots.start + (length c.nets + at) = omega arith in ap (λ (j : ℕ). slice_index d.words j) place

  pub output_root : (d : Diagrams) (at : ℕ) (v : Valuation) → shows d (output_span c roots) at v ≡ root_at d roots v (length c.nets + at)
  output_root d at v = ap (λ (h : ℕ). meaning d.nodes h v) (output_word d at)

  pub outputs_filled : (d : Diagrams) → length c.nets + length (output_pins c) ≤ roots.len → IsFilled d roots → IsFilled d (output_span c roots)
  outputs_filled d fits live k lt = (let there = live (length c.nets + k) (omega (arith, lt, fits)) in let same = output_word d k in omega (arith, there, same))

-- the spans stand after a step that writes outputs
pub outputs_kept : (c : Circuit) (parts : List Part) (roots gates out : Span) (first now : Diagrams) → WritesTwo (output_span c roots) out first now → IsFilled now roots
    → HasCircuitSpans c parts roots gates out first → HasCircuitSpans c parts roots gates out now
outputs_kept c parts roots gates out first now writes live spans = record {
  roots_span = two_span (output_span c roots) out roots first now writes spans.roots_span;
  roots_len = spans.roots_len;
  roots_live = live;
  gates_span = two_span (output_span c roots) out gates first now writes spans.gates_span;
  gates_len = spans.gates_len;
  out_span = two_span (output_span c roots) out out first now writes spans.out_span;
  room = spans.room;
  roots_gates = spans.roots_gates;
  roots_out = spans.roots_out;
  gates_out = spans.gates_out;
}
