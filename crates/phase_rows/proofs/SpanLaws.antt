-- Spans one behind the other in a span of live handles.
use Rattle.std.proofs.Common.{◌≡◌, ℕ, ◌+◌, ◌-◌, ◌*◌, ◌<◌, ◌≤◌, All, List, [], length, arith, ap, inl, refl, subst, sym}
use Rattle.std.specs.Prelude.{slice_index}
use Rattle.node_pool.specs.declared.region.Span.{Span}
use Rattle.bdd_core.specs.Store.{Diagrams, IsSpan}
use Rattle.bdd_core.specs.Words.{IsFilled}
use Rattle.channel_parts.specs.declared.part.Part.{Part}
use Rattle.circuit_faults.specs.KeptResults.{HasKeptSpans}
use Rattle.circuit_faults.specs.declared.spans.KeptSpans.{KeptSpans}
use Rattle.path_fixpoint.proofs.PinLaws.{pins_none}
use Rattle.path_fixpoint.specs.Strengths.{net_words}
use Rattle.phase_rows.specs.Spans.{HasSpans, spans_of}
use Rattle.vrt_model.proofs.Members.{all_among}
use Rattle.vrt_model.specs.Lists.{Among}
use Rattle.vrt_model.specs.declared.circuit.Circuit.{Circuit}
use Rattle.vrt_model.specs.Levels.{source_level}
use Rattle.std.proofs.Math.Nat.{mul-le-mul_left}
use Rattle.vrt_model.specs.declared.whole.WholePin.{WholePin}

-- words of a span are one
inner_span : (d : Diagrams) (whole : Span) (start len : ℕ) → IsSpan d whole → whole.start ≤ start → start + len ≤ whole.start + whole.len → IsSpan d (record { start = start; len = len })
inner_span d whole start len span low high =
    let own = span.0 in
    let end = span.1 in
    let first : d.own ≤ start = omega (arith, own, low) in
    let last : start + len ≤ length d.words = omega (arith, end, high) in
    (first, last)

-- and they are live where its are
inner_live : (d : Diagrams) (whole : Span) (start len : ℕ) → IsFilled d whole → whole.start ≤ start → start + len ≤ whole.start + whole.len → IsFilled d (record { start = start; len = len })
inner_live d whole start len live low high k lt =
    let here : whole.start + ((start - whole.start) + k) ≡ start + k = omega (arith, low) in
    let below : k < len = lt in
    let inside : (start - whole.start) + k < whole.len = omega (arith, low, high, below) in
    subst (λ (j : ℕ). slice_index d.words j < length d.nodes) here (live ((start - whole.start) + k) inside)

module _ (c : Circuit) (parts : List Part) (whole : Span) (d : Diagrams) (enough : 4 * length c.nets + net_words (source_level c) * length c.nets ≤ whole.len) (span : IsSpan d whole) (live : IsFilled d whole)
    (few : All (λ (part : Part). length part.nets ≤ length c.nets) parts) (none : c.wholes ≡ []) where
  roots_span : IsSpan d (record { start = whole.start; len = length c.nets })
  roots_span = inner_span d whole whole.start (length c.nets) span (omega arith) (omega (arith, enough))

  roots_live : IsFilled d (record { start = whole.start; len = length c.nets })
  roots_live = inner_live d whole whole.start (length c.nets) live (omega arith) (omega (arith, enough))

  gates_span : IsSpan d (record { start = whole.start + length c.nets; len = length c.nets })
  gates_span = inner_span d whole (whole.start + length c.nets) (length c.nets) span (omega arith) (omega (arith, enough))

  gates_live : IsFilled d (record { start = whole.start + length c.nets; len = length c.nets })
  gates_live = inner_live d whole (whole.start + length c.nets) (length c.nets) live (omega arith) (omega (arith, enough))

  zeros_span : IsSpan d (record { start = whole.start + 2 * length c.nets; len = length c.nets })
  zeros_span = inner_span d whole (whole.start + 2 * length c.nets) (length c.nets) span (omega arith) (omega (arith, enough))

  ones_span : IsSpan d (record { start = whole.start + 3 * length c.nets; len = length c.nets })
  ones_span = inner_span d whole (whole.start + 3 * length c.nets) (length c.nets) span (omega arith) (omega (arith, enough))

  out_span : IsSpan d (record { start = whole.start + 4 * length c.nets; len = net_words (source_level c) * length c.nets })
  out_span = inner_span d whole (whole.start + 4 * length c.nets) (net_words (source_level c) * length c.nets) span (omega arith) (omega (arith, enough))

  room : (part : Part) → Among parts part → net_words (source_level c) * length part.nets ≤ net_words (source_level c) * length c.nets
  room part m = mul-le-mul_left (net_words (source_level c)) (all_among (λ (p : Part). length p.nets ≤ length c.nets) parts part few m)

  kept_spans : HasKeptSpans c parts (spans_of c whole.start) d
  kept_spans = record {
    roots_span = roots_span;
    roots_len = omega (arith, ap (λ (ps : List WholePin). length ps) (pins_none c none));
    roots_live = roots_live;
    gates_span = gates_span;
    gates_len = refl;
    gates_live = gates_live;
    zeros_span = zeros_span;
    zeros_len = refl;
    ones_span = ones_span;
    ones_len = refl;
    out_span = out_span;
    room = room;
    roots_zeros = inl (omega arith);
    roots_ones = inl (omega arith);
    roots_out = inl (omega arith);
    gates_zeros = inl (omega arith);
    gates_ones = inl (omega arith);
    gates_out = inl (omega arith);
    zeros_ones = inl (omega arith);
    zeros_out = inl (omega arith);
    ones_out = inl (omega arith);
  }

  made : HasSpans c parts (spans_of c whole.start) d
  made = record {
    bare = record {
      roots_span = roots_span;
      roots_len = omega (arith, ap (λ (ps : List WholePin). length ps) (pins_none c none));
      roots_live = roots_live;
      gates_span = gates_span;
      gates_len = refl;
      out_span = out_span;
      room = room;
      roots_gates = inl (omega arith);
      roots_out = inl (omega arith);
      gates_out = inl (omega arith);
    };
    kept = kept_spans;
  }

pub spans_are : (c : Circuit) (parts : List Part) (whole : Span) (spans : KeptSpans) (d : Diagrams) → spans ≡ spans_of c whole.start → 4 * length c.nets + net_words (source_level c) * length c.nets ≤ whole.len
    → IsSpan d whole → IsFilled d whole → All (λ (part : Part). length part.nets ≤ length c.nets) parts → c.wholes ≡ [] → HasSpans c parts spans d
spans_are c parts whole spans d is enough span live few none = subst (λ (s : KeptSpans). HasSpans c parts s d) (sym is) (made c parts whole d enough span live few none)
