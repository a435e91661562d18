-- A part whose gates get the handles of variables, is solved, and gets its handles back.
use Rattle.std.proofs.Common.{◌≡◌, ℕ, ◌+◌, ◌-◌, ◌<◌, ◌≤◌, Bool, true, false, List, length, arith, ap, refl, sym, subst, ◌∙◌, inl, inr}
use Rattle.std.specs.Prelude.{◌↔◌, eqb, slice_get, slice_index}
use Rattle.std.proofs.lemmas.Bool.{cases_lt}
use Rattle.std.proofs.lemmas.Option.{slice_get_within}
use Rattle.node_pool.specs.declared.region.Node.{Node}
use Rattle.node_pool.specs.declared.region.Span.{Span}
use Rattle.bdd_core.proofs.Frames.{adds_then, adds_words, filled_added, filled_beside, span_added, span_written, word_added, word_beside}
use Rattle.bdd_core.proofs.Bound.{within_place}
use Rattle.bdd_core.specs.Diagram.{IsReduced, IsWithin, Valuation, meaning, node_at, top}
use Rattle.bdd_core.specs.Store.{Adds, AddsNodes, Diagrams}
use Rattle.bdd_core.specs.Words.{IsApart, IsBeside, IsFilled, Writes, WritesTwo, shows, word_at}
use Rattle.bdd_ops.proofs.Walk.{end_value}
use Rattle.bdd_ops.specs.Counting.{IsSpanWithin}
use Rattle.channel_parts.specs.declared.part.Part.{Part}
use Rattle.path_fixpoint.proofs.Places.{place_in, place_words}
use Rattle.path_fixpoint.proofs.ReachLaws.{slot_high, slot_low}
use Rattle.path_fixpoint.proofs.Spreading.{device_ranges}
use Rattle.path_fixpoint.specs.Parts.{AreSoftInside, IsPart, IsPlace, part_devices}
use Rattle.path_fixpoint.specs.Reaching.{slot_of}
use Rattle.path_fixpoint.specs.Solved.{HasRootSpans, TellsReach, network_at}
use Rattle.path_fixpoint.specs.Spending.{AreGatesWithin, AreRootsWithin, IsWordWithin}
use Rattle.path_fixpoint.specs.Strengths.{strong, word_of}
use Rattle.path_fixpoint.specs.declared.words.NetWords.{NetWords}
use Rattle.part_functions.proofs.ComposeLaws.{inner_kept}
use Rattle.part_functions.proofs.GatherLaws.{device_place}
use Rattle.part_functions.proofs.SameReach.{reach_same}
use Rattle.part_functions.specs.Inner.{AreLive, AreWithin, HasHandle, handle_at, inner}
use Rattle.part_functions.specs.Replaced.{AreGates, AreInner, IsWritten, StandsFor, TellsInner, gate_handle}
use Rattle.part_functions.specs.Small.{IsEnd, IsSmall, ReadsFew}
use Rattle.part_functions.specs.declared.few.PartFunctions.{PartFunctions}
use Rattle.part_functions.specs.declared.replaced.GateHandles.{GateHandles}
use Rattle.vrt_model.proofs.Lists.{at_there, filter_map_among}
use Rattle.vrt_model.proofs.Members.{all_among}
use Rattle.vrt_model.specs.Lists.{Among}
use Rattle.vrt_model.specs.Networks.{HasRanges}
use Rattle.vrt_model.specs.declared.circuit.Circuit.{Circuit}
use Rattle.vrt_model.specs.declared.circuit.Device.{Device}
use Rattle.vrt_model.specs.declared.ids.Dev.{Dev}

-- two bits that are 1 together are the same
pub bits_same : (a b : Bool) → ((a ≡ true) ↔ (b ≡ true)) → a ≡ b
bits_same true b both = sym (both.0 refl)
bits_same false true both = both.1 refl
bits_same false false both = refl

-- the handles of a list that stands in the gates are live
pub list_live : (f : PartFunctions) (c : Circuit) (part : Part) (gates roots : Span) (d : Diagrams) → 2 ≤ length d.nodes → IsFilled d gates → ReadsFew f c part gates roots d → AreLive f d
list_live f c part gates roots d two filled reads x = elim (reads.from x) [
  | inl low ↦ omega (arith, low, two)
  | inr at ↦ subst (λ (h : ℕ). h < length d.nodes) (sym at.2) (filled at.0 at.1)
]

-- and read what the gates read
pub list_within : (u : ℕ) (f : PartFunctions) (c : Circuit) (part : Part) (gates roots : Span) (d : Diagrams) → IsSpanWithin u d gates → ReadsFew f c part gates roots d → AreWithin u f d
list_within u f c part gates roots d all reads x = elim (reads.from x) [
  | inl low ↦ (λ v w same. end_value d.nodes (handle_at f x) v low ∙ sym (end_value d.nodes (handle_at f x) w low))
  | inr at ↦ subst (λ (h : ℕ). IsWithin u (meaning d.nodes h)) (sym at.2) (all at.0 at.1)
]

top_is : (nodes : List Node) (i : ℕ) → top nodes i ≡ (node_at nodes i).var
unfolding top
top_is nodes i = refl

-- they are no more than the variables of the store
pub list_few : (f : PartFunctions) (c : Circuit) (part : Part) (gates roots : Span) (d : Diagrams) → IsReduced d.vars d.nodes → IsFilled d gates → IsSmall f c part gates roots d → f.count ≤ d.vars
list_few f c part gates roots d sound filled small =
    let low = small.many d.vars (list_within d.vars f c part gates roots d (λ k lt. all_variables d (word_at d gates k) sound (filled k lt)) small.reads) in
    omega (arith, low)
  where
    all_variables : (d : Diagrams) (k : ℕ) → IsReduced d.vars d.nodes → k < length d.nodes → IsWithin d.vars (meaning d.nodes k)
    all_variables d k sound live = within_place d.vars d.vars d.nodes k sound (λ i two inside. (let p = sound.proper i two inside in subst (λ (y : ℕ). y < d.vars) (sym (top_is d.nodes i)) p.var_below)) live

-- the handles at the gates of a part are those of constants or of the functions
pub handles_have : (f : PartFunctions) (c : Circuit) (part : Part) (gates roots : Span) (d : Diagrams) (g : GateHandles) → IsPart c part → ReadsFew f c part gates roots d → AreGates c part gates d g
    → (i : ℕ) → i < length part.devices → HasHandle f (gate_handle g i)
handles_have f c part gates roots d g is_part reads are i lt =
    let dev = at_there part.devices i lt in
    let inside : dev.0.0 < length c.devices = all_among (λ (x : Dev). x.0 < length c.devices) part.devices dev.0 is_part.devices (i, dev.1) in
    let device = at_there c.devices dev.0.0 inside in
    subst (HasHandle f) (sym (are i device.0 (dev.0, dev.1, device.1))) (reads.at_gates device.0 (filter_map_among (λ (x : Dev). slice_get c.devices x.0) part.devices i dev.0 device.0 dev.1 device.1))

-- only words of the span were written
pub two_same : (out : Span) (old new : Diagrams) → Writes out old new → WritesTwo out out old new
two_same out old new wr = record { adds = wr.adds; len = wr.len; others = λ j a b. wr.others j a }

-- nodes were only added
pub two_added : (out : Span) (old new : Diagrams) → AddsNodes old new → WritesTwo out out old new
two_added out old new adds = record {
  adds = subst (λ (ws : List ℕ). Adds old new ws) (sym (adds_words old new old.words adds)) adds;
  len = ap (λ (ws : List ℕ). length ws) (adds_words old new old.words adds);
  others = λ j a b. ap (λ (ws : List ℕ). slice_index ws j) (adds_words old new old.words adds);
}

module _ (c : Circuit) (part : Part) (is_part : IsPart c part) (ranges : HasRanges c) (soft : AreSoftInside c part) (gates roots : Span) (out : NetWords) (f : PartFunctions)
    (d0 d1 d2 : Diagrams) (spans : HasRootSpans c part gates roots out d0) (apart : IsApart roots gates) (live : AreLive f d0) (small : IsSmall f c part gates roots d0)
    (handles smalls : GateHandles) (are : AreGates c part gates d0 handles) (adds : AddsNodes d0 d1)
    (stand : (i : ℕ) → i < length part.devices → StandsFor f d1 (gate_handle handles i) (gate_handle smalls i))
    (there : Writes gates d1 d2) (rest : d2 ≡ record d1 { words = d2.words })
    (written : (n : ℕ) → n < gates.len → IsWritten c part gates smalls (length part.devices) d1 d2 n) where
  same_nodes : d2.nodes ≡ d1.nodes
  same_nodes = ap (λ (d : Diagrams). d.nodes) rest

  gate_in : (dev : Device) → Among (part_devices c part) dev → dev.gate.0 < gates.len
  gate_in dev m = subst (λ (k : ℕ). dev.gate.0 < k) (sym spans.spans.gates_len) (device_ranges c part dev ranges m).gate

  -- at the gate of a device stands what stands for its handle
  gate_stands : (dev : Device) → Among (part_devices c part) dev → StandsFor f d1 (word_at d0 gates dev.gate.0) (word_at d2 gates dev.gate.0)
  gate_stands dev m = elim (written dev.gate.0 (gate_in dev m)) [
    | inl w ↦
        let other : Device = w.1 in
        let was : gate_handle handles w.0 ≡ word_at d0 gates dev.gate.0 = are w.0 other w.3 ∙ ap (λ (n : ℕ). word_at d0 gates n) w.4 in
        let first : StandsFor f d1 (word_at d0 gates dev.gate.0) (gate_handle smalls w.0) =
        subst (λ (h : ℕ). StandsFor f d1 h (gate_handle smalls w.0)) was (stand w.0 w.2) in
        subst (λ (s : ℕ). StandsFor f d1 (word_at d0 gates dev.gate.0) s) (sym w.5) first
    | inr w ↦ (let at = device_place c part dev m in absurd (w.0 at.0 dev at.1 at.2 refl))
  ]

  gate_same : (v : Valuation) (dev : Device) → Among (part_devices c part) dev → shows d2 gates dev.gate.0 (inner f d0 v) ≡ shows d0 gates dev.gate.0 v
  gate_same v dev m =
      let h = word_at d0 gates dev.gate.0 in
      let s = word_at d2 gates dev.gate.0 in
      let stands = gate_stands dev m in
      ap (λ (ns : List Node). meaning ns s (inner f d0 v)) same_nodes
      ∙ ap (λ (w : Valuation). meaning d1.nodes s w) (sym (inner_kept f d0 d1 d0.words adds live v))
      ∙ stands.same v
      ∙ adds.kept h (spans.spans.gates_live dev.gate.0 (gate_in dev m)) v

  end_in : (n : ℕ) → IsEnd c part n → n < roots.len
  end_in n e = (let inside = slice_get_within c.nets n e.3.0 e.3.1 in let long = spans.roots_len in omega (arith, inside, long))

  end_word : (n : ℕ) → IsEnd c part n → word_at d2 roots n ≡ word_at d0 roots n
  end_word n e = word_beside gates roots d1 d2 n there apart (end_in n e) ∙ word_added roots d0 d1 n adds

  end_shows : (n : ℕ) → IsEnd c part n → (v : Valuation) → shows d2 roots n v ≡ eqb (word_at d0 roots n) 1
  end_shows n e v = ap (λ (k : ℕ). meaning d2.nodes k v) (end_word n e) ∙ end_value d2.nodes (word_at d0 roots n) v (small.reads.ends n e)

  end_same : (v w : Valuation) (n : ℕ) → IsEnd c part n → shows d2 roots n w ≡ shows d0 roots n v
  end_same v w n e = end_shows n e w ∙ sym (end_value d0.nodes (word_at d0 roots n) v (small.reads.ends n e))

  -- the spans as the part is solved
  pub spans_then : HasRootSpans c part gates roots out d2
  spans_then = record {
    spans = record {
      gates_span = span_written gates gates d1 d2 there (span_added gates d0 d1 adds spans.spans.gates_span);
      gates_len = spans.spans.gates_len;
      gates_live = there.live;
      source = spans.spans.source;
      out_span = span_written gates out.span d1 d2 there (span_added out.span d0 d1 adds spans.spans.out_span);
      out_len = spans.spans.out_len;
      apart = spans.spans.apart;
    };
    roots_span = span_written gates roots d1 d2 there (span_added roots d0 d1 adds spans.roots_span);
    roots_len = spans.roots_len;
    roots_live = filled_beside gates roots d1 d2 there apart (filled_added roots d0 d1 adds spans.roots_live);
    roots_apart = spans.roots_apart;
  }

  -- ---- what the handles read as the part is solved

  pub gates_then : AreGatesWithin f.count c part gates d2
  gates_then dev m v w below =
      let k = word_at d2 gates dev.gate.0 in
      ap (λ (ns : List Node). meaning ns k v) same_nodes ∙ (gate_stands dev m).within v w below ∙ ap (λ (ns : List Node). meaning ns k w) (sym same_nodes)

  end_within : (n : ℕ) → IsEnd c part n → IsWordWithin f.count d2 roots n
  end_within n e v w below = end_shows n e v ∙ sym (end_shows n e w)

  pub roots_then : AreRootsWithin f.count c part roots d2
  roots_then = record {
    left = λ dev m g. end_within dev.left.0 (dev, m, inl refl, g);
    right = λ dev m g. end_within dev.right.0 (dev, m, inr refl, g);
    given = λ i n p g. absurd (small.rootless.given n (i, p) g);
    held = λ at i hold there p. absurd (small.rootless.holds hold (at, there) (i, p));
    driven = λ at i pin there p. absurd (small.rootless.pins pin (at, there) (i, p));
  }

  module _ (d3 d4 : Diagrams) (solved : Writes out.span d2 d3) (back : Writes gates d3 d4) (rest_back : d4 ≡ record d3 { words = d4.words })
      (unwritten : (n : ℕ) → n < gates.len → IsWritten c part gates handles (length part.devices) d3 d4 n) where
    nodes_back : d4.nodes ≡ d3.nodes
    nodes_back = ap (λ (d : Diagrams). d.nodes) rest_back

    slot_in : (i n : ℕ) (value : Bool) → IsPlace part i n → word_of out (slot_of out value) i < out.span.len
    slot_in i n value p =
        omega (arith, place_words out (length part.nets) i spans.spans.out_len (place_in part i n p), slot_low out value, slot_high out value)

    pub out_apart : IsApart out.span gates
    out_apart = elim spans.spans.apart [ inl low ↦ inr low | inr high ↦ inl high ]

    strong_back : (i n : ℕ) (value : Bool) (v : Valuation) → IsPlace part i n → strong d4 out (slot_of out value) i v ≡ strong d3 out (slot_of out value) i v
    strong_back i n value v p =
        let k = word_of out (slot_of out value) i in
        ap (λ (ns : List Node). meaning ns (word_at d4 out.span k) v) nodes_back
        ∙ ap (λ (h : ℕ). meaning d3.nodes h v) (word_beside gates out.span d3 d4 k back out_apart (slot_in i n value p))

    module _ (tells : (v : Valuation) → TellsReach part out d3 v (network_at d2 c part gates roots v)) where
      pub tells_inner : TellsInner f c part gates roots out d0 d4
      tells_inner v i n value p =
          let says = tells (inner f d0 v) i n value p in
          let same = reach_same c part is_part ranges gates roots small.rootless soft d2 d0 (inner f d0 v) v (gate_same v) (λ k e. end_same v (inner f d0 v) k e) n value (i, p) in
          let here = strong_back i n value (inner f d0 v) p in (
            λ e. same.0 (says.0 (sym here ∙ e)),
            λ r. here ∙ says.1 (same.1 r),
          )

      pub are_inner : AreInner f part out d4
      are_inner i n value p v w below =
          let same = reach_same c part is_part ranges gates roots small.rootless soft d2 d2 v w (λ dev m. gates_then dev m v w below) (λ k e. end_shows k e v ∙ sym (end_shows k e w)) n value (i, p) in
          let at_v = tells v i n value p in
          let at_w = tells w i n value p in
          strong_back i n value v p
          ∙ bits_same (strong d3 out (slot_of out value) i v) (strong d3 out (slot_of out value) i w) (λ e. at_w.1 (same.0 (at_v.0 e)), λ e. at_v.1 (same.1 (at_w.0 e)))
          ∙ sym (strong_back i n value w p)

    -- a word of the gates is as it was
    word_back : (n : ℕ) → n < gates.len → word_at d4 gates n ≡ word_at d0 gates n
    word_back n lt = elim (unwritten n lt) [
      | inl w ↦ w.5 ∙ are w.0 w.1 w.3 ∙ ap (λ (k : ℕ). word_at d0 gates k) w.4
      | inr w ↦ elim (written n lt) [
        | inl u ↦ absurd (w.0 u.0 u.1 u.2 u.3 u.4)
        | inr u ↦ w.1 ∙ word_beside out.span gates d2 d3 n solved spans.spans.apart lt ∙ u.1 ∙ word_added gates d0 d1 n adds
      ]
    ]

    other_back : (j : ℕ) → IsBeside out.span j → slice_index d4.words j ≡ slice_index d0.words j
    other_back j beside = elim (cases_lt j gates.start) [
      | inl low ↦ (let by : IsBeside gates j = inl low in outside j beside by)
      | inr from ↦ elim (cases_lt j (gates.start + gates.len)) [
        | inr high ↦ (let by : IsBeside gates j = inr high in outside j beside by)
        | inl below ↦
            let n : ℕ = j - gates.start in
            let at : gates.start + n ≡ j = omega (arith, from) in
            subst (λ (k : ℕ). slice_index d4.words k ≡ slice_index d0.words k) at (word_back n (omega (arith, from, below)))
      ]
    ]
      where
        outside : (j : ℕ) → IsBeside out.span j → IsBeside gates j → slice_index d4.words j ≡ slice_index d0.words j
        outside j beside by =
            back.others j by ∙ solved.others j beside ∙ there.others j by ∙ ap (λ (ws : List ℕ). slice_index ws j) (ap (λ (d : Diagrams). d.words) adds.rest)

    -- in all, words of the span alone were written
    pub writes_all : Writes out.span d0 d4
    writes_all = record {
      adds = adds_then d0 d3 d4 d3.words d4.words (adds_then d0 d2 d3 d2.words d3.words (adds_then d0 d1 d2 d0.words d2.words adds there.adds) solved.adds) back.adds;
      len = back.len ∙ solved.len ∙ there.len ∙ ap (λ (d : Diagrams). length d.words) adds.rest;
      others = other_back;
      live = filled_beside gates out.span d3 d4 back out_apart solved.live;
    }
