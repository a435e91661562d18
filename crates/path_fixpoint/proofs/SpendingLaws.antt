-- Counts of the operations on the words of a part, one step after another.
use Rattle.std.proofs.Common.{◌≡◌, ℕ, ◌+◌, ◌*◌, ◌<◌, ◌≤◌, Bool, not, ◌&&◌, Option, Some, None, List, length, Result, Ok, Err, slice_index, arith, ap, ap₂, refl, sym, subst, inl, inr}
use Rattle.std.specs.Prelude.{IfSome, slice_set}
use Rattle.std.proofs.Math.Nat.{add-mul, mul_assoc, mul_comm, mul-le-mul_right}
use Rattle.std.proofs.lemmas.Bool.{cases_eq}
use Rattle.std.proofs.lemmas.Option.{slice_get_within}
use Rattle.node_pool.specs.declared.region.Node.{Node}
use Rattle.node_pool.specs.declared.region.Span.{Span}
use Rattle.bdd_core.specs.declared.handle.H.{H}
use Rattle.bdd_core.specs.declared.handle.Spent.{Spent}
use Rattle.bdd_core.specs.Diagram.{Function, IsWithin, meaning}
use Rattle.bdd_core.specs.Store.{Diagrams, Makes, Means, function_of}
use Rattle.bdd_core.specs.Words.{IsApart, IsFilled, Writes, shows, word_at}
use Rattle.bdd_core.proofs.Results.{if_ok_more}
use Rattle.bdd_ops.specs.Counting.{Counts, IsCounted, IsSpanWithin}
use Rattle.bdd_ops.proofs.CountingLaws.{counted_same, counted_then, counts_err, counts_made, counts_more, counts_ok, counts_then, counts_value}
use Rattle.bdd_ops.proofs.WithinLaws.{span_kept, within_same, within_zero}
use Rattle.vrt_model.proofs.Members.{all_among}
use Rattle.vrt_model.specs.Circuits.{IsNet}
use Rattle.vrt_model.specs.Lists.{At, Among, differ}
use Rattle.vrt_model.specs.Networks.{HasRanges}
use Rattle.vrt_model.specs.Reading.{conducts_at}
use Rattle.vrt_model.specs.declared.circuit.Circuit.{Circuit}
use Rattle.vrt_model.specs.declared.circuit.Device.{Device}
use Rattle.vrt_model.specs.declared.design.Kind.{Kind}
use Rattle.vrt_model.specs.declared.whole.Whole.{Whole}
use Rattle.vrt_model.specs.declared.whole.WholePin.{WholePin}
use Rattle.channel_parts.specs.declared.part.Part.{Part}
use Rattle.path_fixpoint.specs.Passed.{gated}
use Rattle.path_fixpoint.specs.declared.side.Side.{Side}
use Rattle.path_fixpoint.specs.declared.words.NetWords.{NetWords}
use Rattle.path_fixpoint.specs.Parts.{IsGiven, IsPart, IsPlace, is_on_side, part_devices, pins_of}
use Rattle.path_fixpoint.specs.Reaching.{bit_is, offered_end, reached_end, slot_of}
use Rattle.path_fixpoint.specs.Strengths.{net_words, word_of}
use Rattle.path_fixpoint.specs.Spending.{AreGatesWithin, ArePinsWithin, AreRootsWithin, Finds, IsWordWithin, Rewrites, Spends}
use Rattle.bdd_core.proofs.Frames.{word_apart, word_beside, word_here}
use Rattle.path_fixpoint.proofs.PinLaws.{pin_place, pins_before}
use Rattle.path_fixpoint.proofs.Places.{EndIs}
use Rattle.path_fixpoint.proofs.ReachLaws.{slot_high, slot_low}
use Rattle.path_fixpoint.proofs.Spreading.{device_ranges, outside_given}

module _ (u : ℕ) where
  pub within_gated : (kind : Kind) (gate signal : Function) → IsWithin u gate → IsWithin u signal → IsWithin u (gated kind gate signal)
  within_gated kind gate signal g s v w same = ap₂ (λ (x y : Bool). conducts_at kind x && y) (g v w same) (s v w same)

  -- a handle from before
  pub handle_kept : (out : Span) (old new : Diagrams) (h : ℕ) → Writes out old new → h < length old.nodes → IsWithin u (meaning old.nodes h) → IsWithin u (meaning new.nodes h)
  handle_kept out old new h wr live w = within_same u (meaning old.nodes h) (meaning new.nodes h) (wr.adds.kept h live) w

  -- a word of a span beside the one that is written
  pub word_kept : (out span : Span) (old new : Diagrams) → Writes out old new → IsApart span out → IsFilled old span → (k : ℕ) → k < span.len → IsWordWithin u old span k → IsWordWithin u new span k
  word_kept out span old new wr apart live k lt w =
      subst (λ (h : ℕ). IsWithin u (meaning new.nodes h)) (sym (word_beside out span old new k wr apart lt)) (handle_kept out old new (word_at old span k) wr (live k lt) w)

  -- all of them
  pub span_beside : (out span : Span) (old new : Diagrams) → Writes out old new → IsApart span out → IsFilled old span → IsSpanWithin u old span → IsSpanWithin u new span
  span_beside out span old new wr apart live all k lt = word_kept out span old new wr apart live k lt (all k lt)

  -- the span itself, where no word changed
  pub span_still : (out span : Span) (old new : Diagrams) → Writes out old new → new.words ≡ old.words → IsFilled old span → IsSpanWithin u old span → IsSpanWithin u new span
  span_still out span old new wr words live all =
      span_kept u span old new (λ k lt. ap (λ (ws : List ℕ). slice_index ws (span.start + k)) words) (λ k lt. wr.adds.kept (word_at old span k) (live k lt)) all

  -- the constant 0 stands in each word
  pub rewrites_zero : (out : Span) (old new : Diagrams) → new ≡ record old { words = new.words } → ((k : ℕ) → k < out.len → word_at new out k ≡ 0) → Rewrites u out old new
  rewrites_zero out old new is zero = record {
    counted = counted_same u old new (ap (λ (d : Diagrams). d.budget) is) (ap (λ (d : Diagrams). d.nodes) is);
    within = λ k lt. subst (λ (h : ℕ). IsWithin u (meaning new.nodes h)) (sym (zero k lt)) (within_zero u new);
  }

  -- whether a root has a value
  pub root_within : (d : Diagrams) (roots : Span) (n : ℕ) (value : Bool) → IsWordWithin u d roots n → IsWithin u (bit_is value (λ v. shows d roots n v))
  root_within d roots n value word v w same = ap (λ (b : Bool). differ (not value) b) (word v w same)

  -- whether a value reaches the end of a channel
  pub reached_within : (d : Diagrams) (roots : Span) (out : NetWords) (value : Bool) (place : Option ℕ) (n : ℕ) → IfSome place (λ i. net_words out.source * i + net_words out.source ≤ out.span.len)
      → (place ≡ None → IsWordWithin u d roots n) → IsSpanWithin u d out.span → IsWithin u (λ v. reached_end d roots out value place n v)
  reached_within d roots out value None n fits root all = root_within d roots n value (root refl)
  reached_within d roots out value (Some i) n fits root all = all (word_of out (slot_of out value) i) (omega (arith, fits, slot_low out value, slot_high out value))

  -- the same where the end is on a side
  pub offered_within : (d : Diagrams) (roots : Span) (out : NetWords) (value : Bool) (side : Side) (place : Option ℕ) (n : ℕ) → IfSome place (λ i. net_words out.source * i + net_words out.source ≤ out.span.len)
      → (place ≡ None → IsWordWithin u d roots n) → IsSpanWithin u d out.span → IsWithin u (λ v. offered_end d roots out value side place n v)
  offered_within d roots out value side place n fits root all = λ v w same. ap (λ (b : Bool). is_on_side side place && b) (reached_within d roots out value place n fits root all v w same)

  -- the gates of a part's devices, and the roots that it reads
  module _ (c : Circuit) (part : Part) where
    gate_low : HasRanges c → (gates : Span) → gates.len ≡ length c.nets → (dev : Device) → Among (part_devices c part) dev → dev.gate.0 < gates.len
    gate_low in_range gates len dev m = omega (arith, (device_ranges c part dev in_range m).gate, len)

    pub part_gates_within : HasRanges c → (gates : Span) (d : Diagrams) → gates.len ≡ length c.nets → IsSpanWithin u d gates → AreGatesWithin u c part gates d
    part_gates_within in_range gates d len all dev m = all dev.gate.0 (gate_low in_range gates len dev m)

    pub gates_beside : HasRanges c → (out gates : Span) (old new : Diagrams) → gates.len ≡ length c.nets → Writes out old new → IsApart gates out → IsFilled old gates → AreGatesWithin u c part gates old → AreGatesWithin u c part gates new
    gates_beside in_range out gates old new len wr apart live reads dev m = word_kept out gates old new wr apart live dev.gate.0 (gate_low in_range gates len dev m) (reads dev m)

    module _ (is_part : IsPart c part) (roots : Span) (len : length c.nets + length (pins_of c) ≤ roots.len) where
      given_low : (n : ℕ) → IsGiven c n → n < roots.len
      given_low n g = omega (arith, slice_get_within c.nets n g.0 g.1, len)

      place_low : (i n : ℕ) → IsPlace part i n → n < roots.len
      place_low i n p = (let e = p.2 in omega (arith, all_among (IsNet c) part.nets p.0 is_part.nets (i, p.1), e, len))

      pin_low : (at : ℕ) (pin : WholePin) → At (pins_of c) at pin → length c.nets + at < roots.len
      pin_low at pin there = omega (arith, slice_get_within (pins_of c) at pin there, len)

      pub part_roots_within : (d : Diagrams) → IsSpanWithin u d roots → AreRootsWithin u c part roots d
      part_roots_within d all = record {
        left = λ dev m g. all dev.left.0 (given_low dev.left.0 g);
        right = λ dev m g. all dev.right.0 (given_low dev.right.0 g);
        given = λ i n p g. all n (given_low n g);
        held = λ at i hold there p. all hold.net.0 (place_low i hold.net.0 p);
        driven = λ at i pin there p. all (length c.nets + at) (pin_low at pin there);
      }

      pub roots_beside : (out : Span) (old new : Diagrams) → Writes out old new → IsApart roots out → IsFilled old roots → AreRootsWithin u c part roots old → AreRootsWithin u c part roots new
      roots_beside out old new wr apart live reads =
          let kept = word_kept out roots old new wr apart live in
          record {
            left = λ dev m g. kept dev.left.0 (given_low dev.left.0 g) (reads.left dev m g);
            right = λ dev m g. kept dev.right.0 (given_low dev.right.0 g) (reads.right dev m g);
            given = λ i n p g. kept n (given_low n g) (reads.given i n p g);
            held = λ at i hold there p. kept hold.net.0 (place_low i hold.net.0 p) (reads.held at i hold there p);
            driven = λ at i pin there p. kept (length c.nets + at) (pin_low at pin there) (reads.driven at i pin there p);
          }

    -- the output pins of one instance, behind those of the instances before it
    pub outputs_within : (roots : Span) (d : Diagrams) (i : ℕ) (w : Whole) (outputs : List WholePin) (first : ℕ) → At c.wholes i w → outputs ≡ w.outputs → first ≡ length c.nets + length (pins_before c i)
        → AreRootsWithin u c part roots d → ArePinsWithin u part outputs first roots d
    outputs_within roots d i w outputs first there shown behind reads k j pin here p =
        let place = length (pins_before c i) + k in
        let same : length c.nets + place ≡ first + k = omega (arith, behind) in
        subst (IsWordWithin u d roots) same (reads.driven place j pin (pin_place c i w k pin there (subst (λ (ps : List WholePin). At ps k pin) shown here)) p)

    -- the ends of a device's channel outside the part
    module _ (is_part : IsPart c part) (dev : Device) (m : Among (part_devices c part) dev) (roots : Span) (d : Diagrams) (reads : AreRootsWithin u c part roots d) (place : Option ℕ) where
      pub left_within : EndIs part place dev.left.0 → place ≡ None → IsWordWithin u d roots dev.left.0
      left_within is none = reads.left dev m (outside_given c part place dev.left is (is_part.left dev m) none)

      pub right_within : EndIs part place dev.right.0 → place ≡ None → IsWordWithin u d roots dev.right.0
      right_within is none = reads.right dev m (outside_given c part place dev.right is (is_part.right dev m) none)

  module _ (out : Span) where
    pub rewrites_then : (x y z : Diagrams) → Rewrites u out x y → Rewrites u out y z → Rewrites u out x z
    rewrites_then x y z f s = record { counted = counted_then u 0 0 x y z f.counted s.counted; within = s.within }

    pub rewrites_word : (old new : Diagrams) (at h : ℕ) → new ≡ record old { words = slice_set old.words (out.start + at) h } → at < out.len → out.start + out.len ≤ length old.words
        → IsWithin u (meaning old.nodes h) → IsSpanWithin u old out → Rewrites u out old new
    rewrites_word old new at h is at_in span handle all =
        let nodes : new.nodes ≡ old.nodes = ap (λ (d : Diagrams). d.nodes) is in
        let same : (x : ℕ) → IsWithin u (meaning old.nodes x) → IsWithin u (meaning new.nodes x) = λ x w. subst (λ (ns : List Node). IsWithin u (meaning ns x)) (sym nodes) w in
        record {
          counted = counted_same u old new (ap (λ (d : Diagrams). d.budget) is) nodes;
          within = λ k lt. elim (cases_eq k at) [
            | inl e ↦
                let here : word_at new out k ≡ h = subst (λ (x : ℕ). word_at new out x ≡ h) (sym e) (word_here out old new at h is at_in span) in
                subst (λ (x : ℕ). IsWithin u (meaning new.nodes x)) (sym here) (same h handle)
            | inr ne ↦ subst (λ (x : ℕ). IsWithin u (meaning new.nodes x)) (sym (word_apart out old new at h is at_in span k ne)) (same (word_at old out k) (all k lt))
          ];
        }

    module _ {A : Type 0} where
      pub spends_more : (a b : ℕ) (old new : Diagrams) (r : Result A Spent) → a ≤ b → Spends u a out old new r → Spends u b out old new r
      spends_more a b old new r le s = record { counts = counts_more u a b old new r le s.counts; within = s.within }

      -- operations before a step
      pub spends_behind : (a b : ℕ) (x y z : Diagrams) (r : Result A Spent) → IsCounted u a x y → Spends u b out y z r → Spends u (a + b) out x z r
      spends_behind a b x y z r f s = record { counts = counts_then u a b x y z r f s.counts; within = s.within }

      -- words that are written after a step
      pub spends_rewrites : (a : ℕ) (x y z : Diagrams) (v : A) → IsCounted u a x y → Rewrites u out y z → Spends u a out x z (Ok v)
      spends_rewrites a x y z v f s = record {
        counts = counts_more u (a + 0) a x z (Ok v) (omega arith) (counts_ok u (a + 0) x z v (counted_then u a 0 x y z f s.counted));
        within = s.within;
      }

    pub spends_err : {A B : Type 0} (a : ℕ) (old new : Diagrams) (e : Spent) → Spends {A = A} u a out old new (Err e) → Spends {A = B} u a out old new (Err e)
    spends_err a old new e s = record { counts = counts_err u a old new e s.counts; within = tt }

    pub spends_value : {A B : Type 0} (a : ℕ) (old new : Diagrams) (x : A) (y : B) → Spends u a out old new (Ok x) → Spends u a out old new (Ok y)
    spends_value a old new x y s = record { counts = counts_value u a old new x y s.counts; within = s.within }

    -- a refusal before any word was written
    pub spends_refused : {A B : Type 0} (a : ℕ) (old new : Diagrams) (e : Spent) → Counts {A = A} u a old new (Err e) → Spends {A = B} u a out old new (Err e)
    spends_refused a old new e s = record { counts = counts_err u a old new e s; within = tt }

  pub finds_made : (old new : Diagrams) (f : Function) (r : Result H Spent) → 2 ≤ length old.nodes → Makes old new f r → IsWithin u f → Finds u 1 old new r
  finds_made old new f r two m w = record {
    counts = counts_made u old new two f r m w;
    within = if_ok_more (λ h. Means new h f) (λ h. IsWithin u (function_of new h)) r (λ h is. within_same u f (meaning new.nodes h.0) is.same w) m.ok;
  }

  pub finds_then : (a b : ℕ) (x y z : Diagrams) (r : Result H Spent) → IsCounted u a x y → Finds u b y z r → Finds u (a + b) x z r
  finds_then a b x y z r f s = record { counts = counts_then u a b x y z r f s.counts; within = s.within }

  pub finds_more : (a b : ℕ) (old new : Diagrams) (r : Result H Spent) → a ≤ b → Finds u a old new r → Finds u b old new r
  finds_more a b old new r le s = record { counts = counts_more u a b old new r le s.counts; within = s.within }

pub one_more : (n size : ℕ) → n * size + size ≤ (n + 1) * size
one_more n size = omega (arith, add-mul n 1 size)

pub times_most : (n most size : ℕ) → n + 1 ≤ most → n * size + size ≤ most * size
times_most n most size le = omega (arith, add-mul n 1 size, mul-le-mul_right {m = n + 1} {n = most} size le)

-- the operations of the levels and of one value, for n nets, m devices and the source level s
part_levels : (s n m : ℕ) → s * (n * (m * 4)) ≡ 4 * (s * (n * m))
part_levels s n m =
    let four : n * (m * 4) ≡ n * m * 4 = sym (mul_assoc n m 4) in
    omega (arith, ap (λ (x : ℕ). s * x) four, sym (mul_assoc s (n * m) 4))

part_values : (s n m : ℕ) → n * (m * (4 * s + 6)) ≡ 4 * (s * (n * m)) + 6 * (n * m)
part_values s n m =
    let all : n * (m * (4 * s + 6)) ≡ n * m * (4 * s + 6) = sym (mul_assoc n m (4 * s + 6)) in
    let turned : n * m * (4 * s + 6) ≡ (4 * s + 6) * (n * m) = mul_comm (n * m) (4 * s + 6) in
    omega (arith, all, turned, add-mul (4 * s) 6 (n * m), mul_assoc 4 s (n * m))

-- and of all
part_all : (s n m : ℕ) → (12 * s + 12) * (n * m) ≡ 12 * (s * (n * m)) + 12 * (n * m)
part_all s n m = omega (arith, add-mul (12 * s) 12 (n * m), mul_assoc 12 s (n * m))

pub part_most_levels : (s n m r : ℕ) → s * (n * (m * 4)) ≤ (12 * s + 12) * (n * m) + 12 * n + 6 * r
part_most_levels s n m r = omega (arith, part_levels s n m, part_all s n m)

pub part_most_one : (s n m r : ℕ) → s * (n * (m * 4)) + (n * 6 + r * 3 + n * (m * (4 * s + 6))) ≤ (12 * s + 12) * (n * m) + 12 * n + 6 * r
part_most_one s n m r = omega (arith, part_levels s n m, part_values s n m, part_all s n m)

pub part_most : (s n m r : ℕ) → s * (n * (m * 4)) + (n * 6 + r * 3 + n * (m * (4 * s + 6))) + (n * 6 + r * 3 + n * (m * (4 * s + 6))) ≤ (12 * s + 12) * (n * m) + 12 * n + 6 * r
part_most s n m r = omega (arith, part_levels s n m, part_values s n m, part_all s n m)
