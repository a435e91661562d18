-- A value over both directions of a device, and over one device after another.
use Rattle.std.proofs.Common.{◌≡◌, ℕ, ◌+◌, ◌<◌, ◌⊎◌, Bool, true, ◌||◌, List, length, Option, None, get_or, arith, ap, refl, sym, subst, ◌∙◌, inl, inr}
use Rattle.std.proofs.lemmas.Bool.{and_from, and_parts, or_parts}
use Rattle.node_pool.specs.declared.region.Span.{Span}
use Rattle.bdd_core.specs.Diagram.{Valuation, meaning}
use Rattle.bdd_core.specs.Store.{Diagrams}
use Rattle.vrt_model.specs.Networks.{HasRanges}
use Rattle.vrt_model.specs.Lists.{Among}
use Rattle.vrt_model.specs.Path.{Joins, Network}
use Rattle.vrt_model.specs.Reading.{conducts, conducts_at}
use Rattle.vrt_model.proofs.Clear.{HopFits}
use Rattle.vrt_model.specs.declared.circuit.Circuit.{Circuit}
use Rattle.vrt_model.specs.declared.circuit.Device.{Device}
use Rattle.channel_parts.specs.declared.part.Part.{Part}
use Rattle.path_fixpoint.specs.declared.side.Side.{Side}
use Rattle.path_fixpoint.specs.Parts.{IsGiven, IsOnSide, IsPart, IsPlace, is_on_side, part_devices}
use Rattle.path_fixpoint.specs.Reaching.{HasReachPaths, HasRootWords, IsReached, PassesSignal, SolvedAt, SpreadsValue, offered_end, reached_end, slot_of}
use Rattle.path_fixpoint.specs.Strengths.{ChangesLevel, StrongGrows, strong, word_of}
use Rattle.bdd_core.specs.Words.{Writes, word_at}
use Rattle.bdd_core.proofs.Frames.{shows_kept}
use Rattle.path_fixpoint.proofs.Places.{EndIs, place_in, side_of}
use Rattle.path_fixpoint.proofs.ReachLaws.{end_arrives, end_reached, over_value, over_value_paths, reached_grown, root_words_kept, slot_place, solved_kept, value_same}
use Rattle.path_fixpoint.proofs.Spreading.{device_ranges, outside_given}
use Rattle.path_fixpoint.specs.declared.words.NetWords.{NetWords}

module _ (c : Circuit) (part : Part) (is_part : IsPart c part) (in_range : HasRanges c) (gates roots : Span) (out : NetWords) (value : Bool) (side : Side) where
  -- what the two ends offer, which writes no word, and then what the device brings to the right and to the left
  module _ (d : Device) (member : Among (part_devices c part) d) (left right : Option ℕ) (left_is : EndIs part left d.left.0) (right_is : EndIs part right d.right.0)
      (old a mid new : Diagrams) (gate there here : ℕ) (forth back : Bool) (words : HasRootWords c part gates roots out old) (gate_is : gate ≡ word_at old gates d.gate.0)
      (wa : Writes out.span old a) (wm : Writes out.span a mid) (wn : Writes out.span mid new)
      (sa : a.words ≡ old.words) (sm : ChangesLevel out (slot_of out value) a mid) (here_live : here < length a.nodes)
      (there_is : (v : Valuation) → meaning a.nodes there v ≡ offered_end a roots out value side left d.left.0 v)
      (here_is : (v : Valuation) → meaning a.nodes here v ≡ offered_end a roots out value side right d.right.0 v)
      (first : PassesSignal out value d.kind gate there left right d.level forth a mid) (second : PassesSignal out value d.kind gate here right left d.level back mid new) where
    words_a : HasRootWords c part gates roots out a
    words_a = root_words_kept c part is_part in_range gates roots out value old a words wa

    words_m : HasRootWords c part gates roots out mid
    words_m = root_words_kept c part is_part in_range gates roots out value a mid words_a wm

    gate_in : d.gate.0 < length c.nets
    gate_in = (device_ranges c part d in_range member).gate

    gate_live : gate < length old.nodes
    gate_live = omega (arith, gate_is, words.words.gates_live d.gate.0 (omega (arith, gate_in, words.words.gates_len)))

    left_out : left ≡ None → IsGiven c d.left.0
    left_out e = outside_given c part left d.left left_is (is_part.left d member) e

    right_out : right ≡ None → IsGiven c d.right.0
    right_out e = outside_given c part right d.right right_is (is_part.right d member) e

    left_in : d.left.0 < length c.nets
    left_in = (device_ranges c part d in_range member).left

    right_in : d.right.0 < length c.nets
    right_in = (device_ranges c part d in_range member).right

    -- what the right end offers was made before the device passed anything on
    here_mid : (v : Valuation) → meaning mid.nodes here v ≡ offered_end a roots out value side right d.right.0 v
    here_mid v = wm.adds.kept here here_live v ∙ here_is v

    module _ (v : Valuation) (w : Network) (s : ℕ → ℕ) (is : SolvedAt c part gates roots out old v w s) where
      is_a : SolvedAt c part gates roots out a v w s
      is_a = solved_kept c part is_part in_range gates roots out value old a v w s words wa (λ k away. ap (λ (ws : List ℕ). get_or ws (out.span.start + k) 0) sa) is

      is_m : SolvedAt c part gates roots out mid v w s
      is_m = solved_kept c part is_part in_range gates roots out value a mid v w s words_a wm sm is_a

      gate_a : conducts_at d.kind (meaning a.nodes gate v) ≡ conducts w.reading d
      gate_a = ap (λ (x : Bool). conducts_at d.kind x) (wa.adds.kept gate gate_live v ∙ ap (λ (h : ℕ). meaning old.nodes h v) gate_is ∙ is.stands.reading d.gate.0 gate_in)

      gate_m : conducts_at d.kind (meaning mid.nodes gate v) ≡ conducts w.reading d
      gate_m = ap (λ (x : Bool). conducts_at d.kind x) (wm.adds.kept gate (omega (arith, gate_live, wa.adds.longer)) v) ∙ gate_a

      member_w : Among w.devices d
      member_w = subst (λ (ds : List Device). Among ds d) (sym is.stands.devices) member

      back_a : (i n : ℕ) → IsPlace part i n → strong a out (slot_of out value) i v ≡ strong old out (slot_of out value) i v
      back_a i n p = value_same c part is_part in_range gates roots out value old a i v words wa sa (place_in part i n p)

      -- marks of before stand after a step that wrote no word
      step_a : (n : ℕ) → IsReached c part out value old v w n → IsReached c part out value a v w n
      step_a n r = (λ i p. back_a i n p ∙ r.0 i p, r.1)

      -- a mark at the end of a channel, on its side
      offers : (place : Option ℕ) (n : ℕ) → EndIs part place n → (place ≡ None → IsGiven c n) → n < length c.nets → IsOnSide part side n → IsReached c part out value old v w n
          → offered_end a roots out value side place n v ≡ true
      offers place n e out' n_in lies r =
          and_from (is_on_side side place) (reached_end a roots out value place n v) (side_of part side place n e lies)
          (end_reached c part is_part in_range gates roots out value a v w s is_a n place e out' n_in place refl (step_a n r))

      both_values : conducts w.reading d ≡ true → (m n : ℕ) → Joins d m n → HopFits s m d n → IsOnSide part side m → IsReached c part out value old v w m → IsReached c part out value new v w n
      both_values on m n (inl j) fits lies r =
          let seen = offers left d.left.0 left_is left_out left_in (subst (IsOnSide part side) (sym j.0) lies) (subst (IsReached c part out value old v w) (sym j.0) r) in
          let fits' : HopFits s d.left.0 d d.right.0 = subst (λ (x : ℕ). HopFits s d.left.0 d x) (sym j.1) (subst (λ (x : ℕ). HopFits s x d n) (sym j.0) fits) in
          let q : IsReached c part out value mid v w d.right.0 =
          over_value c part is_part in_range gates roots out value a mid words_a d member d.left.0 d.right.0 gate there left right left_is right_is left_out forth first
          v w s is_a (inl (refl, refl)) member_w gate_a on fits' (there_is v ∙ seen) in
          subst (IsReached c part out value new v w) j.1 (reached_grown c part is_part in_range gates roots out value mid new v w d.right.0 words_m second.grown q)
      both_values on m n (inr j) fits lies r =
          let seen = offers right d.right.0 right_is right_out right_in (subst (IsOnSide part side) (sym j.1) lies) (subst (IsReached c part out value old v w) (sym j.1) r) in
          let fits' : HopFits s d.right.0 d d.left.0 = subst (λ (x : ℕ). HopFits s d.right.0 d x) (sym j.0) (subst (λ (x : ℕ). HopFits s x d n) (sym j.1) fits) in
          subst (IsReached c part out value new v w) j.0
          (over_value c part is_part in_range gates roots out value mid new words_m d member d.right.0 d.left.0 gate here right left right_is left_is right_out back second
          v w s is_m (inr (refl, refl)) member_w gate_m on fits' (here_mid v ∙ seen))

      both_paths : HasReachPaths part out value old v w s → HasReachPaths part out value new v w s
      both_paths paths =
          let paths_a : HasReachPaths part out value a v w s = λ i n p e. paths i n p (sym (back_a i n p) ∙ e) in
          over_value_paths c part is_part in_range gates roots out value mid new words_m d member d.right.0 d.left.0 gate here right left right_is left_is right_out back second
          v w s is_m (inr (refl, refl)) member_w gate_m
          (λ e. end_arrives c part is_part in_range gates roots out value a v w s is_a d.right.0 right right_is right_out right_in right refl paths_a
          (and_parts (is_on_side side right) (reached_end a roots out value right d.right.0 v) (sym (here_mid v) ∙ e)).1)
          (over_value_paths c part is_part in_range gates roots out value a mid words_a d member d.left.0 d.right.0 gate there left right left_is right_is left_out forth first
          v w s is_a (inl (refl, refl)) member_w gate_a
          (λ e. end_arrives c part is_part in_range gates roots out value a v w s is_a d.left.0 left left_is left_out left_in left refl paths_a
          (and_parts (is_on_side side left) (reached_end a roots out value left d.left.0 v) (sym (there_is v) ∙ e)).1) paths_a)

    grown_all : StrongGrows out (slot_of out value) old new
    grown_all i lt v e =
        second.grown i lt v (first.grown i lt v (shows_kept out.span out.span old a (word_of out (slot_of out value) i) v wa (ap (λ (ws : List ℕ). get_or ws (out.span.start + word_of out (slot_of out value) i) 0) sa)
        (words.words.out_live (word_of out (slot_of out value) i) lt) ∙ e))

    pub spreads_value_both : SpreadsValue c part gates roots out value side (λ x. x ≡ d) (forth || back) old new
    spreads_value_both = record {
      grown = grown_all;
      passed = λ x e v w s is on m n j fits lies r.
          both_values v w s is (subst (λ (y : Device). conducts w.reading y ≡ true) e on.1) m n (subst (λ (y : Device). Joins y m n) e j) (subst (λ (y : Device). HopFits s m y n) e fits) lies r;
      paths = λ v w s is paths. both_paths v w s is paths;
      same = λ e. let h = or_parts forth back e in second.same h.1 ∙ first.same h.0 ∙ sa;
    }

  -- one step after another
  pub spreads_value_then : (P Q R : Device → Type 0) (f g : Bool) (x y z : Diagrams) → HasRootWords c part gates roots out x → Writes out.span x y → ChangesLevel out (slot_of out value) x y
      → ((d : Device) → R d → P d ⊎ Q d) → SpreadsValue c part gates roots out value side P f x y → SpreadsValue c part gates roots out value side Q g y z → SpreadsValue c part gates roots out value side R (f || g) x z
  spreads_value_then P Q R f g x y z words writes changes either a b = record {
    grown = λ i lt v e. b.grown i lt v (a.grown i lt v e);
    passed = λ d is v w s st on m n j fits lies r. elim (either d is) [
      | inl p ↦ (let q = a.passed d p v w s st on m n j fits lies r in (λ i k. b.grown i (slot_place c part is_part in_range gates roots out value x i n words k) v (q.0 i k), q.1))
      | inr p ↦ b.passed d p v w s (solved_kept c part is_part in_range gates roots out value x y v w s words writes changes st) on m n j fits lies
          (reached_grown c part is_part in_range gates roots out value x y v w m words a.grown r)
    ];
    paths = λ v w s st paths. b.paths v w s (solved_kept c part is_part in_range gates roots out value x y v w s words writes changes st) (a.paths v w s st paths);
    same = λ e. let h = or_parts f g e in b.same h.1 ∙ a.same h.0;
  }

  pub spreads_value_less : (P R : Device → Type 0) (a : Bool) (x y : Diagrams) → ((d : Device) → R d → P d) → SpreadsValue c part gates roots out value side P a x y → SpreadsValue c part gates roots out value side R a x y
  spreads_value_less P R a x y less s = record { grown = s.grown; passed = λ d is. s.passed d (less d is); paths = s.paths; same = s.same }
