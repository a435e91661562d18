-- Both directions of a device, and one device after another.
use Rattle.std.proofs.Common.{◌≡◌, ℕ, ◌+◌, ◌<◌, ◌≤◌, ◌⊎◌, Bool, true, ◌||◌, ◌&&◌, List, length, Option, Some, None, arith, ap, refl, sym, subst, ◌∙◌, inl, inr}
use Rattle.std.specs.Prelude.{slice_get}
use Rattle.std.proofs.lemmas.Bool.{and_from, and_parts, cases_lt, or_parts}
use Rattle.std.proofs.lemmas.Option.{same_Some, slice_get_within}
use Rattle.vrt_model.proofs.Lists.{among_filter_map, filter_map_among}
use Rattle.node_pool.specs.declared.region.Span.{Span}
use Rattle.bdd_core.specs.Diagram.{Valuation, meaning}
use Rattle.bdd_core.specs.Store.{Diagrams}
use Rattle.vrt_model.proofs.Members.{all_among}
use Rattle.vrt_model.specs.Circuits.{IsDevice}
use Rattle.vrt_model.specs.Networks.{HasRanges}
use Rattle.vrt_model.specs.Lists.{At, Among}
use Rattle.vrt_model.specs.Path.{Joins, Network}
use Rattle.vrt_model.specs.Reading.{conducts, conducts_at}
use Rattle.vrt_model.specs.declared.circuit.Circuit.{Circuit}
use Rattle.vrt_model.specs.declared.circuit.Device.{Device}
use Rattle.vrt_model.specs.declared.ids.Dev.{Dev}
use Rattle.vrt_model.specs.declared.ids.Net.{Net}
use Rattle.channel_parts.specs.declared.part.Part.{Part}
use Rattle.path_fixpoint.specs.declared.direction.Direction.{Direction}
use Rattle.path_fixpoint.specs.declared.direction.Direction.TheVariants.{Backward, Forward}
use Rattle.path_fixpoint.specs.declared.side.Side.{Side}
use Rattle.path_fixpoint.specs.Parts.{IsGiven, IsOnSide, IsPart, IsVisited, is_on_side, part_devices, visited_place}
use Rattle.path_fixpoint.specs.Strengths.{HasWords, IsStrong, Passes, Spreads, StandsAt, strong_end}
use Rattle.bdd_core.specs.Words.{Writes, word_at}
use Rattle.path_fixpoint.proofs.RoundLaws.{stands_kept, words_kept}
use Rattle.path_fixpoint.proofs.Passing.{end_marked, end_path, given_path, over, over_paths}
use Rattle.path_fixpoint.proofs.Places.{EndIs, place_word, side_of}
use Rattle.path_fixpoint.specs.declared.words.NetWords.{NetWords}

pub device_of_circuit : (c : Circuit) (part : Part) (d : Device) → Among (part_devices c part) d → Among c.devices d
device_of_circuit c part d m = let r = among_filter_map (λ (x : Dev). slice_get c.devices x.0) part.devices d m in (r.0.0, r.2)

-- a device that a round visits in its first steps
abbrev pub Visited : Circuit → Part → Direction → ℕ → Device → Type 0
Visited c part direction count d = (step : ℕ) × (step < count) × IsVisited c part direction step d

pub visited_more : (c : Circuit) (part : Part) (direction : Direction) (i : ℕ) (device : Device) → IsVisited c part direction i device
    → (d : Device) → Visited c part direction (i + 1) d → Visited c part direction i d ⊎ (d ≡ device)
visited_more c part direction i device is d x =
    elim (cases_lt x.0 i) [
      | inl low ↦ inl (x.0, low, x.2)
      | inr ge ↦
          let here : x.0 ≡ i = omega (arith, ge, x.1) in
          let there : IsVisited c part direction i d = subst (λ (k : ℕ). IsVisited c part direction k d) here x.2 in
          let same : there.0 ≡ is.0 = same_Some there.0 is.0 (sym there.1 ∙ is.1) in
          inr (same_Some d device (sym there.2 ∙ subst (λ (y : Dev). At c.devices y.0 device) (sym same) is.2))
    ]

visited_in : (direction : Direction) (count at : ℕ) → at < count → visited_place direction count at < count
visited_in Forward count at lt = lt
visited_in Backward count at lt = omega (arith, lt)

visited_twice : (direction : Direction) (count at : ℕ) → at < count → visited_place direction count (visited_place direction count at) ≡ at
visited_twice Forward count at lt = refl
visited_twice Backward count at lt = omega (arith, lt)

pub all_visited : (c : Circuit) (part : Part) (direction : Direction) (count : ℕ) → length part.devices ≤ count → (d : Device) → Among (part_devices c part) d → Visited c part direction count d
all_visited c part direction count le d m =
    let r = among_filter_map (λ (x : Dev). slice_get c.devices x.0) part.devices d m in
    let size = length part.devices in
    let inside : r.1.0 < size = slice_get_within part.devices r.1.0 r.0 r.1.1 in
    let step = visited_place direction size r.1.0 in
    let back : visited_place direction size step ≡ r.1.0 = visited_twice direction size r.1.0 inside in
    (step, omega (arith, le, visited_in direction size r.1.0 inside), (r.0, subst (λ (k : ℕ). At part.devices k r.0) (sym back) r.1.1, r.2))

-- a device that a round visits is one of the part
pub visited_among : (c : Circuit) (part : Part) (direction : Direction) (step : ℕ) (d : Device) → IsVisited c part direction step d → Among (part_devices c part) d
visited_among c part direction step d is =
    filter_map_among (λ (x : Dev). slice_get c.devices x.0) part.devices (visited_place direction (length part.devices) step) is.0 d is.1 is.2

pub device_ranges : (c : Circuit) (part : Part) (d : Device) → HasRanges c → Among (part_devices c part) d → IsDevice c d
device_ranges c part d in_range m = all_among (IsDevice c) c.devices d in_range.devices (device_of_circuit c part d m)

-- a net of a channel that is not in the part has a given value
pub outside_given : (c : Circuit) (part : Part) (place : Option ℕ) (net : Net) → EndIs part place net.0 → Among part.nets net ⊎ IsGiven c net.0 → place ≡ None → IsGiven c net.0
outside_given c part None net e (inl q) none = absurd (e.none refl q.0 (net, q.1, refl))
outside_given c part None net e (inr g) none = g
outside_given c part (Some i) net e h none = absurd (cc none)

-- one device, in both directions
module _ (c : Circuit) (part : Part) (is_part : IsPart c part) (in_range : HasRanges c) (gates : Span) (out : NetWords) (level : ℕ) (low : 1 ≤ level) (high : level ≤ out.source) (side : Side)
    (d : Device) (member : Among (part_devices c part) d) where
  module _ (left right : Option ℕ) (left_is : EndIs part left d.left.0) (right_is : EndIs part right d.right.0) (le : level ≤ d.level)
      (old mid new : Diagrams) (gate there here : ℕ) (forth back : Bool) (words : HasWords c part gates out old) (gate_is : gate ≡ word_at old gates d.gate.0)
      (here_live : here < length old.nodes)
      (there_is : (v : Valuation) → meaning old.nodes there v ≡ (is_on_side side left && strong_end old out level left v))
      (here_is : (v : Valuation) → meaning old.nodes here v ≡ (is_on_side side right && strong_end old out level right v))
      (first : Writes out.span old mid) (second : Writes out.span mid new)
      (onward : Passes out level d.kind gate there right forth old mid) (backward : Passes out level d.kind gate here left back mid new) where
    gate_in : d.gate.0 < length c.nets
    gate_in = (device_ranges c part d in_range member).gate

    gate_old : (v : Valuation) (w : Network) → StandsAt c part gates old v w → meaning old.nodes gate v ≡ w.reading d.gate.0
    gate_old v w st = ap (λ (h : ℕ). meaning old.nodes h v) gate_is ∙ st.reading d.gate.0 gate_in

    gate_live : gate < length old.nodes
    gate_live = omega (arith, gate_is, words.gates_live d.gate.0 (omega (arith, gate_in, words.gates_len)))

    gate_mid : (v : Valuation) (w : Network) → StandsAt c part gates old v w → meaning mid.nodes gate v ≡ w.reading d.gate.0
    gate_mid v w st = first.adds.kept gate gate_live v ∙ gate_old v w st

    on_old : (v : Valuation) (w : Network) → StandsAt c part gates old v w → conducts w.reading d ≡ true → conducts_at d.kind (meaning old.nodes gate v) ≡ true
    on_old v w st on = ap (λ (b : Bool). conducts_at d.kind b) (gate_old v w st) ∙ on

    on_mid : (v : Valuation) (w : Network) → StandsAt c part gates old v w → conducts w.reading d ≡ true → conducts_at d.kind (meaning mid.nodes gate v) ≡ true
    on_mid v w st on = ap (λ (b : Bool). conducts_at d.kind b) (gate_mid v w st) ∙ on

    -- what stands at the right end was read before the device passed anything on
    here_mid : (v : Valuation) → meaning mid.nodes here v ≡ (is_on_side side right && strong_end old out level right v)
    here_mid v = first.adds.kept here here_live v ∙ here_is v

    -- a mark at the end of a channel, on its side
    offered : (place : Option ℕ) (n : ℕ) (v : Valuation) → EndIs part place n → IsOnSide part side n → IsStrong part out level old v n
        → (is_on_side side place && strong_end old out level place v) ≡ true
    offered place n v e lies s = and_from (is_on_side side place) (strong_end old out level place v) (side_of part side place n e lies) (end_marked part out level old v place n e s)

    both_ways : (v : Valuation) (w : Network) → StandsAt c part gates old v w → conducts w.reading d ≡ true → (m n : ℕ) → Joins d m n → IsOnSide part side m
        → IsStrong part out level old v m → IsStrong part out level new v n
    both_ways v w st on m n (inl j) lies s =
        let q : IsStrong part out level mid v d.right.0 =
        over c part is_part gates out level low high d.kind gate there forth d.left.0 d.right.0 right old mid right_is onward v (on_old v w st on)
        (there_is v ∙ offered left d.left.0 v left_is (subst (IsOnSide part side) (sym j.0) lies) (subst (IsStrong part out level old v) (sym j.0) s)) in
        subst (IsStrong part out level new v) j.1 (λ i p. backward.grown i (place_word c part gates out old level i d.right.0 words low high p) v (q i p))
    both_ways v w st on m n (inr j) lies s =
        subst (IsStrong part out level new v) j.0
        (over c part is_part gates out level low high d.kind gate here back d.right.0 d.left.0 left mid new left_is backward v (on_mid v w st on)
        (here_mid v ∙ offered right d.right.0 v right_is (subst (IsOnSide part side) (sym j.1) lies) (subst (IsStrong part out level old v) (sym j.1) s)))

    pub spreads_both : Spreads c part gates out level side (λ x. x ≡ d) (forth || back) old new
    spreads_both = record {
      grown = λ i lt v e. backward.grown i lt v (onward.grown i lt v e);
      passed = λ x is v w st on le' m n j lies s.
          both_ways v w st (subst (λ (y : Device). conducts w.reading y ≡ true) is on.1) m n (subst (λ (y : Device). Joins y m n) is j) lies s;
      paths = λ v w st paths.
          let on : Among w.devices d = subst (λ (ds : List Device). Among ds d) (sym st.devices) member in
          over_paths c part is_part gates out level low high d.kind gate here back d.right.0 d.left.0 left mid new d w v (words_kept c part gates out old mid words first) left_is backward
          (λ e. end_path part out level old v w right d.right.0 right_is
          (λ none. given_path c w level d.right.0 st.nets (omega (arith, high, st.source, words.source)) (outside_given c part right d.right right_is (is_part.right d member) none)) paths
          (and_parts (is_on_side side right) (strong_end old out level right v) (sym (here_mid v) ∙ e)).1)
          on (λ e. ap (λ (b : Bool). conducts_at d.kind b) (sym (gate_mid v w st)) ∙ e) le (inr (refl, refl))
          (over_paths c part is_part gates out level low high d.kind gate there forth d.left.0 d.right.0 right old mid d w v words right_is onward
          (λ e. end_path part out level old v w left d.left.0 left_is
          (λ none. given_path c w level d.left.0 st.nets (omega (arith, high, st.source, words.source)) (outside_given c part left d.left left_is (is_part.left d member) none)) paths
          (and_parts (is_on_side side left) (strong_end old out level left v) (sym (there_is v) ∙ e)).1)
          on (λ e. ap (λ (b : Bool). conducts_at d.kind b) (sym (gate_old v w st)) ∙ e) le (inl (refl, refl)) paths);
      same = λ e. let h = or_parts forth back e in backward.same h.1 ∙ onward.same h.0;
    }

-- one step after another
module _ (c : Circuit) (part : Part) (gates : Span) (out : NetWords) (level : ℕ) (low : 1 ≤ level) (high : level ≤ out.source) (side : Side) where
  pub spreads_less : (P R : Device → Type 0) (a : Bool) (x y : Diagrams) → ((d : Device) → R d → P d) → Spreads c part gates out level side P a x y → Spreads c part gates out level side R a x y
  spreads_less P R a x y less s = record { grown = s.grown; passed = λ d is. s.passed d (less d is); paths = s.paths; same = s.same }

  pub spreads_then : (P Q R : Device → Type 0) (a b : Bool) (x y z : Diagrams) → HasWords c part gates out x → Writes out.span x y
      → ((d : Device) → R d → P d ⊎ Q d) → Spreads c part gates out level side P a x y → Spreads c part gates out level side Q b y z → Spreads c part gates out level side R (a || b) x z
  spreads_then P Q R a b x y z words writes either f s = record {
    grown = λ i lt v e. s.grown i lt v (f.grown i lt v e);
    passed = λ d is v w st on le m n j lies str. elim (either d is) [
      | inl p ↦ (λ i q. s.grown i (place_word c part gates out x level i n words low high q) v (f.passed d p v w st on le m n j lies str i q))
      | inr p ↦ s.passed d p v w (stands_kept c part gates out x y v w words writes st) on le m n j lies
          (λ i q. f.grown i (place_word c part gates out x level i m words low high q) v (str i q))
    ];
    paths = λ v w st paths. s.paths v w (stands_kept c part gates out x y v w words writes st) (f.paths v w st paths);
    same = λ e. let h = or_parts a b e in s.same h.1 ∙ f.same h.0;
  }
