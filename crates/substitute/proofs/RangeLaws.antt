-- The places of an instance and of what is inside it are a range, and so are their devices.
use Rattle.std.proofs.Common.{◌≡◌, ℕ, zero, suc, ◌+◌, ◌-◌, ◌<◌, ◌≤◌, ◌&&◌, ◌||◌, ◌++◌, Bool, true, false, List, [], ◌∷◌, length, take, drop, map, arith, ap, ap₂, refl, subst, sym, ◌∙◌, inl, inr, length-append}
use Rattle.std.specs.Prelude.{◌==◌, filter, flat_map, nat_le, nat_lt, replicate}
use Rattle.std.specs.List.{enumerate_from, slice_range}
use Rattle.std.proofs.lemmas.Bool.{cases_lt, false_from_ne_true, false≢true, or_from, or_left, or_right}
use Rattle.std.proofs.lemmas.Bool.Decides.{nat_tests}
use Rattle.std.proofs.lemmas.Grind.{flat_map-append}
use Rattle.std.proofs.lemmas.List.{append-nil, drop-take, length-map, length-replicate, take-append-drop}
use Rattle.std.proofs.lemmas.List.Elements.{filter-append}
use Rattle.std.proofs.lemmas.List.FromFn.{length-enumerate_from}
use Rattle.std.proofs.lemmas.List.Folds.{drop_split}
use Rattle.std.proofs.lemmas.Option.{slice_get_within}
use Rattle.std.proofs.Math.Seq.{drop-append_seam, take-append_seam}
use Rattle.checked_chain.proofs.ChoiceLaws.{numbered, numbered_at}
use Rattle.net_places.specs.Links.{Bare, IsUnrolled, bare, shown, step_of}
use Rattle.net_places.specs.declared.places.Place.{Place}
use Rattle.net_places.specs.declared.whole.Unrolled.{Unrolled}
use Rattle.placed_cells.proofs.SplitLaws.{places_in_stand_together}
use Rattle.placed_cells.specs.Splits.{IsSplit}
use Rattle.replaced_instances.proofs.StepPlaces.{behind_inside, inside_leads}
use Rattle.whole_circuits.proofs.InsideLaws.{inside_around}
use Rattle.whole_circuits.proofs.ListLaws.{place_numbered}
use Rattle.whole_circuits.proofs.OwnerLaws.{is_early, is_late}
use Rattle.whole_circuits.proofs.ShownLaws.{all_devices}
use Rattle.whole_circuits.specs.Shown.{card_count, devices_before, own_places}
use Rattle.vrt_model.proofs.Lists.{at_either, at_there, filter_all, filter_among_same, filter_none}
use Rattle.vrt_model.proofs.Members.{among_left, among_right}
use Rattle.vrt_model.specs.Comparison.{cell_at}
use Rattle.vrt_model.specs.Cut.{NumberedPlace, is_inside, is_inside_whole, is_left_out, is_whole, numbered_places}
use Rattle.vrt_model.specs.FlatCircuit.{flat_device, flat_devices}
use Rattle.vrt_model.specs.Inputs.{IsDesign}
use Rattle.vrt_model.specs.Lists.{Among, At}
use Rattle.vrt_model.specs.Unrolled.{Place as FlatPlace, Top, all_places, places_in}
use Rattle.vrt_model.specs.declared.circuit.Device.{Device}
use Rattle.substitute.proofs.GoneLaws.{inside_alone, itself_alone, whole_alone}
use Rattle.substitute.specs.Ranges.{IsEnd, alone, devices_gone}

places_long : (t : Top) → length (numbered_places t) ≡ length (all_places t)
places_long t = length-map (enumerate_from 0 (all_places t)) numbered ∙ length-enumerate_from 0 (all_places t)

-- ---- there is an end

module _ (t : Top) (design : IsDesign t.design) (i : ℕ) (p : NumberedPlace) (here : At (numbered_places t) (suc i) p)
    (depth : ℕ) (front back : List FlatPlace) (split : IsSplit t (suc i) p.at depth front back) where
  abbrev own : List FlatPlace
  own = places_in t depth p.at

  abbrev end : ℕ
  end = suc i + length own

  -- places around are not left out
  out : (q : NumberedPlace) → Among (front ++ back) q.at → ¬ (q.number ≡ suc i) → is_left_out (alone t i) q ≡ false
  out q m other =
      or_from (is_whole (λ j. i == j) q.number) (is_inside_whole (alone t i) q.at)
      (false_from_ne_true (is_whole (λ j. i == j) q.number) (λ e. other (whole_alone t i p here q.number e)))
      (inside_alone t i p here q.at ∙ false_from_ne_true (is_inside q.at p.at) (λ e. false≢true (sym (split.past design q.at m) ∙ inside_leads q.at p.at e)))

  -- its own and those behind it are
  gone : (q : NumberedPlace) (j : ℕ) → Among (numbered_places t) q → q.number ≡ suc i + j → At own j q.at → is_left_out (alone t i) q ≡ true
  gone q zero m is on = or_left (is_whole (λ j. i == j) q.number) (is_inside_whole (alone t i) q.at) (itself_alone t i p here q.number (is ∙ omega arith))
  gone q (suc j) m is on =
      or_right (is_whole (λ k. i == k) q.number) (is_inside_whole (alone t i) q.at) (inside_alone t i p here q.at ∙ behind_inside t p.at depth j q.at on)

  low : (n : ℕ) → n < suc i → (nat_le (suc i) n && nat_lt n end) ≡ false
  low n lt = let off : nat_le (suc i) n ≡ false = grind (arith, nat_tests, lt) in ap (λ (b : Bool). b && nat_lt n end) off

  high : (n : ℕ) → end ≤ n → (nat_le (suc i) n && nat_lt n end) ≡ false
  high n le =
      let off : nat_lt n end ≡ false = grind (arith, nat_tests, le) in
      let on : nat_le (suc i) n ≡ true = grind (arith, nat_tests, le) in
      ap (λ (b : Bool). b && nat_lt n end) on ∙ off

  between : (n : ℕ) → suc i ≤ n → n < end → (nat_le (suc i) n && nat_lt n end) ≡ true
  between n le lt =
      let on : nat_le (suc i) n ≡ true = grind (arith, nat_tests, le) in
      let below : nat_lt n end ≡ true = grind (arith, nat_tests, lt) in
      ap (λ (b : Bool). b && nat_lt n end) on ∙ below

  own_long : 0 < length own
  own_long = by_depth depth
    where
      by_depth : (d : ℕ) → 0 < length (places_in t d p.at)
      by_depth zero = omega arith
      by_depth (suc d) = omega arith

  in_range : (q : NumberedPlace) → Among (numbered_places t) q → is_left_out (alone t i) q ≡ (nat_le (suc i) q.number && nat_lt q.number end)
  in_range q m =
      elim (at_either front (own ++ back) q.number q.at (subst (λ (ps : List FlatPlace). At ps q.number q.at) split.whole at_q)) [
        | inl early ↦ (
            let lt = slice_get_within front q.number q.at early in
            let count = split.number_is in
            out q (among_left front back q.at (q.number, early)) (λ e. (let no : ⊥ = omega (arith, lt, count, e) in no)) ∙ sym (low q.number (omega (arith, lt, count))))
        | inr rest ↦ elim (at_either own back rest.0 q.at rest.2) [
          | inl on ↦ (
              let lt = slice_get_within own rest.0 q.at on in
              let count = split.number_is in
              let is = rest.1 in
              let number : q.number ≡ suc i + rest.0 = omega (arith, count, is) in
              gone q rest.0 m number on ∙ sym (between q.number (omega (arith, number)) (omega (arith, number, lt))))
          | inr late ↦ (
              let count = split.number_is in
              let is = rest.1 in
              let far = late.1 in
              let le : end ≤ q.number = omega (arith, count, is, far) in
              let some = own_long in
              out q (among_right front back q.at (late.0, late.2)) (λ e. (let no : ⊥ = omega (arith, le, e, some) in no)) ∙ sym (high q.number le))
        ]
      ]
    where
      at_q : At (all_places t) q.number q.at
      at_q = let h = numbered_at t m.0 q m.1 in subst (λ (n : ℕ). At (all_places t) n q.at) (sym h.0) h.1

  pub is_end : IsEnd t i end
  is_end =
      let some = own_long in
      let all = ap (λ (ps : List FlatPlace). length ps) split.whole in
      let first = length-append front (own ++ back) in
      let second = length-append own back in
      let count = split.number_is in
      let long = places_long t in
      record { behind = omega (arith, some); within = omega (arith, all, first, second, count, long); range = in_range }

pub end_there : (t : Top) → IsDesign t.design → (i : ℕ) (p : NumberedPlace) → At (numbered_places t) (suc i) p → (e : ℕ) × IsEnd t i e
end_there t design i p here =
    let s = places_in_stand_together t (suc i) p.at (numbered_at t (suc i) p here).1 in
    (_, is_end t design i p here s.0 s.1 s.2 s.3)

-- ---- it is found along the places around

module _ (t : Top) (design : IsDesign t.design) (unrolled : Unrolled) (is : IsUnrolled t unrolled) (i e : ℕ) (end_is : IsEnd t i e) where
  -- a place behind the instance is inside it where the place around is its own or inside
  around_is : (n : ℕ) (place : Place) (q : NumberedPlace) → At unrolled.places n place → At (numbered_places t) n q → suc i < n
      → (place.around < n) × ((nat_le (suc i) n && nat_lt n e) ≡ (nat_le (suc i) place.around && nat_lt place.around e))
  around_is zero place q here there lt = absurd (let no : ⊥ = omega (arith, lt) in no)
  around_is (suc k) place q here there lt =
      let at = numbered_at t (suc k) q there in
      let n = is.nested k place q.at here at.1 in
      let before = n.2.before in
      let o : NumberedPlace = record { number = place.around; at = n.0 } in
      let around = inside_around (alone t i) design place.around (suc k) n.0 q.at (step_of t n.0 n.1) n.2.around at.1 n.2.path in
      let number = at.0 in (
        omega (arith, before),
        ap (λ (m : ℕ). nat_le (suc i) m && nat_lt m e) (sym number) ∙ sym (end_is.range q (suc k, there)) ∙ apart q.number (omega (arith, lt, number)) (is_inside_whole (alone t i) q.at) ∙ around
            ∙ end_is.range o (place.around, place_numbered t place.around n.0 n.2.around),
      )
    where
      apart : (n : ℕ) → suc i < n → (b : Bool) → (is_whole (λ j. i == j) n || b) ≡ b
      apart zero less b = refl
      apart (suc m) less b = let off : (i == m) ≡ false = grind (arith, nat_tests, less) in ap (λ (x : Bool). x || b) off

  pub goes_on : (n : ℕ) (place : Place) (q : NumberedPlace) → At unrolled.places n place → At (numbered_places t) n q → suc i < n → n ≤ e → suc i ≤ place.around → n + 1 ≤ e
  goes_on n place q here there lt le in_it =
      let a = around_is n place q here there lt in
      let before = a.0 in
      let on : nat_le (suc i) place.around ≡ true = grind (arith, nat_tests, in_it) in
      let below : nat_lt place.around e ≡ true = let less : place.around < e = omega (arith, before, le) in grind (arith, nat_tests, less) in
      elim (cases_lt n e) [
        | inl less ↦ omega (arith, less)
        | inr end ↦ (
            let off : nat_lt n e ≡ false = grind (arith, nat_tests, end) in
            let past : nat_le (suc i) n ≡ true = let far : suc i ≤ n = omega (arith, lt) in grind (arith, nat_tests, far) in
            absurd (false≢true (sym (ap (λ (b : Bool). b && nat_lt n e) past ∙ off) ∙ a.1 ∙ (ap (λ (b : Bool). b && nat_lt place.around e) on ∙ below))))
      ]

  pub stops : (n : ℕ) (place : Place) (q : NumberedPlace) → At unrolled.places n place → At (numbered_places t) n q → suc i < n → n ≤ e → place.around < suc i → n ≡ e
  stops n place q here there lt le out_of_it =
      let a = around_is n place q here there lt in
      let off : nat_le (suc i) place.around ≡ false = grind (arith, nat_tests, out_of_it) in
      elim (cases_lt n e) [
        | inl less ↦ (
            let below : nat_lt n e ≡ true = grind (arith, nat_tests, less) in
            let past : nat_le (suc i) n ≡ true = let far : suc i ≤ n = omega (arith, lt) in grind (arith, nat_tests, far) in
            absurd (false≢true (sym (ap (λ (b : Bool). b && nat_lt place.around e) off) ∙ sym a.1 ∙ (ap (λ (b : Bool). b && nat_lt n e) past ∙ below))))
        | inr end ↦ omega (arith, le, end)
      ]

  listed : length unrolled.places ≡ length (numbered_places t)
  listed = sym (length-map unrolled.places shown) ∙ ap (λ (bs : List Bare). length bs) is.places_are ∙ length-map (all_places t) bare ∙ sym (places_long t)

  pub numbered_there : (n : ℕ) (place : Place) → At unrolled.places n place → (q : NumberedPlace) × At (numbered_places t) n q
  numbered_there n place here = at_there (numbered_places t) n (subst (λ (k : ℕ). n < k) listed (slice_get_within unrolled.places n place here))

  -- the end is no further than the last place
  pub ends_in : (n : ℕ) → length unrolled.places ≤ n → n ≤ e → length unrolled.places ≡ e
  ends_in n far le = let within = end_is.within in let long = listed in omega (arith, far, le, within, long)

-- the same for some end, as the places are looked at
module _ (t : Top) (design : IsDesign t.design) (unrolled : Unrolled) (is : IsUnrolled t unrolled) (i at : ℕ) (at_is : at ≡ suc i) where
  -- the end is behind some places
  abbrev pub IsBehind : ℕ → Type 0
  IsBehind n = (e : ℕ) × IsEnd t i e × (n ≤ e)

  pub first_behind : at < length unrolled.places → IsBehind (at + 1)
  first_behind lt =
      let long = sym (length-map unrolled.places shown) ∙ ap (λ (bs : List Bare). length bs) is.places_are ∙ length-map (all_places t) bare ∙ sym (places_long t) in
      let p = at_there (numbered_places t) (suc i) (omega (arith, lt, long, at_is)) in
      let end = end_there t design i p.0 p.1 in
      let behind = end.1.behind in
      (end.0, end.1, omega (arith, behind, at_is))

  pub one_further : (n : ℕ) (place : Place) → At unrolled.places n place → at < n → at ≤ place.around → IsBehind n → IsBehind (n + 1)
  one_further n place here lt around end =
      let q = numbered_there t design unrolled is i end.0 end.1 n place here in
      (end.0, end.1, goes_on t design unrolled is i end.0 end.1 n place q.0 here q.1 (omega (arith, lt, at_is)) end.2 (omega (arith, around, at_is)))

  pub ends_here : (n : ℕ) (place : Place) → At unrolled.places n place → at < n → place.around < at → IsBehind n → IsEnd t i n
  ends_here n place here lt around end =
      let q = numbered_there t design unrolled is i end.0 end.1 n place here in
      subst (IsEnd t i) (sym (stops t design unrolled is i end.0 end.1 n place q.0 here q.1 (omega (arith, lt, at_is)) end.2 (omega (arith, around, at_is)))) end.1

  pub ends_last : (n : ℕ) → length unrolled.places ≤ n → IsBehind n → IsEnd t i (length unrolled.places)
  ends_last n far end = subst (IsEnd t i) (sym (ends_in t design unrolled is i end.0 end.1 n far end.2)) end.1

-- ---- its devices

module _ {X Y : Type 0} (f : X → List Y) (xs : List X) (a e : ℕ) (le : a ≤ e) where
  abbrev first : List Y
  first = flat_map f (take a xs)

  abbrev middle : List Y
  middle = flat_map f (slice_range xs a e)

  abbrev last : List Y
  last = flat_map f (drop e xs)

  in_three : flat_map f xs ≡ first ++ (middle ++ last)
  in_three =
      ap (flat_map f) (sym (take-append-drop a xs) ∙ ap (λ (ys : List X). take a xs ++ ys) (drop_split xs a e le)) ∙ flat_map-append f (take a xs) (slice_range xs a e ++ drop e xs)
      ∙ ap (λ (ys : List Y). first ++ ys) (flat_map-append f (slice_range xs a e) (drop e xs))

  in_two : flat_map f xs ≡ flat_map f (take e xs) ++ last
  in_two = ap (flat_map f) (sym (take-append-drop e xs)) ∙ flat_map-append f (take e xs) (drop e xs)

  pub up_to : length (flat_map f (take e xs)) ≡ length first + length middle
  up_to =
      let three = ap (λ (ys : List Y). length ys) in_three in
      let two = ap (λ (ys : List Y). length ys) in_two in
      let p = length-append first (middle ++ last) in
      let q = length-append middle last in
      let r = length-append (flat_map f (take e xs)) last in
      omega (arith, three, two, p, q, r)

  pub no_further : length (flat_map f (take e xs)) ≤ length (flat_map f xs)
  no_further =
      let two = ap (λ (ys : List Y). length ys) in_two in
      let r = length-append (flat_map f (take e xs)) last in
      omega (arith, two, r)

  -- what comes of a range of items is a range
  pub ranged : slice_range (flat_map f xs) (length first) (length (flat_map f (take e xs))) ≡ middle
  ranged =
      let far : length (flat_map f (take e xs)) - length first ≡ length middle = let sum = up_to in omega (arith, sum) in
      ap (λ (ys : List Y). take (length (flat_map f (take e xs)) - length first) (drop (length first) ys)) in_three
      ∙ ap (λ (ys : List Y). take (length (flat_map f (take e xs)) - length first) ys) (drop-append_seam first (middle ++ last))
      ∙ ap (λ (k : ℕ). take k (middle ++ last)) far ∙ take-append_seam middle last

module _ (t : Top) where
  abbrev ps : List NumberedPlace
  ps = numbered_places t

  none_of : (f : NumberedPlace → Bool) (xs : List NumberedPlace) → ((p : NumberedPlace) → Among xs p → f p ≡ false) → filter f xs ≡ []
  none_of f xs h = filter_among_same f (λ (p : NumberedPlace). false) xs h ∙ filter_none (λ (p : NumberedPlace). false) xs (λ p. refl)

  all_of : (f : NumberedPlace → Bool) (xs : List NumberedPlace) → ((p : NumberedPlace) → Among xs p → f p ≡ true) → filter f xs ≡ xs
  all_of f xs h = filter_among_same f (λ (p : NumberedPlace). true) xs h ∙ filter_all (λ (p : NumberedPlace). true) xs (λ p. refl)

  -- the places with numbers in a range are a range
  in_between : (a e : ℕ) → a ≤ e → filter (λ (p : NumberedPlace). nat_le a p.number && nat_lt p.number e) ps ≡ slice_range ps a e
  in_between a e le =
      ap (filter test) (sym (take-append-drop a ps) ∙ ap (λ (ys : List NumberedPlace). take a ps ++ ys) (drop_split ps a e le))
      ∙ filter-append test (take a ps) (slice_range ps a e ++ drop e ps)
      ∙ ap₂ (λ (xs ys : List NumberedPlace). xs ++ ys) (none_of test (take a ps) early)
      (filter-append test (slice_range ps a e) (drop e ps) ∙ ap₂ (λ (xs ys : List NumberedPlace). xs ++ ys) (all_of test (slice_range ps a e) between) (none_of test (drop e ps) late)
      ∙ append-nil (slice_range ps a e))
    where
      test : NumberedPlace → Bool
      test p = nat_le a p.number && nat_lt p.number e

      early : (p : NumberedPlace) → Among (take a ps) p → test p ≡ false
      early p m =
          let lt = is_early t a p m in
          let off : nat_le a p.number ≡ false = grind (arith, nat_tests, lt) in
          ap (λ (b : Bool). b && nat_lt p.number e) off

      late : (p : NumberedPlace) → Among (drop e ps) p → test p ≡ false
      late p m =
          let far = is_late t e p m in
          let off : nat_lt p.number e ≡ false = grind (arith, nat_tests, far) in
          ap (λ (b : Bool). nat_le a p.number && b) off ∙ and_false (nat_le a p.number)
        where
          and_false : (b : Bool) → (b && false) ≡ false
          and_false true = refl
          and_false false = refl

      between : (p : NumberedPlace) → Among (slice_range ps a e) p → test p ≡ true
      between p m =
          let from : a ≤ p.number = is_late t a p (subst (λ (xs : List NumberedPlace). Among xs p) (sym (drop_split ps a e le)) (among_left (slice_range ps a e) (drop e ps) p m)) in
          let room : e ≡ a + (e - a) = omega (arith, le) in
          let taken : drop a (take e ps) ≡ slice_range ps a e = ap (λ (k : ℕ). drop a (take k ps)) room ∙ drop-take a (e - a) ps in
          let below : p.number < e =
          is_early t e p
          (subst (λ (xs : List NumberedPlace). Among xs p) (take-append-drop a (take e ps))
          (among_right (take a (take e ps)) (drop a (take e ps)) p (subst (λ (xs : List NumberedPlace). Among xs p) (sym taken) m))) in
          let one : nat_le a p.number ≡ true = grind (arith, nat_tests, from) in
          let two : nat_lt p.number e ≡ true = grind (arith, nat_tests, below) in
          ap (λ (b : Bool). b && nat_lt p.number e) one ∙ two

  -- the devices of some places
  abbrev cards : NumberedPlace → List Device
  cards p = map (flat_device t p.at) (cell_at t.design p.at.cell).devices

  as_many : (xs : List NumberedPlace) → length (own_places t xs) ≡ length (flat_map cards xs)
  as_many [] = refl
  as_many (p ∷ xs) =
      let one = length-append (replicate (card_count t.design p.at.cell) p.number) (own_places t xs) in
      let two = length-append (cards p) (flat_map cards xs) in
      let many = length-replicate (card_count t.design p.at.cell) p.number in
      let few = length-map (cell_at t.design p.at.cell).devices (flat_device t p.at) in
      let rest = as_many xs in
      omega (arith, one, two, many, few, rest)

  pub record IsDeviceRange (i e : ℕ) : Type 0 where
    pub rises : devices_before t (suc i) ≤ devices_before t e
    pub within : devices_before t e ≤ length (flat_devices t)
    pub range : slice_range (flat_devices t) (devices_before t (suc i)) (devices_before t e) ≡ devices_gone t i

  pub device_range : (i e : ℕ) → IsEnd t i e → IsDeviceRange i e
  device_range i e is =
      let behind = is.behind in
      let le : suc i ≤ e = omega (arith, behind) in
      let all = all_devices t in
      let from = as_many (take (suc i) ps) in
      let to = as_many (take e ps) in
      let sum = up_to cards ps (suc i) e le in
      let whole = no_further cards ps (suc i) e le in
      let long = ap (λ (ds : List Device). length ds) all in
      record {
        rises = omega (arith, from, to, sum);
        within = omega (arith, to, whole, long);
        range =
            ap₂ (slice_range (flat_devices t)) from to ∙ ap (λ (ds : List Device). slice_range ds (length (flat_map cards (take (suc i) ps))) (length (flat_map cards (take e ps)))) all
            ∙ ranged cards ps (suc i) e le
            ∙ ap (flat_map cards) (sym (filter_among_same (is_left_out (alone t i)) (λ (p : NumberedPlace). nat_le (suc i) p.number && nat_lt p.number e) ps is.range ∙ in_between (suc i) e le));
      }

  -- the devices that the code finds
  pub part_is : (i e at from to : ℕ) (devices result : List Device) → at ≡ suc i → IsEnd t i e → from ≡ devices_before t at → to ≡ devices_before t e → devices ≡ flat_devices t
      → (from ≤ to → to ≤ length devices → result ≡ slice_range devices from to) → result ≡ devices_gone t i
  part_is i e at from to devices result at_is end from_is to_is devices_are gives =
      let r = device_range i e end in
      let first : from ≡ devices_before t (suc i) = from_is ∙ ap (devices_before t) at_is in
      let rises = r.rises in
      let within = r.within in
      let long = ap (λ (ds : List Device). length ds) devices_are in
      gives (omega (arith, first, to_is, rises)) (omega (arith, to_is, within, long)) ∙ ap (λ (ds : List Device). slice_range ds from to) devices_are
      ∙ ap₂ (slice_range (flat_devices t)) first to_is ∙ r.range
