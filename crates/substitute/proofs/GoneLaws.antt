-- The devices that go where one more instance is whole, and how many channels are left at each net.
use Rattle.std.proofs.Common.{◌≡◌, ℕ, zero, suc, ◌+◌, ◌&&◌, ◌||◌, Bool, true, false, not, cond, List, [], ◌∷◌, length, map, arith, ap, ap₂, refl, subst, sym, ◌∙◌, inl, inr, length-append}
use Rattle.std.specs.Prelude.{◌==◌, filter, flat_map}
use Rattle.std.specs.List.{list_any}
use Rattle.std.proofs.lemmas.Bool.{and_from, and_parts, eq-eqb, eqb-true, false≢true, or_cases}
use Rattle.std.proofs.lemmas.List.Elements.{filter-append}
use Rattle.checked_chain.proofs.ChoiceLaws.{numbered_at}
use Rattle.checked_chain.proofs.OrderLaws.{nothing_is_left_out_inside}
use Rattle.whole_circuits.specs.Counts.{AreChanged, AreCounts, channels_of, is_of}
use Rattle.vrt_model.proofs.Lists.{one_at}
use Rattle.vrt_model.proofs.Members.{among_any, among_later, any_among}
use Rattle.vrt_model.proofs.Tests.{same_tests}
use Rattle.vrt_model.specs.Checked.{with_one}
use Rattle.vrt_model.specs.CheckedParts.{checked_devices}
use Rattle.vrt_model.specs.Comparison.{cell_at}
use Rattle.vrt_model.specs.Cut.{Cut, NumberedPlace, is_inside, is_inside_whole, is_left_out, is_whole, numbered_places}
use Rattle.vrt_model.specs.FlatCircuit.{flat_device}
use Rattle.vrt_model.specs.Inputs.{IsDesign}
use Rattle.vrt_model.specs.Lists.{Among, At}
use Rattle.vrt_model.specs.Unrolled.{Place, Top}
use Rattle.vrt_model.specs.declared.circuit.Device.{Device}
use Rattle.substitute.proofs.ChosenLaws.{front_is_all}
use Rattle.substitute.specs.Chosen.{NoneFrom}
use Rattle.substitute.specs.Ranges.{AreSettled, alone, devices_gone, with_chosen}
use Rattle.substitute.specs.Underway.{AreCountsOf}

-- ---- one instance alone

module _ (t : Top) (i : ℕ) (p : NumberedPlace) (here : At (numbered_places t) (suc i) p) where
  number_is : p.number ≡ suc i
  number_is = (numbered_at t (suc i) p here).0

  pub whole_alone : (n : ℕ) → is_whole (λ j. i == j) n ≡ true → n ≡ suc i
  whole_alone zero e = absurd (false≢true e)
  whole_alone (suc k) e = ap (λ (j : ℕ). suc j) (sym (eqb-true i k e))

  pub itself_alone : (n : ℕ) → n ≡ suc i → is_whole (λ j. i == j) n ≡ true
  itself_alone n e = subst (λ (k : ℕ). is_whole (λ j. i == j) k ≡ true) (sym e) (eq-eqb i i refl)

  pub the_one : (o : NumberedPlace) → Among (numbered_places t) o → o.number ≡ suc i → o ≡ p
  the_one o m e = one_at (numbered_places t) (suc i) o p (subst (λ (n : ℕ). At (numbered_places t) n o) (sym (numbered_at t m.0 o m.1).0 ∙ e) m.1) here

  pub inside_alone : (q : Place) → is_inside_whole (alone t i) q ≡ is_inside q p.at
  inside_alone q =
      same_tests (is_inside_whole (alone t i) q) (is_inside q p.at)
      (λ e.
      let w = any_among (λ (o : NumberedPlace). is_whole (λ j. i == j) o.number && is_inside q o.at) (numbered_places t) e in
      let both = and_parts (is_whole (λ j. i == j) w.0.number) (is_inside q w.0.at) w.2 in
      subst (λ (o : NumberedPlace). is_inside q o.at ≡ true) (the_one w.0 w.1 (whole_alone w.0.number both.0)) both.1)
      (λ e.
      among_any (λ (o : NumberedPlace). is_whole (λ j. i == j) o.number && is_inside q o.at) (numbered_places t) p (suc i, here)
      (and_from (is_whole (λ j. i == j) p.number) (is_inside q p.at) (itself_alone p.number number_is) e))

-- ---- besides others

crossed : (a b c d : Bool) → ((a || b) || (c || d)) ≡ ((a || c) || (b || d))
crossed true b c d = refl
crossed false true true d = refl
crossed false true false d = refl
crossed false false true d = refl
crossed false false false d = refl

any_either : {X : Type 0} (f g h : X → Bool) → ((x : X) → f x ≡ (g x || h x)) → (xs : List X) → list_any f xs ≡ (list_any g xs || list_any h xs)
any_either f g h is [] = refl
any_either f g h is (x ∷ xs) = ap₂ (λ (a b : Bool). a || b) (is x) (any_either f g h is xs) ∙ crossed (g x) (h x) (list_any g xs) (list_any h xs)

shared : (a b c : Bool) → ((a || b) && c) ≡ ((a && c) || (b && c))
shared true true true = refl
shared true true false = refl
shared true false true = refl
shared true false false = refl
shared false b c = refl

module _ (cut : Cut) (i : ℕ) where
  whole_with : (n : ℕ) → is_whole (with_one cut i).choice n ≡ (is_whole cut.choice n || is_whole (λ j. i == j) n)
  whole_with zero = refl
  whole_with (suc n) = refl

  -- what is left out with it is left out by the others or by it
  left_with : (q : NumberedPlace) → is_left_out (with_one cut i) q ≡ (is_left_out cut q || is_left_out (alone cut.top i) q)
  left_with q =
      ap₂ (λ (a b : Bool). a || b) (whole_with q.number)
      (any_either (λ (o : NumberedPlace). is_whole (with_one cut i).choice o.number && is_inside q.at o.at) (λ (o : NumberedPlace). is_whole cut.choice o.number && is_inside q.at o.at)
      (λ (o : NumberedPlace). is_whole (λ j. i == j) o.number && is_inside q.at o.at)
      (λ o. ap (λ (b : Bool). b && is_inside q.at o.at) (whole_with o.number) ∙ shared (is_whole cut.choice o.number) (is_whole (λ j. i == j) o.number) (is_inside q.at o.at))
      (numbered_places cut.top))
      ∙ crossed (is_whole cut.choice q.number) (is_whole (λ j. i == j) q.number) (is_inside_whole cut q.at) (is_inside_whole (alone cut.top i) q.at)

-- ---- how many channels of a level are at a net

module _ (t : Top) (n level : ℕ) where
  abbrev cards : NumberedPlace → List Device
  cards p = map (flat_device t p.at) (cell_at t.design p.at.cell).devices

  abbrev count : List NumberedPlace → ℕ
  count ps = length (channels_of level (flat_map cards ps) n)

  count_one : (p : NumberedPlace) (ps : List NumberedPlace) → count (p ∷ ps) ≡ length (channels_of level (cards p) n) + count ps
  count_one p ps =
      ap (λ (ds : List Device). length ds) (filter-append (is_of level n) (cards p) (flat_map cards ps))
      ∙ length-append (channels_of level (cards p) n) (channels_of level (flat_map cards ps) n)

  -- where some of the places that pass one test pass another, and the others a third
  counts_parted : (f g h : NumberedPlace → Bool) (ps : List NumberedPlace) → ((p : NumberedPlace) → Among ps p → (g p ≡ (f p || h p)) × (h p ≡ true → f p ≡ false))
      → count (filter (λ (p : NumberedPlace). not (f p)) ps) ≡ count (filter (λ (p : NumberedPlace). not (g p)) ps) + count (filter h ps)
  counts_parted f g h [] are = refl
  counts_parted f g h (p ∷ ps) are =
      by_tests (f p) (g p) (h p) (are p (0, refl)).0 (are p (0, refl)).1 (counts_parted f g h ps (λ q m. are q (among_later p ps q m)))
    where
      kept : List NumberedPlace
      kept = filter (λ (q : NumberedPlace). not (f q)) ps

      left : List NumberedPlace
      left = filter (λ (q : NumberedPlace). not (g q)) ps

      gone : List NumberedPlace
      gone = filter h ps

      by_tests : (a b c : Bool) → b ≡ (a || c) → (c ≡ true → a ≡ false) → count kept ≡ count left + count gone
          → count (cond (not a) (p ∷ kept) kept) ≡ count (cond (not b) (p ∷ left) left) + count (cond c (p ∷ gone) gone)
      by_tests true b true e apart rest = absurd (false≢true (sym (apart refl)))
      by_tests true true false e apart rest = rest
      by_tests true false false e apart rest = absurd (false≢true e)
      by_tests false true true e apart rest =
          let one = count_one p kept in
          let other = count_one p gone in
          omega (arith, one, other, rest)
      by_tests false false true e apart rest = absurd (false≢true e)
      by_tests false true false e apart rest = absurd (false≢true (sym e))
      by_tests false false false e apart rest =
          let one = count_one p kept in
          let other = count_one p left in
          omega (arith, one, other, rest)

module _ (cut : Cut) (i : ℕ) (p : NumberedPlace) (design : IsDesign cut.top.design) (none : NoneFrom cut i) (here : At (numbered_places cut.top) (suc i) p) (outside : is_inside_whole cut p.at ≡ false) where
  abbrev Kept : Cut → Type 0
  Kept c = (is_left_out c p ≡ false) × ((q : NumberedPlace) → Among (numbered_places cut.top) q → is_inside q.at p.at ≡ true → is_left_out c q ≡ false)

  -- nothing of it is left out yet
  still_there : (q : NumberedPlace) → Among (numbered_places cut.top) q → is_left_out (alone cut.top i) q ≡ true → is_left_out cut q ≡ false
  still_there q m e =
      elim (or_cases (is_whole (λ j. i == j) q.number) (is_inside_whole (alone cut.top i) q.at) e) [
        | inl whole ↦ subst (λ (o : NumberedPlace). is_left_out cut o ≡ false) (sym (the_one cut.top i p here q m (whole_alone cut.top i p here q.number whole))) kept.0
        | inr inside ↦ kept.1 q m (sym (inside_alone cut.top i p here q.at) ∙ inside)
      ]
    where
      kept : Kept cut
      kept =
          subst Kept (front_is_all cut i none)
          (nothing_is_left_out_inside cut i p design here (subst (λ (c : Cut). is_inside_whole c p.at ≡ false) (sym (front_is_all cut i none)) outside))

  gone_is : (n level : ℕ) → length (channels_of level (checked_devices cut) n) ≡ length (channels_of level (checked_devices (with_one cut i)) n) + length (channels_of level (devices_gone cut.top i) n)
  gone_is n level =
      counts_parted cut.top n level (is_left_out cut) (is_left_out (with_one cut i)) (is_left_out (alone cut.top i)) (numbered_places cut.top)
      (λ q m. (left_with cut i q, still_there q m))

  module _ (size : ℕ) where
    -- counts without its channels
    pub counts_without : (old new : List ℕ) → AreCountsOf cut size old → length new ≡ length old
        → AreChanged false (λ n k. length (channels_of k (devices_gone cut.top i) n)) old new → AreCountsOf (with_one cut i) size new
    counts_without old new are each fewer = record { each = each ∙ are.each; are = by_net }
      where
        by_net : AreCounts size (checked_devices (with_one cut i)) new
        by_net n k lt low =
            let long = are.each in
            let was = are.are n k lt low in
            let sum = gone_is n k in
            let now = fewer n k low (omega (arith, long, lt, low)) in
            omega (arith, was, sum, now)

    -- and with them again, unless it is chosen
    pub counts_settled : (right : Bool) (less new : List ℕ) → AreCountsOf (with_one cut i) size less → length new ≡ length less
        → AreSettled right (devices_gone cut.top i) less new → AreCountsOf (with_chosen right cut i) size new
    counts_settled true less new are each is = record { each = each ∙ are.each; are = λ n k lt low. is n k low (let long = are.each in omega (arith, long, lt, low)) ∙ are.are n k lt low }
    counts_settled false less new are each is = record { each = each ∙ are.each; are = by_net }
      where
        by_net : AreCounts size (checked_devices cut) new
        by_net n k lt low =
            let long = are.each in
            let was = are.are n k lt low in
            let sum = gone_is n k in
            let now = is n k low (omega (arith, long, lt, low)) in
            omega (arith, was, sum, now)
