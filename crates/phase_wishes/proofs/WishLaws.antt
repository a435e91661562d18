-- Lists of wishes: by the definition of the faults, each place once, and one list behind another.
use Rattle.std.proofs.Common.{◌≡◌, ℕ, zero, suc, map, ◌<◌, true, List, [], ◌∷◌, ◌++◌, length, arith, ap, ap₂, refl, sym, subst, ◌∙◌, inl, inr}
use Rattle.std.specs.Prelude.{◌↔◌, Bool, Option}
use Rattle.std.proofs.lemmas.Bool.{cases_eq, cases_lt}
use Rattle.std.proofs.lemmas.Option.{same_Some, slice_get_within}
use Rattle.fault_places.specs.PhaseSpots.{IsSortedBy}
use Rattle.fault_places.specs.Searches.{Spot}
use Rattle.phase_wishes.proofs.SpotLaws.{not_both}
use Rattle.phase_wishes.specs.Held.{held_kinds}
use Rattle.phase_wishes.specs.Wishes.{AreOnce, AreWishes, AreWishesOf, IsMissed, is_asked, spot_of, wanted_bit, wished_kinds}
use Rattle.phase_wishes.specs.declared.wishes.Wish.{Wish}
use Rattle.vrt_model.proofs.Lists.{at_either, at_map}
use Rattle.vrt_model.proofs.Members.{among_either, among_left, among_right, at_none}
use Rattle.vrt_model.specs.Assignment.{Assignment}
use Rattle.vrt_model.specs.Comparison.{Comparison}
use Rattle.vrt_model.specs.Faults.{HasValue, IsPrintedWith, Misses, Stands, WantsValue}
use Rattle.vrt_model.specs.Lists.{Among, At}
use Rattle.vrt_model.specs.Places.{comes_before, standing}
use Rattle.vrt_model.specs.Reading.{Partial}
use Rattle.vrt_model.specs.State.{Setting}
use Rattle.vrt_model.specs.declared.verdict.FaultKind.{FaultKind}
use Rattle.vrt_model.specs.declared.verdict.FaultKind.TheVariants.{Fight, FightKept, Float, Unsettled, Constraint, Differs, Next, Apart, Enter}

module _ (kinds : List FaultKind) (k : Comparison) (phase : ℕ) (wishes : List Wish) (are : AreWishesOf kinds k phase wishes) where
  -- ---- what is missed

  misses : (x : Spot) (a : Partial) (g : Assignment) → IsMissed wishes x a g → Misses k phase a g x.kind x.at
  misses x a g m =
      subst (λ (y : Spot). Misses k phase a g y.kind y.at) m.here
      (m.wish.net.0, wanted_bit m.wish.wanted a g, are.each m.wish m.among a g m.asked, m.missed)

  missed : (x : Spot) (a : Partial) (g : Assignment) → Among kinds x.kind → Misses k phase a g x.kind x.at → IsMissed wishes x a g
  missed x a g among m =
      let there = are.all x.kind x.at m.0 m.1 a g among m.2 in
      let says = there.2 in
      record {
        wish = there.0;
        among = there.1;
        here = ap₂ (λ (kind : FaultKind) (at : ℕ). let y : Spot = record { kind = kind; at = at } in y) says.kind_is says.place_is;
        asked = says.asked_is;
        missed = λ same. m.3 (ap a (sym says.net_is) ∙ same ∙ says.wanted_is);
      }

  -- ---- each place once

  later : (i j : ℕ) (x y : Wish) → At wishes i x → At wishes j y → spot_of x ≡ spot_of y → i < j → ⊥
  later i j x y here there same lt =
      let keyed = λ (s : Spot). standing k phase (λ (n : ℕ). n) (λ (n : ℕ). n) s.kind s.at in
      let before : comes_before (keyed (spot_of x)) (keyed (spot_of x)) ≡ true =
      subst (λ (s : Spot). comes_before (keyed (spot_of x)) (keyed s) ≡ true) (sym same) (are.sorted (λ (n : ℕ). n) (λ (n : ℕ). n) i j x y here there lt) in
      not_both (keyed (spot_of x)) (keyed (spot_of x)) before before

  pub wishes_once : AreOnce wishes
  wishes_once i j x y here there same =
      elim (cases_lt i j) [
        | inl lt ↦ absurd (later i j x y here there same lt)
        | inr ge ↦ elim (cases_eq i j) [ inl e ↦ e | inr ne ↦ absurd (later j i y x there here (sym same) (omega (arith, ge, ne))) ]
      ]

-- ---- all kinds

module _ (k : Comparison) (phase : ℕ) (wishes : List Wish) (are : AreWishes k phase wishes) where
  -- of the other kinds no place is missed
  wished : (kind : FaultKind) (at : ℕ) (a : Partial) (g : Assignment) → Misses k phase a g kind at → Among wished_kinds kind
  wished Differs at a g m = (0, refl)
  wished Next at a g m = (1, refl)
  wished Apart at a g m = (2, refl)
  wished Enter at a g m = (3, refl)
  wished Unsettled at a g m = absurd (m.3 (sym m.2.1))
  wished Fight at a g m = absurd m.2
  wished FightKept at a g m = absurd m.2
  wished Float at a g m = absurd m.2
  wished Constraint at a g m = absurd m.2

  -- a wish of a place is missed exactly where the solution does not give what it ought to there
  pub missed_is : (x : Spot) (a : Partial) (g : Assignment) → IsMissed wishes x a g ↔ Misses k phase a g x.kind x.at
  missed_is x a g = (
    λ m. misses wished_kinds k phase wishes are x a g m,
    λ m. missed wished_kinds k phase wishes are x a g (wished x.kind x.at a g m) m,
  )

-- ---- the faults

-- at these places a fault stands exactly where the solution does not give what it ought to
misses_stands : (k : Comparison) (phase : ℕ) (setting : Setting) (a : Partial) (g : Assignment) (kind : FaultKind) (at : ℕ) → Among wished_kinds kind
    → Misses k phase a g kind at ↔ Stands k phase setting a g kind at
misses_stands k phase setting a g kind at (zero, e) = subst (λ (q : FaultKind). Misses k phase a g q at ↔ Stands k phase setting a g q at) (same_Some Differs kind e) (λ m. m, λ m. m)
misses_stands k phase setting a g kind at (suc zero, e) = subst (λ (q : FaultKind). Misses k phase a g q at ↔ Stands k phase setting a g q at) (same_Some Next kind e) (λ m. m, λ m. m)
misses_stands k phase setting a g kind at (suc (suc zero), e) = subst (λ (q : FaultKind). Misses k phase a g q at ↔ Stands k phase setting a g q at) (same_Some Apart kind e) (λ m. m, λ m. m)
misses_stands k phase setting a g kind at (suc (suc (suc zero)), e) = subst (λ (q : FaultKind). Misses k phase a g q at ↔ Stands k phase setting a g q at) (same_Some Enter kind e) (λ m. m, λ m. m)
misses_stands k phase setting a g kind at (suc (suc (suc (suc i))), e) = absurd (at_none i kind e)

-- the value that is printed for the circuit is that of the solution
value_of : (k : Comparison) (phase : ℕ) (setting : Setting) (a : Partial) (kind : FaultKind) (n : ℕ) (v : Option Bool) → Among wished_kinds kind → v ≡ a n → HasValue k phase setting a kind n v
value_of k phase setting a kind n v (zero, e) is = subst (λ (q : FaultKind). HasValue k phase setting a q n v) (same_Some Differs kind e) is
value_of k phase setting a kind n v (suc zero, e) is = subst (λ (q : FaultKind). HasValue k phase setting a q n v) (same_Some Next kind e) is
value_of k phase setting a kind n v (suc (suc zero), e) is = subst (λ (q : FaultKind). HasValue k phase setting a q n v) (same_Some Apart kind e) is
value_of k phase setting a kind n v (suc (suc (suc zero)), e) is = subst (λ (q : FaultKind). HasValue k phase setting a q n v) (same_Some Enter kind e) is
value_of k phase setting a kind n v (suc (suc (suc (suc i))), e) is = absurd (at_none i kind e)

module _ (k : Comparison) (phase : ℕ) (wishes : List Wish) (are : AreWishes k phase wishes) (setting : Setting) (a : Partial) (g : Assignment) where
  -- a wish of one of the places is missed exactly where the fault of the place stands
  pub missed_stands : (x : Spot) → Among (map spot_of wishes) x → IsMissed wishes x a g ↔ Stands k phase setting a g x.kind x.at
  missed_stands x m =
      let from = at_map spot_of wishes m.0 x m.1 in
      let kind : Among wished_kinds x.kind = subst (λ (y : Spot). Among wished_kinds y.kind) from.2 (are.only from.0 (m.0, from.1)) in
      let one = missed_is k phase wishes are x a g in
      let two = misses_stands k phase setting a g x.kind x.at kind in
      (λ h. two.0 (one.0 h), λ h. one.1 (two.1 h))

  -- the two values that a wish is printed with
  pub wish_printed : (wish : Wish) (circuit wanted : Option Bool) → Among wishes wish → is_asked wish g ≡ true → a wish.net.0 ≡ circuit → wanted_bit wish.wanted a g ≡ wanted
      → IsPrintedWith k phase setting a g wish.kind wish.place circuit wanted
  wish_printed wish circuit wanted m asked has ought = inl (
    wish.net.0,
    subst (WantsValue k phase a g wish.kind wish.place wish.net.0) ought (are.each wish m a g asked),
    value_of k phase setting a wish.kind wish.net.0 circuit (are.only wish m) (sym has),
  )

-- ---- one list behind another

-- each place of the first kinds comes before each of the second
abbrev pub AreBefore : Comparison → ℕ → List FaultKind → List FaultKind → Type 0
AreBefore k phase first second =
    (rank least : ℕ → ℕ) (kind other : FaultKind) (at there : ℕ) → Among first kind → Among second other
    → comes_before (standing k phase rank least kind at) (standing k phase rank least other there) ≡ true

module _ (first second : List FaultKind) (k : Comparison) (phase : ℕ) (xs ys : List Wish) (one : AreWishesOf first k phase xs) (two : AreWishesOf second k phase ys) (before : AreBefore k phase first second) where
  sorted : (rank least : ℕ → ℕ) (i j : ℕ) (x y : Wish) → At (xs ++ ys) i x → At (xs ++ ys) j y → i < j
      → comes_before (standing k phase rank least x.kind x.place) (standing k phase rank least y.kind y.place) ≡ true
  sorted rank least i j x y here there lt =
      elim (at_either xs ys i x here) [
        | inl p ↦ elim (at_either xs ys j y there) [
          | inl q ↦ one.sorted rank least i j x y p q lt
          | inr q ↦ before rank least x.kind y.kind x.place y.place (one.only x (i, p)) (two.only y (q.0, q.2))
        ]
        | inr p ↦ elim (at_either xs ys j y there) [
          | inl q ↦ absurd (let within : j < length xs = slice_get_within xs j y q in let is = p.1 in omega (arith, within, is, lt))
          | inr q ↦ two.sorted rank least p.0 q.0 x y p.2 q.2 (let is = p.1 in let also = q.1 in omega (arith, is, also, lt))
        ]
      ]

  pub wishes_joined : AreWishesOf (first ++ second) k phase (xs ++ ys)
  wishes_joined = record {
    only = λ wish m.
        elim (among_either xs ys wish m) [
          | inl p ↦ among_left first second wish.kind (one.only wish p)
          | inr q ↦ among_right first second wish.kind (two.only wish q)
        ];
    each = λ wish m. elim (among_either xs ys wish m) [ inl p ↦ one.each wish p | inr q ↦ two.each wish q ];
    all = λ kind at n w a g m wants.
        elim (among_either first second kind m) [
          | inl p ↦ (let there = one.all kind at n w a g p wants in (there.0, among_left xs ys there.0 there.1, there.2))
          | inr q ↦ (let there = two.all kind at n w a g q wants in (there.0, among_right xs ys there.0 there.1, there.2))
        ];
    sorted = sorted;
  }

-- ---- outputs before holds

outputs_before : (k : Comparison) (phase : ℕ) → AreBefore k phase (Differs ∷ []) held_kinds
outputs_before k phase rank least kind other at there (zero, e) f =
    ap (λ (q : FaultKind). comes_before (standing k phase rank least q at) (standing k phase rank least other there)) (sym (same_Some Differs kind e)) ∙ behind other f
  where
    behind : (other : FaultKind) → Among held_kinds other → comes_before (standing k phase rank least Differs at) (standing k phase rank least other there) ≡ true
    behind other (zero, f) = ap (λ (q : FaultKind). comes_before (standing k phase rank least Differs at) (standing k phase rank least q there)) (sym (same_Some Next other f))
    behind other (suc zero, f) = ap (λ (q : FaultKind). comes_before (standing k phase rank least Differs at) (standing k phase rank least q there)) (sym (same_Some Apart other f))
    behind other (suc (suc zero), f) = ap (λ (q : FaultKind). comes_before (standing k phase rank least Differs at) (standing k phase rank least q there)) (sym (same_Some Enter other f))
    behind other (suc (suc (suc i)), f) = absurd (at_none i other f)
outputs_before k phase rank least kind other at there (suc i, e) f = absurd (at_none i kind e)

-- what the outputs and what the holds ought to be given is all
pub all_wishes : (k : Comparison) (phase : ℕ) (outputs holds : List Wish) → AreWishesOf (Differs ∷ []) k phase outputs → AreWishesOf held_kinds k phase holds → AreWishes k phase (outputs ++ holds)
all_wishes k phase outputs holds one two = wishes_joined (Differs ∷ []) held_kinds k phase outputs holds one two (outputs_before k phase)

-- the places of all wishes are sorted
pub spots_sorted : (kinds : List FaultKind) (k : Comparison) (phase : ℕ) (wishes : List Wish) (rank least : ℕ → ℕ) → AreWishesOf kinds k phase wishes
    → IsSortedBy (λ (x : Spot). standing k phase rank least x.kind x.at) (map spot_of wishes)
spots_sorted kinds k phase wishes rank least are i j x y here there lt =
    let one = at_map spot_of wishes i x here in
    let two = at_map spot_of wishes j y there in
    ap₂ (λ (a b : Spot). comes_before (standing k phase rank least a.kind a.at) (standing k phase rank least b.kind b.at)) (sym one.2) (sym two.2)
    ∙ are.sorted rank least i j one.0 two.0 one.1 two.1 lt
