-- There are no more wishes of holds than three for each net: no two have the same kind and the same net.
use Rattle.std.proofs.Common.{◌≡◌, ℕ, zero, suc, ◌+◌, ◌*◌, ◌<◌, ◌≤◌, Bool, true, false, not, List, length, Option, Some, None, arith, ap, ap₂, refl, sym, subst, ◌∙◌}
use Rattle.std.specs.Prelude.{option_map, slice_get, unwrap_or}
use Rattle.std.proofs.lemmas.Option.{same_Some}
use Rattle.bdd_core.proofs.Pigeon.{pigeon}
use Rattle.fault_places.specs.Searches.{Spot}
use Rattle.phase_wishes.proofs.WishLaws.{wishes_once}
use Rattle.phase_wishes.specs.Held.{held_kinds}
use Rattle.phase_wishes.specs.Wishes.{AreWishesOf, spot_of, wanted_bit}
use Rattle.phase_wishes.specs.declared.wishes.Wish.{Wish}
use Rattle.vrt_model.proofs.Lists.{at_there}
use Rattle.vrt_model.proofs.Members.{at_none}
use Rattle.vrt_model.specs.Assignment.{Assignment}
use Rattle.vrt_model.specs.Comparison.{Comparison}
use Rattle.vrt_model.specs.Faults.{WantsValue}
use Rattle.vrt_model.specs.Lists.{Among, At}
use Rattle.vrt_model.specs.Reading.{Partial}
use Rattle.vrt_model.specs.declared.verdict.FaultKind.{FaultKind}
use Rattle.vrt_model.specs.declared.verdict.FaultKind.TheVariants.{Fight, FightKept, Float, Unsettled, Constraint, Differs, Next, Apart, Enter}

-- ---- kinds by number

abbrev number_of : FaultKind → ℕ
number_of Next = 0
number_of Apart = 1
number_of Enter = 2
number_of Fight = 3
number_of FightKept = 3
number_of Float = 3
number_of Unsettled = 3
number_of Constraint = 3
number_of Differs = 3

abbrev kind_by : ℕ → FaultKind
kind_by zero = Next
kind_by (suc zero) = Apart
kind_by (suc (suc n)) = Enter

-- a kind at holds has a number below three, by which it is found
abbrev IsNumbered : FaultKind → Type 0
IsNumbered kind = (number_of kind < 3) × (kind_by (number_of kind) ≡ kind)

numbered : (kind : FaultKind) → Among held_kinds kind → IsNumbered kind
numbered kind (zero, e) = subst IsNumbered (same_Some Next kind e) (omega arith, refl)
numbered kind (suc zero, e) = subst IsNumbered (same_Some Apart kind e) (omega arith, refl)
numbered kind (suc (suc zero), e) = subst IsNumbered (same_Some Enter kind e) (omega arith, refl)
numbered kind (suc (suc (suc i)), e) = absurd (at_none i kind e)

-- ---- the nets of wishes

-- some values of nets, signals and elements
some_bits : Partial
some_bits n = None

abbrev some_assignment : Assignment
some_assignment = record { signal = λ s. false; next = λ e. false }

-- there each wish is asked for
asked_there : (free : Option ℕ) → unwrap_or (option_map (λ (bit : ℕ). not (some_assignment.signal bit)) free) true ≡ true
asked_there None = refl
asked_there (Some bit) = refl

module _ (k : Comparison) (phase : ℕ) (wishes : List Wish) (are : AreWishesOf held_kinds k phase wishes) where
  -- a wish of a hold has the place of its net
  place_is : (wish : Wish) → Among wishes wish → wish.place ≡ wish.net.0
  place_is wish m = by_kind wish.kind (are.only wish m) (are.each wish m some_bits some_assignment (asked_there wish.free))
    where
      w : Option Bool
      w = wanted_bit wish.wanted some_bits some_assignment

      Wants : FaultKind → Type 0
      Wants kind = WantsValue k phase some_bits some_assignment kind wish.place wish.net.0 w

      by_kind : (kind : FaultKind) → Among held_kinds kind → Wants kind → wish.place ≡ wish.net.0
      by_kind kind (zero, e) wants = (subst Wants (sym (same_Some Next kind e)) wants).0
      by_kind kind (suc zero, e) wants = (subst Wants (sym (same_Some Apart kind e)) wants).0
      by_kind kind (suc (suc zero), e) wants = (subst Wants (sym (same_Some Enter kind e)) wants).0
      by_kind kind (suc (suc (suc i)), e) wants = absurd (at_none i kind e)

  -- ---- each wish by a number of its own

  abbrev code_of : Wish → ℕ
  code_of wish = 3 * wish.place + number_of wish.kind

  abbrev code : ℕ → ℕ
  code i = unwrap_or (option_map code_of (slice_get wishes i)) 0

  code_is : (i : ℕ) (wish : Wish) → At wishes i wish → code i ≡ code_of wish
  code_is i wish at = ap (λ (o : Option Wish). unwrap_or (option_map code_of o) 0) at

  kind_in : (wish : Wish) → Among wishes wish → IsNumbered wish.kind
  kind_in wish m = numbered wish.kind (are.only wish m)

  module _ (count : ℕ) (low : (wish : Wish) → Among wishes wish → wish.net.0 < count) where
    below : (i : ℕ) → i < length wishes → code i < 3 * count
    below i lt =
        let at = at_there wishes i lt in
        let m : Among wishes at.0 = (i, at.1) in
        let is : code i ≡ 3 * at.0.place + number_of at.0.kind = code_is i at.0 at.1 in
        let place = place_is at.0 m in
        let net = low at.0 m in
        let number = (kind_in at.0 m).0 in
        omega (arith, is, place, net, number)

    same_spot : (x y : Wish) → Among wishes x → Among wishes y → code_of x ≡ code_of y → spot_of x ≡ spot_of y
    same_spot x y mx my e =
        let codes : 3 * x.place + number_of x.kind ≡ 3 * y.place + number_of y.kind = e in
        let one = kind_in x mx in
        let two = kind_in y my in
        let few = one.0 in
        let fewer = two.0 in
        let number : number_of x.kind ≡ number_of y.kind = omega (arith, codes, few, fewer) in
        let place : x.place ≡ y.place = omega (arith, codes, number) in
        ap₂ (λ (kind : FaultKind) (at : ℕ). let s : Spot = record { kind = kind; at = at } in s) (sym one.1 ∙ ap kind_by number ∙ two.1) place

    apart : (i j : ℕ) → i < length wishes → j < length wishes → code i ≡ code j → i ≡ j
    apart i j lt less e =
        let x = at_there wishes i lt in
        let y = at_there wishes j less in
        wishes_once held_kinds k phase wishes are i j x.0 y.0 x.1 y.1
        (same_spot x.0 y.0 (i, x.1) (j, y.1) (sym (code_is i x.0 x.1) ∙ e ∙ code_is j y.0 y.1))

    pub few_held : length wishes ≤ 3 * count
    few_held = pigeon (3 * count) (length wishes) code below apart
