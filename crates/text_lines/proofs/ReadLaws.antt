-- Cards that are judged from the front, each by what those before it tell, which is learned card by card.
use Rattle.std.proofs.Common.{◌≡◌, ◌<◌, ◌≤◌, ◌+◌, ◌++◌, ◌∷◌, [], ℕ, List, Option, Some, None, length, take, drop, length-drop, arith, refl, ap, sym, subst, ◌∙◌, below_more}
use Rattle.std.specs.Prelude.{slice_get}
use Rattle.std.proofs.lemmas.List.{drop_more, take_all, take_more}
use Rattle.std.proofs.lemmas.Option.{get_or_from_slice_get, slice_get_read}
use Rattle.text_lines.specs.Faults.{IsClean, IsFirst, fault_at}
use Rattle.text_lines.specs.Reading.{ComesFirst, IsReading}
use Rattle.text_lines.proofs.FaultLaws.{clean_to_end, fault_here}

-- no card so far has a fault, and what is known is what these cards tell
abbrev pub ReadsBy : {C K F : Type 0} → (List C → K) → (List C → C → Option F) → ℕ → List C → K → Type 0
ReadsBy known_by fault_of i cards known = (known ≡ known_by (take i cards)) × ((j : ℕ) → j < i → fault_at fault_of cards j ≡ None)

module _ {C K F : Type 0} (known_by : List C → K) (fault_of : List C → C → Option F) (i : ℕ) (cards : List C) where
  -- a card without a fault is learned
  pub reads_more : (known next : K) (card : C) → i < length cards → ReadsBy known_by fault_of i cards known → slice_get cards i ≡ Some card
      → fault_of (take i cards) card ≡ None → next ≡ known_by (take i cards ++ card ∷ []) → ReadsBy known_by fault_of (i + 1) cards next
  reads_more known next card lt r here none e = (
    e ∙ ap known_by (ap (λ c. take i cards ++ c ∷ []) (sym (get_or_from_slice_get cards i card card here)) ∙ sym (take_more cards i card lt)),
    below_more _ _ r.1 (fault_here fault_of cards i card here ∙ none),
  )

  -- a fault on a card is the first
  pub first_here : (known : K) (card : C) (f : F) → ReadsBy known_by fault_of i cards known → slice_get cards i ≡ Some card → fault_of (take i cards) card ≡ Some f → IsFirst fault_of cards f
  first_here known card f r here e = record { place = i; stands = fault_here fault_of cards i card here ∙ e; first = r.1 }

  -- at the end no card has a fault
  pub all_clean : (known : K) → length cards ≤ i → ReadsBy known_by fault_of i cards known → IsClean fault_of cards
  all_clean known past r = clean_to_end fault_of cards i past r.1

  -- and what is known is what all cards tell
  pub all_known : (known : K) → length cards ≤ i → ReadsBy known_by fault_of i cards known → known ≡ known_by cards
  all_known known past r = r.0 ∙ ap known_by (take_all i cards past)

same_first : {X : Type 0} (x y : X) (xs ys : List X) → x ∷ xs ≡ y ∷ ys → x ≡ y
same_first x y xs ys e = cc

same_rest : {X : Type 0} (x y : X) (xs ys : List X) → x ∷ xs ≡ y ∷ ys → xs ≡ ys
same_rest x y xs ys e = cc

-- the first of what is left stands at its place
first_left : {X : Type 0} (i : ℕ) (all more : List X) (x : X) → x ∷ more ≡ drop i all → (i < length all) × (slice_get all i ≡ Some x) × (more ≡ drop (i + 1) all)
first_left i all more x e =
    let lt : i < length all = omega (arith, ap length e, length-drop i all) in
    let same : x ∷ more ≡ _ = e ∙ drop_more all i x lt in
    (lt, slice_get_read all (length all) i x refl lt (same_first _ _ _ _ same), same_rest _ _ _ _ same)

-- nothing is left at the end alone
none_left : {X : Type 0} (i : ℕ) (all : List X) → [] ≡ drop i all → length all ≤ i
none_left i all e = omega (arith, ap length e, length-drop i all)

same_item : {X : Type 0} (x y : X) → Some x ≡ Some y → x ≡ y
same_item x y e = cc

-- where a card comes first, and where none does
pub some_first : {X : Type 0} (next : Option X) (card : X) (before left : List X) → next ≡ Some card → ComesFirst next before left → before ≡ card ∷ left
some_first None card before left is e = cc
some_first (Some x) card before left is e = e ∙ ap (λ c. c ∷ left) (same_item x card is)

pub none_first : {X : Type 0} (next : Option X) (before left : List X) → next ≡ None → ComesFirst next before left → before ≡ []
none_first None before left is e = e
none_first (Some x) before left is e = cc

module _ {C K F : Type 0} (known_by : List C → K) (fault_of : List C → C → Option F) where
  -- nothing is read at first
  pub begins : (Holds : List C → Type 0) (cards left : List C) (known : K) → left ≡ cards → known ≡ known_by [] → Holds [] → IsReading known_by fault_of Holds cards left known
  begins Holds cards left known all e h = record { place = 0; rest = all; tells = e; clean = λ i lt. absurd (omega arith); holds = h }

  -- one card more
  pub card_more : (Holds Next : List C → Type 0) (cards left rest : List C) (known next : K) (card : C) (r : IsReading known_by fault_of Holds cards left known) → left ≡ card ∷ rest
      → fault_of (take r.place cards) card ≡ None → next ≡ known_by (take r.place cards ++ card ∷ []) → Next (take r.place cards ++ card ∷ [])
      → IsReading known_by fault_of Next cards rest next
  card_more Holds Next cards left rest known next card r is none e h =
      let here = first_left r.place cards rest card (sym is ∙ r.rest) in
      let on = reads_more known_by fault_of r.place cards known next card here.0 (r.tells, r.clean) here.1 none e in
      let taken : take r.place cards ++ card ∷ [] ≡ take (r.place + 1) cards
      = ap (λ c. take r.place cards ++ c ∷ []) (sym (get_or_from_slice_get cards r.place card card here.1)) ∙ sym (take_more cards r.place card here.0) in
      record { place = r.place + 1; rest = here.2; tells = on.0; clean = on.1; holds = subst Next taken h }

  -- a card with a fault
  pub card_fails : (Holds : List C → Type 0) (cards left rest : List C) (known : K) (card : C) (f : F) (r : IsReading known_by fault_of Holds cards left known) → left ≡ card ∷ rest
      → fault_of (take r.place cards) card ≡ Some f → IsFirst fault_of cards f
  card_fails Holds cards left rest known card f r is e =
      first_here known_by fault_of r.place cards known card f (r.tells, r.clean) (first_left r.place cards rest card (sym is ∙ r.rest)).1 e

  -- where none is left no card has a fault, what is known is what all tell, and all are read
  pub all_read : (Holds : List C → Type 0) (cards : List C) (known : K) → IsReading known_by fault_of Holds cards [] known
      → IsClean fault_of cards × (known ≡ known_by cards) × Holds cards
  all_read Holds cards known r =
      let past = none_left r.place cards r.rest in (
        all_clean known_by fault_of r.place cards known past (r.tells, r.clean),
        all_known known_by fault_of r.place cards known past (r.tells, r.clean),
        subst Holds (take_all r.place cards past) r.holds,
      )
