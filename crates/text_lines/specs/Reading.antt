-- Cards that are read one by one from the front.
use Rattle.std.specs.Prelude.{◌≡◌, ◌<◌, ℕ, List, [], ◌∷◌, Option, Some, None, take, drop}
use Rattle.text_lines.specs.Faults.{fault_at}

-- a card is the first of those left before, and the others are left; none, where none was left
abbrev pub ComesFirst : {C : Type 0} → Option C → List C → List C → Type 0
ComesFirst None before left = before ≡ []
ComesFirst (Some card) before left = before ≡ card ∷ left

-- So many of the cards are read and the others left. None of those has a fault, what is known is what they tell, and
-- this holds of them.
pub record IsReading {C K F : Type 0} (known_by : List C → K) (fault_of : List C → C → Option F) (Holds : List C → Type 0) (cards left : List C) (known : K) : Type 0 where
  pub place : ℕ
  pub rest : left ≡ drop place cards
  pub tells : known ≡ known_by (take place cards)
  pub clean : (i : ℕ) → i < place → fault_at fault_of cards i ≡ None
  pub holds : Holds (take place cards)
