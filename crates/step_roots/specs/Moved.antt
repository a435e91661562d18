-- Functions of which some variables may be moved to a bit.
use Rattle.std.specs.Prelude.{ℕ, Bool, ◌||◌, List, [], ◌∷◌, ◌≡◌, ◌⊎◌, true}
use Rattle.bdd_core.specs.Diagram.{Function, Valuation, fixed}
use Rattle.vrt_model.specs.Lists.{has_number}

-- the function is 1, or is once the variable has the bit
abbrev pub moved_by : ℕ → Bool → Function → Function
moved_by x bit f = λ v. f v || fixed f x bit v

-- it is 1 once some of these variables have the bit
abbrev pub moved_of : List ℕ → Bool → Function → Function
moved_of [] bit f = f
moved_of (x ∷ xs) bit f = moved_of xs bit (moved_by x bit f)

-- a valuation becomes another one where some of these variables get the bit
abbrev pub Moves : List ℕ → Bool → Valuation → Valuation → Type 0
Moves variables bit v w = (i : ℕ) → (v i ≡ w i) ⊎ ((has_number variables i ≡ true) × (w i ≡ bit))
