-- Valuations by the bits of some variables.
use Rattle.std.specs.Prelude.{ℕ, Bool, false, cond, not, List, [], ◌∷◌}
use Rattle.bdd_core.specs.Diagram.{Valuation}

-- These variables have these bits; or, where a lesser one is asked for, come before them: of two lists the lesser has 0 where they first differ.
abbrev pub compares : Bool → List ℕ → List Bool → Valuation → Bool
compares lesser [] bits v = not lesser
compares lesser (x ∷ xs) [] v = not lesser
compares lesser (x ∷ xs) (bit ∷ bits) v = cond (v x) (cond bit (compares lesser xs bits v) false) (cond bit lesser (compares lesser xs bits v))
