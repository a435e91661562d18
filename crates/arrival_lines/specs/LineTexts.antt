-- The lines of arrival orders, each with its end.
use Rattle.std.specs.Prelude.{◌++◌, ◌∷◌, [], ℕ, Bool, List, codes, map}
use Rattle.std.specs.Fmt.{decimal}
use Rattle.std.specs.List.{concat}
use Rattle.vrt_model.specs.VerdictText.{valuation_text}

-- in each order it goes well
abbrev pub yes_line : List ℕ → List ℕ → List ℕ
yes_line cell phase = concat (codes "arrive " ∷ cell ∷ codes " phase " ∷ phase ∷ codes " yes\n" ∷ [])

-- it does not where a port rises, at these bits
abbrev pub no_line : List ℕ → List ℕ → List ℕ → List (List ℕ) → List Bool → List ℕ
no_line cell phase port names bits =
    concat (codes "arrive " ∷ cell ∷ codes " phase " ∷ phase ∷ codes " no " ∷ port ∷ codes " at " ∷ valuation_text names bits ∷ codes "\n" ∷ [])

-- too many variables
abbrev pub many_line : List ℕ → ℕ → List ℕ
many_line cell count = concat (codes "arrive " ∷ cell ∷ codes " variables " ∷ decimal count ∷ codes "\n" ∷ [])

-- the budget is used up
abbrev pub budget_line : List ℕ → List ℕ → ℕ → List ℕ
budget_line cell phase nodes = concat (codes "arrive " ∷ cell ∷ codes " budget " ∷ decimal nodes ∷ codes " phase " ∷ phase ∷ codes "\n" ∷ [])

-- the names of a step's bits: the variables of the phase, and each port that rises with a plus sign, whose bit says whether it has arrived before
abbrev pub step_names : List (List ℕ) → List (List ℕ) → List (List ℕ)
step_names variables rising = variables ++ map (λ (name : List ℕ). name ++ codes "+") rising
