-- Which of several things is on the earliest line.
use Rattle.std.specs.Prelude.{◌≡◌, ℕ, List, [], ◌∷◌, Bool, cond, find, not, nat_lt, Option, Some, None}
use Rattle.std.specs.List.{list_any}

-- of two things that of the earlier line, of one line the first
abbrev pub earlier : {X : Type 0} → (X → ℕ) → Option X → Option X → Option X
earlier line None other = other
earlier line (Some one) None = Some one
earlier line (Some one) (Some other) = cond (nat_lt (line other) (line one)) (Some other) (Some one)

abbrev pub earliest : {X : Type 0} → (X → ℕ) → List X → Option X
earliest line [] = None
earliest line (x ∷ xs) = earlier line (Some x) (earliest line xs)

-- whether none is on an earlier line than this
abbrev pub none_before : {X : Type 0} → (X → ℕ) → List X → ℕ → Bool
none_before {X} line xs this = not (list_any (λ (other : X). nat_lt (line other) this) xs)

-- of places, each on a line, the first before whose line no other stands is the earliest
abbrev pub EarliestIsFirst : Type 0
EarliestIsFirst = (line : ℕ → ℕ) (places : List ℕ) → find (λ (at : ℕ). none_before line places (line at)) places ≡ earliest line places
