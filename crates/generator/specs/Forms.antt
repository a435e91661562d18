-- Lines, and forms that are filled for each place.
use Rattle.std.specs.Prelude.{ℕ, ◌+◌, ◌==◌, if◌then◌else◌, List, [], ◌∷◌, ◌++◌, flat_map}
use Rattle.std.specs.Fmt.{decimal}
use Rattle.std.specs.List.{range_with_len}

-- lines as a text: each ends with a line feed
abbrev pub text_of : List (List ℕ) → List ℕ
text_of lines = flat_map (λ line. line ++ 10 ∷ []) lines

-- what a byte of a form stands for: `%` for the number of the place, `+` for the next number, and each other for itself
abbrev pub meaning : ℕ → ℕ → List ℕ
meaning place byte = if byte == 37 then decimal place else (if byte == 43 then decimal (place + 1) else byte ∷ [])

-- a form filled for a place
abbrev pub filled : List ℕ → ℕ → List ℕ
filled form place = flat_map (meaning place) form

-- a form filled for each place from 0 to below the size, in order
abbrev pub for_each : ℕ → List ℕ → List ℕ
for_each size form = flat_map (filled form) (range_with_len 0 size)
