-- Bits behind their names, with a space before each.
use Rattle.std.specs.Prelude.{◌++◌, ◌∷◌, [], ℕ, Bool, List}
use Rattle.vrt_model.specs.VerdictText.{bit_text}

-- one bit
abbrev pub setting_behind : List ℕ → Bool → List ℕ
setting_behind name bit = 32 ∷ name ++ 61 ∷ bit_text bit

-- all of them
abbrev pub settings_behind : List (List ℕ) → List Bool → List ℕ
settings_behind [] bits = []
settings_behind (name ∷ names) [] = []
settings_behind (name ∷ names) (bit ∷ bits) = setting_behind name bit ++ settings_behind names bits
