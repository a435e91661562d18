-- Sets of numbers that are joined two by two: each number has a parent in its set, itself or a lesser number.
use Rattle.std.specs.Prelude.{◌≡◌, ℕ, ◌<◌, List, length, slice_index}

-- a number that all of a set share: that of each number is that of its parent
abbrev pub Respects : List ℕ → (ℕ → ℕ) → Type 0
Respects t f = (n : ℕ) → n < length t → f (slice_index t n) ≡ f n

-- one entry is written
pub record IsWritten (at value : ℕ) (t u : List ℕ) : Type 0 where
  pub size : length u ≡ length t
  pub there : slice_index u at ≡ value
  pub others : (n : ℕ) → (n ≡ at → ⊥) → slice_index u n ≡ slice_index t n
