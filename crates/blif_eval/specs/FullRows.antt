-- Covers whose rows ask a bit of every input. The inputs before a place leave a class of rows, those that ask the same bits of them.
use Rattle.std.specs.Prelude.{◌≡◌, ℕ, zero, suc, ◌-◌, ◌<◌, ◌&&◌, ◌||◌, ◌==◌, Bool, true, false, cond, List, [], drop, get_or, length, Option, Some, None, sum_by}
use Rattle.std.specs.List.{list_all, list_any}
use Rattle.vrt_model.specs.Covers.{row_fits}

-- a byte that asks 0 or 1
abbrev pub is_bit : ℕ → Bool
is_bit byte = (byte == 48) || (byte == 49)

-- a row that asks a bit of every input
abbrev pub is_full : List ℕ → Bool
is_full row = list_all is_bit row

pub record IsFull (width : ℕ) (row : List ℕ) : Type 0 where
  pub length : length row ≡ width
  pub bits : is_full row ≡ true

-- two rows ask the same of each input before a place
abbrev pub agree : ℕ → List ℕ → List ℕ → Bool
agree zero first second = true
agree (suc at) first second = agree at first second && (get_or second at 0 == get_or first at 0)

-- a class is told by the place of one of its rows; `None` is the class of no row
abbrev pub in_class : List (List ℕ) → Option ℕ → ℕ → List ℕ → Bool
in_class rows None at row = false
in_class rows (Some like) at row = agree at (get_or rows like []) row

-- a row that agrees with another before a place, and has a byte there
abbrev pub has_next : List ℕ → ℕ → ℕ → List ℕ → Bool
has_next like at byte row = agree at like row && (get_or row at 0 == byte)

-- the place of such a row, if there is one
abbrev pub IsNext : List (List ℕ) → List ℕ → ℕ → ℕ → Option ℕ → Type 0
IsNext rows like at byte None = list_any (has_next like at byte) rows ≡ false
IsNext rows like at byte (Some place) = (place < length rows) × (has_next like at byte (get_or rows place []) ≡ true)

-- some row of a class fits from a place on
abbrev pub class_fits : (ℕ → Bool) → List ℕ → List (List ℕ) → Option ℕ → ℕ → Bool
class_fits bits inputs rows class at = list_any (λ row. in_class rows class at row && row_fits bits (drop at inputs) (drop at row)) rows

-- one operation for each byte from a place on of each row of a class
abbrev pub class_operations : ℕ → List (List ℕ) → Option ℕ → ℕ → ℕ
class_operations width rows class at = sum_by (λ row. cond (in_class rows class at row) (width - at) 0) rows
