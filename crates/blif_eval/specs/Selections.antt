-- Covers of two rows that ask opposite bits of an input, which selects between them.
use Rattle.std.specs.Prelude.{◌≡◌, ℕ, ◌<◌, ◌==◌, Bool, true, false, cond, [], get_or, length}
use Rattle.vrt_model.specs.declared.flat_model.Cover.{Cover}

-- of two bytes one is `0` and the other `1`
abbrev pub are_opposite : ℕ → ℕ → Bool
are_opposite first second = cond (first == 48) (second == 49) (cond (first == 49) (second == 48) false)

-- a cover has two rows, and they ask opposite bits of the input at a place
pub record IsSelector (cover : Cover) (at : ℕ) : Type 0 where
  pub two : length cover.rows ≡ 2
  pub place : at < length cover.inputs
  pub opposite : are_opposite (get_or (get_or cover.rows 0 []) at 0) (get_or (get_or cover.rows 1 []) at 0) ≡ true
