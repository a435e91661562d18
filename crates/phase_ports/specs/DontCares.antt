-- A table of the don't-care bits of a model's signals.
use Rattle.std.specs.Prelude.{◌≡◌, ℕ, ◌==◌, cond, List, [], ◌∷◌, Option, Some, None, get_or}
use Rattle.phase_wishes.specs.declared.wishes.Wanted.TheVariants.{Signal}
use Rattle.phase_wishes.specs.declared.wishes.Wish.{Wish}
use Rattle.vrt_model.specs.Lists.{Among}
use Rattle.vrt_model.specs.declared.flat_model.DontCare.{DontCare}
use Rattle.vrt_model.specs.declared.flat_model.FlatModel.{FlatModel}

-- the bit of a signal, where it has this one besides what it had
abbrev pub bit_with : DontCare → ℕ → Option ℕ → Option ℕ
bit_with d n old = cond (d.output == n) (Some d.bit) old

-- the bit of a signal by these, where it had one before them: the last one counts
abbrev pub bit_of : List DontCare → ℕ → Option ℕ → Option ℕ
bit_of [] n old = old
bit_of (d ∷ ds) n old = bit_of ds n (bit_with d n old)

-- the table has the don't-care bit of each signal of the model, and nothing for a signal without one
abbrev pub AreDontCareBits : FlatModel → List (Option ℕ) → Type 0
AreDontCareBits model table = (n : ℕ) → get_or table n None ≡ bit_of model.dontcares n None

-- each wish for a signal has the don't-care bit that the table has for it
abbrev pub HaveBitsOf : List (Option ℕ) → List Wish → Type 0
HaveBitsOf table wishes = (wish : Wish) (signal : ℕ) → Among wishes wish → wish.wanted ≡ Signal signal → wish.free ≡ get_or table signal None
