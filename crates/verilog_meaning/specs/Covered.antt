-- The covers of a module, at bits of its names.
use Rattle.std.specs.Prelude.{◌≡◌, ℕ, Bool, true, not, ◌&&◌, ◌||◌, cond, List, [], ◌∷◌, map}
use Rattle.std.specs.List.{list_any}
use Rattle.vrt_model.specs.Covers.{byte_fits}
use Rattle.vrt_model.specs.Lists.{Among, is_empty}
use Rattle.vrt_model.specs.declared.blif.CoverLine.{CoverLine}

-- each 0 and 1 of the row is the bit of its input
abbrev pub bits_fit : List Bool → List ℕ → Bool
bits_fit [] row = true
bits_fit (bit ∷ bits) [] = true
bits_fit (bit ∷ bits) (byte ∷ row) = byte_fits byte bit && bits_fit bits row

-- the bit that a cover gives for those of its inputs
abbrev pub bit_given : (List ℕ → Bool) → CoverLine → Bool
bit_given bits c =
    let fits = list_any (bits_fit (map bits c.inputs)) c.rows in cond (c.on || is_empty c.rows) fits (not fits)

-- the output of a cover has this bit
abbrev pub IsCovered : (List ℕ → Bool) → CoverLine → Type 0
IsCovered bits c = bits c.output ≡ bit_given bits c

abbrev pub AreCovered : (List ℕ → Bool) → List CoverLine → Type 0
AreCovered bits covers = (c : CoverLine) → Among covers c → IsCovered bits c
