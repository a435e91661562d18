-- The last byte of a name, found from the front.
use Rattle.std.proofs.Common.{◌≡◌, ◌==◌, ℕ, Bool, false, List, [], ◌∷◌, refl}
use Rattle.blif_reader.specs.Cards.{ends_with_backslash}

-- whether the last of the bytes that are left is a `\`, where the byte before them was one or was not
abbrev pub ends_from : Bool → List ℕ → Bool
ends_from ends [] = ends
ends_from ends (b ∷ bs) = ends_from (b == 92) bs

-- a byte decides for those before it
pub ends_behind : (ends : Bool) (b : ℕ) (bs : List ℕ) → ends_from ends (b ∷ bs) ≡ ends_with_backslash (b ∷ bs)
ends_behind ends b [] = refl
ends_behind ends b (c ∷ bs) = ends_behind (b == 92) c bs

-- none is a `\` before the first byte
pub ends_all : (bs : List ℕ) → ends_from false bs ≡ ends_with_backslash bs
ends_all [] = refl
ends_all (b ∷ bs) = ends_behind false b bs
