-- Covers depend on the bits of their inputs alone.
use Rattle.std.proofs.Common.{◌≡◌, ℕ, ◌&&◌, ◌||◌, Bool, cond, not, List, [], ◌∷◌, ap, refl, ◌∙◌}
use Rattle.vrt_model.proofs.Members.{among_later}
use Rattle.vrt_model.specs.Covers.{byte_fits, cover_bit, row_fits, some_row_fits}
use Rattle.vrt_model.specs.Lists.{Among, is_empty}
use Rattle.vrt_model.specs.declared.flat_model.Cover.{Cover}

-- ---- a cover's bit depends on the bits of its inputs alone

pub row_same : (b d : ℕ → Bool) (inputs row : List ℕ) → ((s : ℕ) → Among inputs s → b s ≡ d s) → row_fits b inputs row ≡ row_fits d inputs row
row_same b d [] row h = refl
row_same b d (input ∷ inputs) [] h = refl
row_same b d (input ∷ inputs) (byte ∷ row) h =
    ap (λ v. byte_fits byte v && row_fits b inputs row) (h input (0, refl))
    ∙ ap (λ v. byte_fits byte (d input) && v) (row_same b d inputs row (λ s m. h s (among_later input inputs s m)))

pub rows_same : (b d : ℕ → Bool) (inputs : List ℕ) (rows : List (List ℕ)) → ((s : ℕ) → Among inputs s → b s ≡ d s) → some_row_fits b inputs rows ≡ some_row_fits d inputs rows
rows_same b d inputs [] h = refl
rows_same b d inputs (row ∷ rows) h =
    ap (λ v. v || some_row_fits b inputs rows) (row_same b d inputs row h) ∙ ap (λ v. row_fits d inputs row || v) (rows_same b d inputs rows h)

pub cover_same : (b d : ℕ → Bool) (cover : Cover) → ((s : ℕ) → Among cover.inputs s → b s ≡ d s) → cover_bit b cover ≡ cover_bit d cover
cover_same b d cover h =
    ap (λ v. cond (cover.on || is_empty cover.rows) v (not v)) (rows_same b d cover.inputs cover.rows h)
