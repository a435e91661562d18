-- What a word of a line says.
use Rattle.std.specs.Prelude.{ℕ, List, [], ◌∷◌, ◌+◌, ◌-◌, Bool, true, false, ◌==◌, ◌&&◌, if◌then◌else◌, nat_le, take, drop, codes, bytes_eq, Option, Some, None, option_map}
use Rattle.std.specs.List.{position}
use Rattle.text_lines.specs.Bytes.{starts}
use Rattle.rules_lines.specs.declared.entry.ByScale.{ByScale}
use Rattle.rules_lines.specs.declared.entry.Signed.{Signed}
use Rattle.vrt_model.specs.Levels.{fine_scale, usual_at, usual_scale}
use Rattle.vrt_model.specs.declared.design.Kind.{Kind}
use Rattle.vrt_model.specs.declared.design.Kind.TheVariants.{N, P}

-- a word that is one digit of a range; none for any other
abbrev pub digit_in : ℕ → ℕ → List ℕ → Option ℕ
digit_in least greatest (b ∷ []) = if nat_le (48 + least) b && nat_le b (48 + greatest) then Some (b - 48) else None
digit_in least greatest [] = None
digit_in least greatest (b ∷ c ∷ bs) = None

-- 6 to 14 in one or two digits, without a leading zero
abbrev pub fine_level : List ℕ → Option ℕ
fine_level (b ∷ c ∷ []) = if b == 49 then option_map (λ n. 10 + n) (digit_in 0 4 (c ∷ [])) else None
fine_level word = digit_in 6 9 word

-- LEVEL is 4 to 7 at scale 8, and 6 to 14 at scale 16.
abbrev pub level_of : List ℕ → ByScale
level_of word = record { eight = digit_in 4 7 word; sixteen = fine_level word }

-- the level of a `device` line without LEVEL
abbrev pub usual_level : ByScale
usual_level = record { eight = Some (usual_at usual_scale); sixteen = Some (usual_at fine_scale) }

-- SIZE is 1 to 3 at scale 8, and 1 to 5 at scale 16.
abbrev pub size_of : List ℕ → ByScale
size_of word = record { eight = digit_in 1 3 word; sixteen = digit_in 1 5 word }

-- the size of a `hold` line without SIZE
abbrev pub usual_size : ByScale
usual_size = record { eight = Some 1; sixteen = Some 1 }

-- a level or a size at one of the scales
abbrev pub at_scale : ℕ → ByScale → Option ℕ
at_scale scale amount = if scale == fine_scale then amount.sixteen else amount.eight

abbrev pub scale_of : List ℕ → Option ℕ
scale_of word = if bytes_eq word (codes "8") then Some usual_scale else (if bytes_eq word (codes "16") then Some fine_scale else None)

abbrev pub bit_of : List ℕ → Option Bool
bit_of word = if bytes_eq word (codes "0") then Some false else (if bytes_eq word (codes "1") then Some true else None)

abbrev pub kind_of : List ℕ → Option Kind
kind_of word = if bytes_eq word (codes "n") then Some N else (if bytes_eq word (codes "p") then Some P else None)

-- what stands before and behind the first such byte, if there is one
abbrev pub cut_first : ℕ → List ℕ → Option (List ℕ × List ℕ)
cut_first sign word = option_map (λ n. (take n word, drop (n + 1) word)) (position (λ b. b == sign) word)

-- a name with or without `!`
abbrev pub signed : List ℕ → Signed
signed word = if starts 33 word then record { name = drop 1 word; is_inverted = true } else record { name = word; is_inverted = false }
