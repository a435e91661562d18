-- Rows, and the lines of covers: their words are good, and none but `.names` begins with a dot.
use Rattle.std.proofs.Common.{◌≡◌, ℕ, ◌&&◌, ◌||◌, Bool, true, false, not, List, [], ◌∷◌, ◌++◌, length, map, ap, ap₂, refl, sym, subst, inl, inr}
use Rattle.std.specs.Prelude.{bytes_eq, codes, flat_map, ◌==◌}
use Rattle.std.specs.List.{list_all}
use Rattle.std.proofs.lemmas.Bool.{and_from, and_parts, eqb-true, or_cases}
use Rattle.blif_reader.specs.Cards.{ends_with_backslash, has_first}
use Rattle.blif_reader.specs.Models.{is_dotted, is_on}
use Rattle.blif_reader.specs.Refused.{is_input_byte, is_row}
use Rattle.plain_models.proofs.ReadBack.{all_more}
use Rattle.plain_models.specs.Lines.{card_on, is_good_line, is_word_byte}
use Rattle.plain_models.specs.Texts.{IsPlainCover, PlainCover, cover_lines, row_words}
use Rattle.vrt_model.proofs.Members.{among_later}
use Rattle.vrt_model.specs.Lists.{Among}

-- ---- each item of a list

abbrev pub Each : {X : Type 0} → (X → Type 0) → List X → Type 0
Each P [] = Unit {0}
Each P (x ∷ xs) = P x × Each P xs

pub each_of : {X : Type 0} (P : X → Type 0) (xs : List X) → ((x : X) → Among xs x → P x) → Each P xs
each_of P [] f = tt
each_of P (x ∷ xs) f = (f x (0, refl), each_of P xs (λ y m. f y (among_later x xs y m)))

pub each_joined : {X : Type 0} (P : X → Type 0) (xs ys : List X) → Each P xs → Each P ys → Each P (xs ++ ys)
each_joined P [] ys e f = f
each_joined P (x ∷ xs) ys e f = (e.0, each_joined P xs ys e.1 f)

pub each_mapped : {X Y : Type 0} (P : X → Type 0) (Q : Y → Type 0) (g : X → Y) (xs : List X) → ((x : X) → P x → Q (g x)) → Each P xs → Each Q (map g xs)
each_mapped P Q g [] f e = tt
each_mapped P Q g (x ∷ xs) f e = (f x e.0, each_mapped P Q g xs f e.1)

pub each_flat : {X Y : Type 0} (P : X → Type 0) (Q : Y → Type 0) (g : X → List Y) (xs : List X) → ((x : X) → P x → Each Q (g x)) → Each P xs → Each Q (flat_map g xs)
each_flat P Q g [] f e = tt
each_flat P Q g (x ∷ xs) f e = each_joined Q (g x) (flat_map g xs) (f x e.0) (each_flat P Q g xs f e.1)

pub all_each : {X : Type 0} (test : X → Bool) (xs : List X) → Each (λ x. test x ≡ true) xs → list_all test xs ≡ true
all_each test [] e = refl
all_each test (x ∷ xs) e = and_from (test x) (list_all test xs) e.0 (all_each test xs e.1)

-- ---- rows

-- the rows of a cover fit its inputs
abbrev pub Fits : ℕ → List ℕ → Type 0
Fits width row = is_row width (row_words row) ≡ true

-- a byte of a row is this one of three
input_byte : (P : ℕ → Type 0) (b : ℕ) → P 48 → P 49 → P 45 → is_input_byte b ≡ true → P b
input_byte P b zero one any e =
    elim (or_cases ((b == 48) || (b == 49)) (b == 45) e) [
      | inl bit ↦ elim (or_cases (b == 48) (b == 49) bit) [ inl is ↦ subst P (sym (eqb-true b 48 is)) zero | inr is ↦ subst P (sym (eqb-true b 49 is)) one ]
      | inr is ↦ subst P (sym (eqb-true b 45 is)) any
    ]

row_bytes : (width b : ℕ) (bs : List ℕ) → Fits width (b ∷ bs) → list_all is_input_byte (b ∷ bs) ≡ true
row_bytes width b bs e =
    let outer = and_parts (not (width == 0) && (length (b ∷ bs) == width) && list_all is_input_byte (b ∷ bs)) true e in
    (and_parts (not (width == 0) && (length (b ∷ bs) == width)) (list_all is_input_byte (b ∷ bs)) outer.0).1

first_byte : (width b : ℕ) (bs : List ℕ) → Fits width (b ∷ bs) → is_input_byte b ≡ true
first_byte width b bs e = (and_parts (is_input_byte b) (list_all is_input_byte bs) (row_bytes width b bs e)).0

-- the first word of a row does not begin with a dot
pub row_undotted : (width : ℕ) (row : List ℕ) (line : ℕ) → Fits width row → is_dotted (card_on line (row_words row)) ≡ false
row_undotted width [] line e = refl
row_undotted width (b ∷ bs) line e = input_byte (λ x. (46 == x) ≡ false) b refl refl refl (first_byte width b bs e)

pub row_is_no : (word : List ℕ) (width : ℕ) (row : List ℕ) (line : ℕ) → Fits width row → has_first (46 ∷ word) (card_on line (row_words row)) ≡ false
row_is_no word width [] line e = refl
row_is_no word width (b ∷ bs) line e = ap (λ (t : Bool). t && bytes_eq bs word) (input_byte (λ x. (x == 46) ≡ false) b refl refl refl (first_byte width b bs e))

-- a row has the output 1
pub row_is_on : (row : List ℕ) (line : ℕ) → is_on (card_on line (row_words row)) ≡ true
row_is_on [] line = refl
row_is_on (b ∷ bs) line = refl

no_backslash : (bs : List ℕ) → list_all is_input_byte bs ≡ true → ends_with_backslash bs ≡ false
no_backslash [] e = refl
no_backslash (b ∷ []) e = input_byte (λ x. (x == 92) ≡ false) b refl refl refl (and_parts (is_input_byte b) true e).0
no_backslash (b ∷ c ∷ bs) e = no_backslash (c ∷ bs) (and_parts (is_input_byte b) (list_all is_input_byte (c ∷ bs)) e).1

good_row : (width : ℕ) (row : List ℕ) → Fits width row → is_good_line (row_words row) ≡ true
good_row width [] e = refl
good_row width (b ∷ bs) e =
    let bytes = row_bytes width b bs e in
    let fine : list_all is_word_byte (b ∷ bs) ≡ true = all_more is_input_byte is_word_byte (b ∷ bs) (λ x t. input_byte (λ y. is_word_byte y ≡ true) x refl refl refl t) bytes in
    ap₂ (λ (x y : Bool). (x && not y) && true) fine (no_backslash (b ∷ bs) bytes)

-- ---- covers

pub good_rows : (cover : PlainCover) → IsPlainCover cover → Each (Fits (length cover.inputs)) cover.rows
good_rows cover good = each_of (Fits (length cover.inputs)) cover.rows good.rows

good_cover : (cover : PlainCover) → IsPlainCover cover → Each (λ words. is_good_line words ≡ true) (cover_lines cover)
good_cover cover good = (
  good.names,
  each_mapped (Fits (length cover.inputs)) (λ words. is_good_line words ≡ true) row_words cover.rows (good_row (length cover.inputs)) (good_rows cover good),
)

pub good_covers : (covers : List PlainCover) → Each IsPlainCover covers → list_all is_good_line (flat_map cover_lines covers) ≡ true
good_covers covers good =
    all_each is_good_line (flat_map cover_lines covers) (each_flat IsPlainCover (λ words. is_good_line words ≡ true) cover_lines covers good_cover good)

-- no line of a cover begins with another word with a dot
abbrev pub IsNo : List ℕ → List (List ℕ) → Type 0
IsNo word words = (line : ℕ) → has_first word (card_on line words) ≡ false

pub covers_are_no : (word : List ℕ) → bytes_eq (codes ".names") (46 ∷ word) ≡ false → (covers : List PlainCover) → Each IsPlainCover covers → Each (IsNo (46 ∷ word)) (flat_map cover_lines covers)
covers_are_no word apart covers good = each_flat IsPlainCover (IsNo (46 ∷ word)) cover_lines covers
    (λ cover is. (
      λ line. apart,
      each_mapped (Fits (length cover.inputs)) (IsNo (46 ∷ word)) row_words cover.rows (λ row fits line. row_is_no word (length cover.inputs) row line fits) (good_rows cover is),
    )) good
