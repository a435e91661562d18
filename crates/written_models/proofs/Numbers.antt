-- The signals of numbers: good words, different for different numbers, and no free names.
use Rattle.std.proofs.Common.{◌≡◌, ℕ, zero, suc, ◌+◌, ◌≤◌, ◌<◌, ◌^◌, ◌%◌, ◌&&◌, ◌||◌, Bool, true, false, not, List, [], ◌∷◌, arith, ap, ap₂, refl, sym, subst, ◌∙◌, inl, inr}
use Rattle.std.specs.Prelude.{bytes_eq, decimal, ◌==◌}
use Rattle.std.specs.List.{list_all}
use Rattle.std.proofs.lemmas.Bool.{and_from, and_parts, cases_lt, false≢true, false_from_ne_true, not-true, or_from, or_right}
use Rattle.std.proofs.lemmas.Fmt.{decimal_by_steps, decimal_injective}
use Rattle.std.proofs.lemmas.List.Folds.{list_all-append, list_any-append}
use Rattle.std.proofs.lemmas.Slice.Eq.{bytes_eq-Decides}
use Rattle.blif_reader.specs.Cards.{ends_with_backslash}
use Rattle.names.proofs.ApartLaws.{NoRepeat, no_repeat_end}
use Rattle.plain_models.specs.Lines.{is_good_word, is_word_byte}
use Rattle.text_lines.specs.Bytes.{starts}
use Rattle.vrt_model.proofs.Tests.{bytes_eq-sym}
use Rattle.vrt_model.specs.Lists.{has_name}
use Rattle.written_models.specs.Written.{is_free_name, numbered}
use Rattle.written_models.specs.WrittenLaws.{first_numbers}

-- ---- good words

-- a byte of a word that is no `\`
abbrev is_plain_byte : ℕ → Bool
is_plain_byte b = is_word_byte b && not (b == 92)

digit_plain : (d : ℕ) → d < 10 → is_plain_byte (48 + d) ≡ true
digit_plain zero lt = refl
digit_plain (suc zero) lt = refl
digit_plain (suc (suc zero)) lt = refl
digit_plain (suc (suc (suc zero))) lt = refl
digit_plain (suc (suc (suc (suc zero)))) lt = refl
digit_plain (suc (suc (suc (suc (suc zero))))) lt = refl
digit_plain (suc (suc (suc (suc (suc (suc zero)))))) lt = refl
digit_plain (suc (suc (suc (suc (suc (suc (suc zero))))))) lt = refl
digit_plain (suc (suc (suc (suc (suc (suc (suc (suc zero)))))))) lt = refl
digit_plain (suc (suc (suc (suc (suc (suc (suc (suc (suc zero))))))))) lt = refl
digit_plain (suc (suc (suc (suc (suc (suc (suc (suc (suc (suc n)))))))))) lt = absurd (omega (arith, lt))

digits_plain : (n : ℕ) → n < 2 ^ 64 → list_all is_plain_byte (decimal n) ≡ true
digits_plain n small =
    decimal_by_steps (λ n ds. list_all is_plain_byte ds ≡ true)
    (λ n small. and_from (is_plain_byte (48 + n)) true (digit_plain n small) refl)
    (λ n ds large plain. list_all-append is_plain_byte ds ((48 + n % 10) ∷ [])
    ∙ and_from (list_all is_plain_byte ds) (list_all is_plain_byte ((48 + n % 10) ∷ [])) plain (and_from (is_plain_byte (48 + n % 10)) true (digit_plain (n % 10) (omega arith)) refl))
    n small

word_bytes : (bs : List ℕ) → list_all is_plain_byte bs ≡ true → list_all is_word_byte bs ≡ true
word_bytes [] e = refl
word_bytes (b ∷ bs) e =
    let both = and_parts (is_plain_byte b) (list_all is_plain_byte bs) e in
    and_from (is_word_byte b) (list_all is_word_byte bs) (and_parts (is_word_byte b) (not (b == 92)) both.0).0 (word_bytes bs both.1)

no_backslash : (bs : List ℕ) → list_all is_plain_byte bs ≡ true → ends_with_backslash bs ≡ false
no_backslash [] e = refl
no_backslash (b ∷ []) e = not-true (b == 92) (and_parts (is_word_byte b) (not (b == 92)) (and_parts (is_plain_byte b) true e).0).1
no_backslash (b ∷ c ∷ bs) e = no_backslash (c ∷ bs) (and_parts (is_plain_byte b) (list_all is_plain_byte (c ∷ bs)) e).1

pub numbered_good : (n : ℕ) → n < 2 ^ 64 → is_good_word (numbered n) ≡ true
numbered_good n small =
    let plain : list_all is_plain_byte (numbered n) ≡ true = digits_plain n small in
    ap₂ (λ (x y : Bool). x && not y) (word_bytes (numbered n) plain) (no_backslash (numbered n) plain)

-- ---- different names

behind_first : List ℕ → List ℕ
behind_first [] = []
behind_first (b ∷ bs) = bs

one_number : (j k : ℕ) → j < 2 ^ 64 → k < 2 ^ 64 → numbered j ≡ numbered k → j ≡ k
unfolding behind_first
one_number j k sj sk e = decimal_injective j k sj sk (ap behind_first e)

pub same_name : (xs : List ℕ) → bytes_eq xs xs ≡ true
same_name xs = (bytes_eq-Decides xs xs).1 refl

pub other_number : (j k : ℕ) → j < 2 ^ 64 → k < 2 ^ 64 → (j ≡ k → ⊥) → bytes_eq (numbered j) (numbered k) ≡ false
other_number j k sj sk apart = false_from_ne_true (bytes_eq (numbered j) (numbered k)) (λ t. apart (one_number j k sj sk ((bytes_eq-Decides (numbered j) (numbered k)).0 t)))

-- a name that does not begin with `=` is none of them
pub not_numbered : (name : List ℕ) (k : ℕ) → starts 61 name ≡ false → bytes_eq (numbered k) name ≡ false
not_numbered name k e =
    false_from_ne_true (bytes_eq (numbered k) name) (λ t. false≢true (sym e ∙ subst (λ (n : List ℕ). starts 61 n ≡ true) ((bytes_eq-Decides (numbered k) name).0 t) refl))

-- ---- the first numbers

pub numbers_new : (k j : ℕ) → k ≤ j → j < 2 ^ 64 → has_name (first_numbers k) (numbered j) ≡ false
numbers_new zero j le small = refl
numbers_new (suc k) j le small =
    list_any-append (bytes_eq (numbered j)) (first_numbers k) (numbered k ∷ [])
    ∙ or_from (has_name (first_numbers k) (numbered j)) (bytes_eq (numbered j) (numbered k) || false) (numbers_new k j (omega (arith, le)) small)
    (or_from (bytes_eq (numbered j) (numbered k)) false (other_number j k small (omega (arith, le, small)) (λ same. omega (arith, le, same))) refl)

pub numbers_there : (k j : ℕ) → j < k → has_name (first_numbers k) (numbered j) ≡ true
numbers_there zero j lt = absurd (omega (arith, lt))
numbers_there (suc k) j lt =
    list_any-append (bytes_eq (numbered j)) (first_numbers k) (numbered k ∷ [])
    ∙ elim (cases_lt j k) [
      | inl below ↦ ap (λ (t : Bool). t || (bytes_eq (numbered j) (numbered k) || false)) (numbers_there k j below)
      | inr above ↦
          let same : k ≡ j = omega (arith, lt, above) in
          or_right (has_name (first_numbers k) (numbered j)) (bytes_eq (numbered j) (numbered k) || false)
          (ap (λ (t : Bool). t || false) (ap (λ (n : ℕ). bytes_eq (numbered j) (numbered n)) same ∙ same_name (numbered j)))
    ]

pub numbers_once : (k : ℕ) → k ≤ 2 ^ 64 → NoRepeat (first_numbers k)
numbers_once zero le = tt
numbers_once (suc k) le = no_repeat_end (first_numbers k) (numbered k) (numbers_once k (omega (arith, le))) (numbers_new k k (omega arith) (omega (arith, le)))

-- none of them is a name that does not begin with `=`
pub numbers_are_other : (k : ℕ) (name : List ℕ) → starts 61 name ≡ false → has_name (first_numbers k) name ≡ false
numbers_are_other zero name e = refl
numbers_are_other (suc k) name e =
    list_any-append (bytes_eq name) (first_numbers k) (numbered k ∷ [])
    ∙ or_from (has_name (first_numbers k) name) (bytes_eq name (numbered k) || false) (numbers_are_other k name e)
    (or_from (bytes_eq name (numbered k)) false (bytes_eq-sym name (numbered k) ∙ not_numbered name k e) refl)

-- ---- free names

pub free_good : (name : List ℕ) → is_free_name name ≡ true → is_good_word name ≡ true
free_good name e = (and_parts (is_good_word name) (not (starts 61 name)) e).0

pub free_other : (name : List ℕ) → is_free_name name ≡ true → starts 61 name ≡ false
free_other name e = not-true (starts 61 name) (and_parts (is_good_word name) (not (starts 61 name)) e).1
