-- The cards of the lines that are left.
use Rattle.std.proofs.Common.{◌≡◌, ◌+◌, ◌++◌, ◌∷◌, [], ℕ, List, true, false, cond, flat_map, refl, ap, ◌∙◌}
use Rattle.std.specs.List.{enumerate_from}
use Rattle.text_lines.specs.Lines.{text_lines}
use Rattle.rules_reader.specs.Entries.{card_of, cards_left, cards_of, cards_on, is_passed_over}

-- a line before the others
line_on : (n : ℕ) (bytes line behind : List ℕ) → text_lines bytes ≡ line ∷ text_lines behind → cards_left n bytes ≡ cards_on (n, line) ++ cards_left (n + 1) behind
unfolding cards_left
line_on n bytes line behind is = ap (λ ls. flat_map cards_on (enumerate_from n ls)) is

-- a line that is passed over
pub passed_on : (n : ℕ) (bytes line behind : List ℕ) → text_lines bytes ≡ line ∷ text_lines behind → is_passed_over line ≡ true → cards_left n bytes ≡ cards_left (n + 1) behind
passed_on n bytes line behind is h = line_on n bytes line behind is ∙ ap (λ b. cond b [] (card_of (n, line) ∷ []) ++ cards_left (n + 1) behind) h

-- any other line
pub card_on : (n : ℕ) (bytes line behind : List ℕ) → text_lines bytes ≡ line ∷ text_lines behind → is_passed_over line ≡ false → cards_left n bytes ≡ card_of (n, line) ∷ cards_left (n + 1) behind
card_on n bytes line behind is h = line_on n bytes line behind is ∙ ap (λ b. cond b [] (card_of (n, line) ∷ []) ++ cards_left (n + 1) behind) h

-- behind the last line
pub ends_on : (n : ℕ) (bytes : List ℕ) → text_lines bytes ≡ [] → cards_left n bytes ≡ []
unfolding cards_left
ends_on n bytes is = ap (λ ls. flat_map cards_on (enumerate_from n ls)) is

-- at first all lines are left
pub all_left : (text : List ℕ) → cards_left 1 text ≡ cards_of text
unfolding cards_left cards_of
all_left text = refl
