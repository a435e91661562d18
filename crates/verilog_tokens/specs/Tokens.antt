-- The tokens of a text, from the front.
use Rattle.std.specs.Prelude.{ℕ, zero, suc, List, [], ◌∷◌, Bool, true, false, if◌then◌else◌, length}
use Rattle.verilog_tokens.specs.Passed.{Passing, Place, passing, place_at}
use Rattle.verilog_tokens.specs.Passed.Passing.{Over, Endless, Stays}
use Rattle.verilog_tokens.specs.Signs.{Sign, Token}
use Rattle.verilog_tokens.specs.Signs.Sign.{OpenComment, End}
use Rattle.verilog_tokens.specs.Words.{cut_at}

abbrev pub token : ℕ → Sign → Token
token line sign = record { line = line; sign = sign }

-- The token of these bytes, and those that a way to go on finds behind it. The last is the end of the text, which has
-- the line on which the text ends.
abbrev pub tokens_at : (Place → List Token) → ℕ → List ℕ → List Token
tokens_at onward line [] = token line End ∷ []
tokens_at onward line (b ∷ bs) = token line (cut_at b bs).sign ∷ onward (place_at line false (cut_at b bs).rest)

-- A comment that does not end is the last, with the line on which it begins.
abbrev pub tokens_by : (Place → List Token) → Passing → List Token
tokens_by onward (Over place) = onward place
tokens_by onward (Endless place) = token place.line OpenComment ∷ []
tokens_by onward (Stays place) = tokens_at onward place.line place.bytes

-- the tokens that are found in so many steps
abbrev pub tokens_in : ℕ → Place → List Token
tokens_in zero place = []
tokens_in (suc n) place = tokens_by (tokens_in n) (passing place)

-- Each step but the last takes a byte at least, so there are no more than this.
unfoldable pub tokens_from : Place → List Token
tokens_from place = tokens_in (suc (length place.bytes)) place

-- the tokens of a text
abbrev pub tokens_of : List ℕ → List Token
tokens_of text = tokens_from (place_at 1 true text)

-- whether nothing is behind a token
abbrev pub is_last : Sign → Bool
is_last OpenComment = true
is_last End = true
is_last sign = false

-- the tokens behind one
abbrev pub tokens_behind : Token → Place → List Token
tokens_behind t place = if is_last t.sign then [] else tokens_from place
