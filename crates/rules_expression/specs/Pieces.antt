-- The tokens of a line, and the bytes of each: a sign, or a name up to a blank or a sign.
use Rattle.std.specs.Prelude.{ℕ, List, [], ◌∷◌, Bool, ◌||◌, Option, Some, None, is_some}
use Rattle.text_lines.specs.Bytes.{is_blank, lowered, words_of}
use Rattle.rules_expression.specs.Tokens.{sign_of, tokens_of}
use Rattle.rules_expression.specs.declared.tokens.Token.{Token}
use Rattle.rules_expression.specs.declared.tokens.Token.TheVariants.{Name}

-- the tokens of the words of a line
abbrev pub line_tokens : List ℕ → List Token
line_tokens line = tokens_of (words_of line)

abbrev pub ends_name : ℕ → Bool
ends_name b = is_blank b || is_some (sign_of b)

-- the sign that bytes begin with
abbrev pub sign_at : List ℕ → Option Token
sign_at [] = None
sign_at (b ∷ bs) = sign_of b

abbrev pub token_by : Option Token → List ℕ → Token
token_by (Some sign) bytes = sign
token_by None bytes = Name (lowered bytes)

-- the token of the bytes of one
abbrev pub token_of : List ℕ → Token
token_of bytes = token_by (sign_at bytes) bytes
