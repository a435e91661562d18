-- The tokens of an expression.
use Rattle.std.specs.Prelude.{ℕ, List, [], ◌∷◌, ◌+◌, ◌-◌, Bool, true, false, ◌==◌, if◌then◌else◌, ◌||◌, nat_lt, flat_map, count_by, Option, Some, None}
use Rattle.std.specs.Char.{to_ascii_lowercase}
use Rattle.rules_expression.specs.declared.tokens.Token.{Token}
use Rattle.rules_expression.specs.declared.tokens.Token.TheVariants.{Name, Bang, Ampersand, Caret, Bar, Opening, Closing}

-- A byte of a name goes before the rest of its name.
abbrev pub onto_name : ℕ → List Token → List Token
onto_name b (Name rest ∷ tokens) = Name (b ∷ rest) ∷ tokens
onto_name b tokens = Name (b ∷ []) ∷ tokens

abbrev pub sign_of : ℕ → Option Token
sign_of b =
    if b == 33 then Some Bang
    else (if b == 38 then Some Ampersand
    else (if b == 94 then Some Caret
    else (if b == 124 then Some Bar
    else (if b == 40 then Some Opening
    else (if b == 41 then Some Closing
    else None)))))

-- A name is a run of bytes that are none of the signs. It is lowered.
abbrev pub onto_by : Option Token → ℕ → List Token → List Token
onto_by (Some sign) b tokens = sign ∷ tokens
onto_by None b tokens = onto_name (to_ascii_lowercase b) tokens

abbrev pub onto : ℕ → List Token → List Token
onto b tokens = onto_by (sign_of b) b tokens

abbrev pub tokens_in : List ℕ → List Token
tokens_in [] = []
tokens_in (b ∷ bs) = onto b (tokens_in bs)

-- the tokens of the words of an expression: a blank ends a name
unfoldable pub tokens_of : List (List ℕ) → List Token
tokens_of words = flat_map tokens_in words

abbrev pub is_operator : Token → Bool
is_operator Bang = true
is_operator Ampersand = true
is_operator Caret = true
is_operator Bar = true
is_operator token = false

-- how many operators, `!` among them
abbrev pub operator_count : List Token → ℕ
operator_count tokens = count_by is_operator tokens

-- how many parentheses are open behind a token
abbrev pub depth_behind : ℕ → Token → ℕ
depth_behind depth Opening = depth + 1
depth_behind depth Closing = depth - 1
depth_behind depth token = depth

-- more parentheses than the limit are open behind some token, where so many are open before
abbrev pub nests_deeper : ℕ → ℕ → List Token → Bool
nests_deeper limit depth [] = false
nests_deeper limit depth (token ∷ tokens) = nat_lt limit (depth_behind depth token) || nests_deeper limit (depth_behind depth token) tokens
