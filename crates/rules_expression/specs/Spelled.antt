-- The tokens of a word from the front, behind the bytes of a name.
use Rattle.std.specs.Prelude.{ℕ, List, [], ◌∷◌}
use Rattle.rules_expression.specs.Tokens.{onto_name}
use Rattle.rules_expression.specs.declared.tokens.Token.{Token}
use Rattle.rules_expression.specs.declared.tokens.Token.TheVariants.{Name}

-- a name as a token, if it has a byte
abbrev pub named : List ℕ → List Token
named [] = []
named (b ∷ bs) = Name (b ∷ bs) ∷ []

-- bytes of a name that goes on in other tokens
abbrev pub after_name : List ℕ → List Token → List Token
after_name [] rest = rest
after_name (b ∷ bs) rest = onto_name b (after_name bs rest)
