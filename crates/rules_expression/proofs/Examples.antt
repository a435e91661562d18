-- What the definitions compute on small expressions.
use Rattle.std.specs.Prelude.{◌≡◌, List, [], ◌∷◌, map, Some, None, codes, refl}
use Rattle.rules_expression.specs.Grammar.{Formula, IsExpression}
use Rattle.rules_expression.specs.Grammar.Formula.{a_port, negation, conjunction, parity, disjunction}
use Rattle.rules_expression.specs.Grammar.Spells.{a_name, in_parentheses, a_not, an_and, a_xor, an_or, tighter}
use Rattle.rules_expression.specs.Readings.{formula_of}
use Rattle.rules_expression.specs.Tokens.{tokens_of}
use Rattle.rules_expression.specs.declared.tokens.Token.{Token}
use Rattle.rules_expression.specs.declared.tokens.Token.TheVariants.{Name, Bang, Ampersand, Caret, Bar, Opening, Closing}

-- tokens: names are lowered, a blank ends a name
tokens : tokens_of (codes "!A" ∷ codes "b&(c" ∷ codes "d)" ∷ []) ≡ Bang ∷ Name (codes "a") ∷ Name (codes "b") ∷ Ampersand ∷ Opening ∷ Name (codes "c") ∷ Name (codes "d") ∷ Closing ∷ []
unfolding tokens_of
tokens = refl

-- all operators: `a | b ^ !c & d & (e | f)`
abbrev all_tokens : List Token
all_tokens =
    Name (codes "a") ∷ Bar ∷ Name (codes "b") ∷ Caret ∷ Bang ∷ Name (codes "c") ∷ Ampersand ∷ Name (codes "d") ∷ Ampersand ∷ Opening ∷ Name (codes "e") ∷ Bar ∷ Name (codes "f") ∷ Closing ∷ []

abbrev all_formula : Formula
all_formula =
    disjunction (a_port (codes "a"))
    (parity (a_port (codes "b")) (conjunction (conjunction (negation (a_port (codes "c"))) (a_port (codes "d"))) (disjunction (a_port (codes "e")) (a_port (codes "f")))))

all_operators : formula_of all_tokens ≡ Some all_formula
unfolding formula_of
all_operators = refl

-- the same in the grammar
all_spelled : IsExpression all_tokens all_formula
all_spelled =
    an_or {xs = Name (codes "a") ∷ []} (tighter (tighter (tighter a_name)))
    (a_xor {xs = Name (codes "b") ∷ []} (tighter (tighter a_name))
    (an_and {xs = Bang ∷ Name (codes "c") ∷ Ampersand ∷ Name (codes "d") ∷ []}
    (an_and {xs = Bang ∷ Name (codes "c") ∷ []} (tighter (a_not a_name)) a_name)
    (in_parentheses (an_or {xs = Name (codes "e") ∷ []} (tighter (tighter (tighter a_name))) (tighter (tighter a_name))))))

-- `a ^ b ^ c` groups from the left
from_left : formula_of (Name (codes "a") ∷ Caret ∷ Name (codes "b") ∷ Caret ∷ Name (codes "c") ∷ []) ≡ Some (parity (parity (a_port (codes "a")) (a_port (codes "b"))) (a_port (codes "c")))
unfolding formula_of
from_left = refl

-- other forms
no_expression : map formula_of (
    [] ∷ (Name (codes "a") ∷ Name (codes "b") ∷ []) ∷ (Opening ∷ Name (codes "a") ∷ []) ∷ (Name (codes "a") ∷ Bar ∷ []) ∷ (Opening ∷ Closing ∷ [])
    ∷ (Opening ∷ Name (codes "a") ∷ Closing ∷ Opening ∷ Name (codes "b") ∷ Closing ∷ []) ∷ (Name (codes "a") ∷ Bang ∷ Name (codes "b") ∷ []) ∷ [])
    ≡ None ∷ None ∷ None ∷ None ∷ None ∷ None ∷ None ∷ []
unfolding formula_of
no_expression = refl
