-- What the definitions compute on small expressions.
use Rattle.std.specs.Prelude.{◌≡◌, [], ◌∷◌, Some, None, codes, refl}
use Rattle.verilog_tokens.specs.Signs.{Part}
use Rattle.verilog_expression.specs.Grammar.Formula.{a_net, negation, conjunction, parity, choice}
use Rattle.verilog_tokens.specs.Signs.Part.{Name, Tilde, Ampersand, Caret, Question, Colon, Opening, Closing}
use Rattle.verilog_expression.specs.Readings.{formula_of}

abbrev a : Part
a = Name (codes "a")

abbrev b : Part
b = Name (codes "b")

-- `~a ^ b & ~a`: `&` binds more than `^`
binds : formula_of (Tilde ∷ a ∷ Caret ∷ b ∷ Ampersand ∷ Tilde ∷ a ∷ []) ≡ Some (parity (negation (a_net (codes "a"))) (conjunction (a_net (codes "b")) (negation (a_net (codes "a")))))
unfolding formula_of
binds = refl

-- `a ? b : a ? b : a` groups from the right
groups : formula_of (a ∷ Question ∷ b ∷ Colon ∷ a ∷ Question ∷ b ∷ Colon ∷ a ∷ []) ≡ Some (choice (a_net (codes "a")) (a_net (codes "b")) (choice (a_net (codes "a")) (a_net (codes "b")) (a_net (codes "a"))))
unfolding formula_of
groups = refl

-- `(a ? b)` is none
open_choice : formula_of (Opening ∷ a ∷ Question ∷ b ∷ Closing ∷ []) ≡ None
unfolding formula_of
open_choice = refl
