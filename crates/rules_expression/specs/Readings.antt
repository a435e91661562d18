-- Expressions read token by token.
use Rattle.std.specs.Prelude.{ℕ, zero, suc, List, [], ◌∷◌, Option, Some, None, ◌+◌}
use Rattle.rules_expression.specs.Grammar.{Formula}
use Rattle.rules_expression.specs.Grammar.Formula.{a_port, negation, conjunction, parity, disjunction}
use Rattle.rules_expression.specs.declared.tokens.Token.{Token}
use Rattle.rules_expression.specs.declared.tokens.Token.TheVariants.{Name, Bang, Ampersand, Caret, Bar, Opening, Closing}

-- What waits for the next operand: the left sides of `|`, `^` and `&`, and so many `!`.
pub record Waiting : Type 0 where
  pub ors : Option Formula
  pub xors : Option Formula
  pub ands : Option Formula
  pub nots : ℕ

-- The innermost parentheses that are open, those around them, and the operand that was just read.
pub record Reading : Type 0 where
  pub inner : Waiting
  pub outer : List Waiting
  pub operand : Option Formula

abbrev pub nothing : Waiting
nothing = record { ors = None; xors = None; ands = None; nots = 0 }

abbrev pub joined : (Formula → Formula → Formula) → Option Formula → Formula → Formula
joined make None f = f
joined make (Some left) f = make left f

abbrev pub negated : ℕ → Formula → Formula
negated zero f = f
negated (suc n) f = negation (negated n f)

-- the expression that an operand ends, up to its `&`, its `^`, its `|`
abbrev pub up_to_and : Waiting → Formula → Formula
up_to_and w f = joined conjunction w.ands f

abbrev pub up_to_xor : Waiting → Formula → Formula
up_to_xor w f = joined parity w.xors (up_to_and w f)

abbrev pub up_to_or : Waiting → Formula → Formula
up_to_or w f = joined disjunction w.ors (up_to_xor w f)

-- an operand with its `!` before it
abbrev pub with_operand : Waiting → List Waiting → Formula → Reading
with_operand w outer f = record { inner = record { ors = w.ors; xors = w.xors; ands = w.ands; nots = 0 }; outer = outer; operand = Some (negated w.nots f) }

abbrev pub open_ : Waiting → List Waiting → Reading
open_ w outer = record { inner = w; outer = outer; operand = None }

abbrev pub with_bang : Waiting → Waiting
with_bang w = record { ors = w.ors; xors = w.xors; ands = w.ands; nots = w.nots + 1 }

-- where an operand is expected
abbrev pub first_taken : Waiting → List Waiting → Token → Option Reading
first_taken w outer (Name n) = Some (with_operand w outer (a_port n))
first_taken w outer Bang = Some (open_ (with_bang w) outer)
first_taken w outer Opening = Some (open_ nothing (w ∷ outer))
first_taken w outer Ampersand = None
first_taken w outer Caret = None
first_taken w outer Bar = None
first_taken w outer Closing = None

-- closing parentheses
abbrev pub closed : List Waiting → Formula → Option Reading
closed [] f = None
closed (w ∷ outer) f = Some (with_operand w outer f)

-- what waits behind `&`, `^` and `|`
abbrev pub behind_and : Waiting → Formula → Waiting
behind_and w f = record { ors = w.ors; xors = w.xors; ands = Some (up_to_and w f); nots = 0 }

abbrev pub behind_xor : Waiting → Formula → Waiting
behind_xor w f = record { ors = w.ors; xors = Some (up_to_xor w f); ands = None; nots = 0 }

abbrev pub behind_or : Waiting → Formula → Waiting
behind_or w f = record { ors = Some (up_to_or w f); xors = None; ands = None; nots = 0 }

-- behind an operand
abbrev pub next_taken : Waiting → List Waiting → Formula → Token → Option Reading
next_taken w outer f Ampersand = Some (open_ (behind_and w f) outer)
next_taken w outer f Caret = Some (open_ (behind_xor w f) outer)
next_taken w outer f Bar = Some (open_ (behind_or w f) outer)
next_taken w outer f Closing = closed outer (up_to_or w f)
next_taken w outer f (Name n) = None
next_taken w outer f Bang = None
next_taken w outer f Opening = None

abbrev pub taken_by : Waiting → List Waiting → Option Formula → Token → Option Reading
taken_by w outer None token = first_taken w outer token
taken_by w outer (Some f) token = next_taken w outer f token

abbrev pub taken : Reading → Token → Option Reading
taken r token = taken_by r.inner r.outer r.operand token

-- an expression ends behind an operand, outside parentheses
abbrev pub ended_by : Waiting → List Waiting → Option Formula → Option Formula
ended_by w [] (Some f) = Some (up_to_or w f)
ended_by w [] None = None
ended_by w (o ∷ outer) f = None

abbrev pub ended : Reading → Option Formula
ended r = ended_by r.inner r.outer r.operand

-- the expression of the tokens, behind those read so far
abbrev pub read_on : Option Reading → List Token → Option Formula
read_on None tokens = None
read_on (Some r) [] = ended r
read_on (Some r) (token ∷ tokens) = read_on (taken r token) tokens

abbrev pub start : Reading
start = open_ nothing []

-- the expression that tokens spell, none where they spell none
unfoldable pub formula_of : List Token → Option Formula
formula_of tokens = read_on (Some start) tokens
