-- Expressions read token by token.
use Rattle.std.specs.Prelude.{ℕ, zero, suc, List, [], ◌∷◌, Option, Some, None, ◌+◌}
use Rattle.verilog_expression.specs.Grammar.{Formula}
use Rattle.verilog_tokens.specs.Signs.{Part}
use Rattle.verilog_expression.specs.Grammar.Formula.{a_net, a_constant, negation, conjunction, parity, disjunction, choice}
use Rattle.verilog_tokens.specs.Signs.Part.{Name, Bit, Tilde, Ampersand, Caret, Bar, Question, Colon, Opening, Closing}

-- What waits for the next operand: the left sides of `|`, `^` and `&`, and so many `~`.
pub record Waiting : Type 0 where
  pub ors : Option Formula
  pub xors : Option Formula
  pub ands : Option Formula
  pub nots : ℕ

-- What is open around: parentheses with what waits outside, a condition behind which `?` stands, and one with its first
-- branch, behind which `:` stands.
pub data Around : Type 0 where
  parentheses : Waiting → Around
  condition : Formula → Around
  branch : Formula → Formula → Around

pub record Reading : Type 0 where
  pub inner : Waiting
  pub outer : List Around
  pub operand : Option Formula

abbrev pub nothing : Waiting
nothing = record { ors = None; xors = None; ands = None; nots = 0 }

abbrev pub joined : (Formula → Formula → Formula) → Option Formula → Formula → Formula
joined make None f = f
joined make (Some left) f = make left f

abbrev pub negated : ℕ → Formula → Formula
negated zero f = f
negated (suc n) f = negation (negated n f)

-- the expression that an operand ends, up to its `&`, its `^`, its `|`
abbrev pub up_to_and : Waiting → Formula → Formula
up_to_and w f = joined conjunction w.ands f

abbrev pub up_to_xor : Waiting → Formula → Formula
up_to_xor w f = joined parity w.xors (up_to_and w f)

abbrev pub up_to_or : Waiting → Formula → Formula
up_to_or w f = joined disjunction w.ors (up_to_xor w f)

abbrev pub with_operand : Waiting → List Around → Formula → Reading
with_operand w outer f = record { inner = record { ors = w.ors; xors = w.xors; ands = w.ands; nots = 0 }; outer = outer; operand = Some (negated w.nots f) }

abbrev pub open_ : Waiting → List Around → Reading
open_ w outer = record { inner = w; outer = outer; operand = None }

abbrev pub with_tilde : Waiting → Waiting
with_tilde w = record { ors = w.ors; xors = w.xors; ands = w.ands; nots = w.nots + 1 }

-- where an operand is expected
abbrev pub first_taken : Waiting → List Around → Part → Option Reading
first_taken w outer (Name n) = Some (with_operand w outer (a_net n))
first_taken w outer (Bit b) = Some (with_operand w outer (a_constant b))
first_taken w outer Tilde = Some (open_ (with_tilde w) outer)
first_taken w outer Opening = Some (open_ nothing (parentheses w ∷ outer))
first_taken w outer Ampersand = None
first_taken w outer Caret = None
first_taken w outer Bar = None
first_taken w outer Question = None
first_taken w outer Colon = None
first_taken w outer Closing = None

-- `)` behind a whole expression, which ends all branches that it is the second of
abbrev pub closed : List Around → Formula → Option Reading
closed [] f = None
closed (branch c g ∷ outer) f = closed outer (choice c g f)
closed (condition c ∷ outer) f = None
closed (parentheses w ∷ outer) f = Some (with_operand w outer f)

-- `:` behind it
abbrev pub divided : List Around → Formula → Option Reading
divided [] f = None
divided (branch c g ∷ outer) f = divided outer (choice c g f)
divided (condition c ∷ outer) f = Some (open_ nothing (branch c f ∷ outer))
divided (parentheses w ∷ outer) f = None

-- the end behind it
abbrev pub ended_in : List Around → Formula → Option Formula
ended_in [] f = Some f
ended_in (branch c g ∷ outer) f = ended_in outer (choice c g f)
ended_in (condition c ∷ outer) f = None
ended_in (parentheses w ∷ outer) f = None

-- what waits behind `&`, `^` and `|`
abbrev pub behind_and : Waiting → Formula → Waiting
behind_and w f = record { ors = w.ors; xors = w.xors; ands = Some (up_to_and w f); nots = 0 }

abbrev pub behind_xor : Waiting → Formula → Waiting
behind_xor w f = record { ors = w.ors; xors = Some (up_to_xor w f); ands = None; nots = 0 }

abbrev pub behind_or : Waiting → Formula → Waiting
behind_or w f = record { ors = Some (up_to_or w f); xors = None; ands = None; nots = 0 }

-- behind an operand
abbrev pub next_taken : Waiting → List Around → Formula → Part → Option Reading
next_taken w outer f Ampersand = Some (open_ (behind_and w f) outer)
next_taken w outer f Caret = Some (open_ (behind_xor w f) outer)
next_taken w outer f Bar = Some (open_ (behind_or w f) outer)
next_taken w outer f Question = Some (open_ nothing (condition (up_to_or w f) ∷ outer))
next_taken w outer f Colon = divided outer (up_to_or w f)
next_taken w outer f Closing = closed outer (up_to_or w f)
next_taken w outer f (Name n) = None
next_taken w outer f (Bit b) = None
next_taken w outer f Tilde = None
next_taken w outer f Opening = None

abbrev pub taken_by : Waiting → List Around → Option Formula → Part → Option Reading
taken_by w outer None token = first_taken w outer token
taken_by w outer (Some f) token = next_taken w outer f token

abbrev pub taken : Reading → Part → Option Reading
taken r token = taken_by r.inner r.outer r.operand token

abbrev pub ended_by : Waiting → List Around → Option Formula → Option Formula
ended_by w outer None = None
ended_by w outer (Some f) = ended_in outer (up_to_or w f)

abbrev pub ended : Reading → Option Formula
ended r = ended_by r.inner r.outer r.operand

-- the expression of the tokens, behind those read so far
abbrev pub read_on : Option Reading → List Part → Option Formula
read_on None tokens = None
read_on (Some r) [] = ended r
read_on (Some r) (token ∷ tokens) = read_on (taken r token) tokens

-- what is read behind tokens, none where one of them cannot stand there
abbrev pub reached : Option Reading → List Part → Option Reading
reached None tokens = None
reached (Some r) [] = Some r
reached (Some r) (token ∷ tokens) = reached (taken r token) tokens

abbrev pub start : Reading
start = open_ nothing []

-- the expression that tokens spell, none where they spell none
unfoldable pub formula_of : List Part → Option Formula
formula_of tokens = read_on (Some start) tokens
