-- The grammar of expressions.
use Rattle.std.specs.Prelude.{ℕ, suc, List, [], ◌∷◌, ◌++◌, Bool, Option, Some, None}
use Rattle.verilog_expression.specs.declared.tree.Expression.{Expression}
use Rattle.verilog_expression.specs.declared.tree.Expression.TheVariants.{Net, Constant, Not', And', Xor', Or', Choice'}
use Rattle.verilog_tokens.specs.Signs.{Part}
use Rattle.verilog_tokens.specs.Signs.Part.{Name, Bit, Tilde, Ampersand, Caret, Bar, Question, Colon, Opening, Closing}

-- an expression without where it lies in memory
pub data Formula : Type 0 where
  a_net : List ℕ → Formula
  a_constant : Bool → Formula
  negation : Formula → Formula
  conjunction : Formula → Formula → Formula
  parity : Formula → Formula → Formula
  disjunction : Formula → Formula → Formula
  choice : Formula → Formula → Formula → Formula

abbrev pub seen : Expression → Formula
seen (Net n) = a_net n
seen (Constant b) = a_constant b
seen (Not' p e) = negation (seen e)
seen (And' p e q f) = conjunction (seen e) (seen f)
seen (Xor' p e q f) = parity (seen e) (seen f)
seen (Or' p e q f) = disjunction (seen e) (seen f)
seen (Choice' p c q e r f) = choice (seen c) (seen e) (seen f)

-- Tokens spell an expression that binds at least so: 0 as `~`, 1 as `&`, 2 as `^`, 3 as `|`, 4 as `?:`. Those of two
-- operands group from the left, `?:` from the right.
pub data Spells : ℕ → List Part → Formula → Type 0 where
  a_name : {n : List ℕ} → Spells 0 (Name n ∷ []) (a_net n)
  a_bit : {b : Bool} → Spells 0 (Bit b ∷ []) (a_constant b)
  in_parentheses : {ts : List Part} {f : Formula} → Spells 4 ts f → Spells 0 (Opening ∷ (ts ++ Closing ∷ [])) f
  a_not : {ts : List Part} {f : Formula} → Spells 0 ts f → Spells 0 (Tilde ∷ ts) (negation f)
  an_and : {xs ys : List Part} {f g : Formula} → Spells 1 xs f → Spells 0 ys g → Spells 1 (xs ++ Ampersand ∷ ys) (conjunction f g)
  a_xor : {xs ys : List Part} {f g : Formula} → Spells 2 xs f → Spells 1 ys g → Spells 2 (xs ++ Caret ∷ ys) (parity f g)
  an_or : {xs ys : List Part} {f g : Formula} → Spells 3 xs f → Spells 2 ys g → Spells 3 (xs ++ Bar ∷ ys) (disjunction f g)
  a_choice :
      {cs xs ys : List Part} {c f g : Formula} → Spells 3 cs c → Spells 4 xs f → Spells 4 ys g
      → Spells 4 (cs ++ Question ∷ (xs ++ Colon ∷ ys)) (choice c f g)
  tighter : {k : ℕ} {ts : List Part} {f : Formula} → Spells k ts f → Spells (suc k) ts f

abbrev pub IsExpression : List Part → Formula → Type 0
IsExpression tokens f = Spells 4 tokens f

-- an expression begins with these tokens
pub record Begins (tokens : List Part) : Type 0 where
  pub rest : List Part
  pub formula : Formula
  pub whole : IsExpression (tokens ++ rest) formula
