-- The grammar of expressions.
use Rattle.std.specs.Prelude.{ℕ, suc, List, [], ◌∷◌, ◌++◌, Option, Some, None}
use Rattle.rules_expression.specs.declared.tokens.Token.{Token}
use Rattle.rules_expression.specs.declared.tokens.Token.TheVariants.{Name, Bang, Ampersand, Caret, Bar, Opening, Closing}
use Rattle.vrt_model.specs.declared.rules.Expr.{Expr}
use Rattle.vrt_model.specs.declared.rules.Expr.TheVariants.{Port, Not', And', Xor', Or'}

-- an expression without where it lies in memory
pub data Formula : Type 0 where
  a_port : List ℕ → Formula
  negation : Formula → Formula
  conjunction : Formula → Formula → Formula
  parity : Formula → Formula → Formula
  disjunction : Formula → Formula → Formula

abbrev pub seen : Expr → Formula
seen (Port n) = a_port n
seen (Not' p e) = negation (seen e)
seen (And' p e q f) = conjunction (seen e) (seen f)
seen (Xor' p e q f) = parity (seen e) (seen f)
seen (Or' p e q f) = disjunction (seen e) (seen f)

-- Tokens spell an expression that binds at least so: 0 as `!`, 1 as `&`, 2 as `^`, 3 as `|`. Each of the last three
-- groups from the left.
pub data Spells : ℕ → List Token → Formula → Type 0 where
  a_name : {n : List ℕ} → Spells 0 (Name n ∷ []) (a_port n)
  in_parentheses : {ts : List Token} {f : Formula} → Spells 3 ts f → Spells 0 (Opening ∷ (ts ++ Closing ∷ [])) f
  a_not : {ts : List Token} {f : Formula} → Spells 0 ts f → Spells 0 (Bang ∷ ts) (negation f)
  an_and : {xs ys : List Token} {f g : Formula} → Spells 1 xs f → Spells 0 ys g → Spells 1 (xs ++ Ampersand ∷ ys) (conjunction f g)
  a_xor : {xs ys : List Token} {f g : Formula} → Spells 2 xs f → Spells 1 ys g → Spells 2 (xs ++ Caret ∷ ys) (parity f g)
  an_or : {xs ys : List Token} {f g : Formula} → Spells 3 xs f → Spells 2 ys g → Spells 3 (xs ++ Bar ∷ ys) (disjunction f g)
  tighter : {k : ℕ} {ts : List Token} {f : Formula} → Spells k ts f → Spells (suc k) ts f

abbrev pub IsExpression : List Token → Formula → Type 0
IsExpression tokens f = Spells 3 tokens f

-- what a reader of tokens answers: the expression that they spell, or none where they spell none
abbrev pub Reads : List Token → Option Expr → Type 0
Reads tokens (Some e) = IsExpression tokens (seen e)
Reads tokens None = (f : Formula) → IsExpression tokens f → ⊥
