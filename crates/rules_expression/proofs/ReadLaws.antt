-- What is read from the start is what the grammar says.
use Rattle.std.proofs.Common.{◌≡◌, List, Option, Some, None, Result, Ok, Err, IfOk, subst, sym, ◌∙◌}
use Rattle.rules_expression.specs.Grammar.{Reads, seen}
use Rattle.rules_expression.specs.Kept.{seen_opt}
use Rattle.rules_expression.specs.Readings.{Reading, formula_of, read_on, start}
use Rattle.rules_expression.specs.declared.tokens.Token.{Token}
use Rattle.rules_expression.proofs.Complete.{found}
use Rattle.rules_expression.proofs.Sound.{sound}
use Rattle.vrt_model.specs.declared.rules.Expr.{Expr}
use Rattle.vrt_model.specs.declared.NoMemory.{NoMemory}

-- what is computed is what the grammar says
pub by_grammar : (tokens : List Token) (e : Option Expr) → seen_opt e ≡ formula_of tokens → Reads tokens e
by_grammar tokens (Some e) same = sound tokens (seen e) (sym same)
by_grammar tokens None same = λ f s. none (same ∙ found tokens f s) where
  none : {F : Type 0} {f : F} → None ≡ Some f → ⊥
  none e = cc

-- tokens read from the start
pub from_start : (tokens : List Token) (r : Reading) (found : Result (Option Expr) NoMemory) → r ≡ start
    → IfOk found (λ e. seen_opt e ≡ read_on (Some r) tokens) → IfOk found (λ e. seen_opt e ≡ formula_of tokens)
unfolding formula_of
from_start tokens r found e h = subst (λ s. IfOk found (λ x. seen_opt x ≡ read_on (Some s) tokens)) e h

pub all_by_grammar : (tokens : List Token) (found : Result (Option Expr) NoMemory) → IfOk found (λ e. seen_opt e ≡ formula_of tokens) → IfOk found (Reads tokens)
all_by_grammar tokens (Ok e) h = by_grammar tokens e h
all_by_grammar tokens (Err x) h = tt
