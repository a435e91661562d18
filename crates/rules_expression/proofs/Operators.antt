-- How many operators an expression has.
use Rattle.std.proofs.Common.{◌≡◌, ◌++◌, ◌∷◌, ◌≤◌, ◌+◌, [], ℕ, List, false, cond, Option, Some, None, is_none, unwrap_or, refl, ap, ap₂, arith}
use Rattle.std.proofs.lemmas.List.Sums.{sum_by-append}
use Rattle.rules_expression.specs.Grammar.{Formula, Spells, seen}
use Rattle.rules_expression.specs.Grammar.Formula.{a_port, negation, conjunction, parity, disjunction}
use Rattle.rules_expression.specs.Grammar.Spells.{a_name, in_parentheses, a_not, an_and, a_xor, an_or, tighter}
use Rattle.rules_expression.specs.Readings.{formula_of}
use Rattle.rules_expression.specs.Tokens.{is_operator, operator_count}
use Rattle.rules_expression.specs.declared.tokens.Token.{Token}
use Rattle.rules_expression.specs.declared.tokens.Token.TheVariants.{Bang, Ampersand, Caret, Bar, Opening, Closing}
use Rattle.rules_expression.proofs.Sound.{sound}
use Rattle.vrt_model.specs.Expressions.{operators_in}
use Rattle.vrt_model.specs.declared.rules.Expr.{Expr}
use Rattle.vrt_model.specs.declared.rules.Expr.TheVariants.{Port, Not', And', Xor', Or'}

pub operators_of : Formula → ℕ
operators_of (a_port n) = 0
operators_of (negation f) = 1 + operators_of f
operators_of (conjunction f g) = 1 + operators_of f + operators_of g
operators_of (parity f g) = 1 + operators_of f + operators_of g
operators_of (disjunction f g) = 1 + operators_of f + operators_of g

operators_seen : (e : Expr) → operators_in e ≡ operators_of (seen e)
unfolding operators_of
operators_seen (Port n) = refl
operators_seen (Not' p e) = ap (λ n. 1 + n) (operators_seen e)
operators_seen (And' p e q f) = ap₂ (λ m n. 1 + m + n) (operators_seen e) (operators_seen f)
operators_seen (Xor' p e q f) = ap₂ (λ m n. 1 + m + n) (operators_seen e) (operators_seen f)
operators_seen (Or' p e q f) = ap₂ (λ m n. 1 + m + n) (operators_seen e) (operators_seen f)

count_join : (xs ys : List Token) → operator_count (xs ++ ys) ≡ operator_count xs + operator_count ys
count_join xs ys = sum_by-append (λ t. cond (is_operator t) 1 0) xs ys

operators_spelled : {k : ℕ} {ts : List Token} {f : Formula} → Spells k ts f → operators_of f ≡ operator_count ts
unfolding operators_of
operators_spelled a_name = refl
operators_spelled (in_parentheses {ts} s) =
    let outer : operator_count (Opening ∷ (ts ++ Closing ∷ [])) ≡ 0 + operator_count (ts ++ Closing ∷ []) = count_join (Opening ∷ []) (ts ++ Closing ∷ []) in
    let last : operator_count (Closing ∷ []) ≡ 0 = refl in
    omega (arith, operators_spelled s, count_join ts (Closing ∷ []), outer, last)
operators_spelled (a_not {ts} s) = let first : operator_count (Bang ∷ ts) ≡ 1 + operator_count ts = count_join (Bang ∷ []) ts in omega (arith, operators_spelled s, first)
operators_spelled (an_and {xs} {ys} s t) =
    let first : operator_count (Ampersand ∷ ys) ≡ 1 + operator_count ys = count_join (Ampersand ∷ []) ys in omega (arith, operators_spelled s, operators_spelled t, count_join xs (Ampersand ∷ ys), first)
operators_spelled (a_xor {xs} {ys} s t) =
    let first : operator_count (Caret ∷ ys) ≡ 1 + operator_count ys = count_join (Caret ∷ []) ys in omega (arith, operators_spelled s, operators_spelled t, count_join xs (Caret ∷ ys), first)
operators_spelled (an_or {xs} {ys} s t) =
    let first : operator_count (Bar ∷ ys) ≡ 1 + operator_count ys = count_join (Bar ∷ []) ys in omega (arith, operators_spelled s, operators_spelled t, count_join xs (Bar ∷ ys), first)
operators_spelled (tighter s) = operators_spelled s

pub few_of : (tokens : List Token) → operator_count tokens ≤ 1000 → is_none (formula_of tokens) ≡ false → operators_of (unwrap_or (formula_of tokens) (a_port [])) ≤ 1000
few_of tokens few good = by_formula (formula_of tokens) refl good where
  by_formula : (o : Option Formula) → formula_of tokens ≡ o → is_none o ≡ false → operators_of (unwrap_or o (a_port [])) ≤ 1000
  by_formula None e g = cc
  by_formula (Some f) e g = omega (arith, few, operators_spelled (sound tokens f e))

pub few_seen : (e : Expr) → operators_of (seen e) ≤ 1000 → operators_in e ≤ 1000
few_seen e few = omega (arith, few, operators_seen e)
