-- Tokens have the form of an expression exactly where one is read.
use Rattle.std.proofs.Common.{◌≡◌, ◌∷◌, ◌+◌, ◌-◌, ◌==◌, [], ℕ, suc, List, Bool, true, false, cond, Option, Some, None, is_some, length, refl, ap, sym, ◌∙◌, arith}
use Rattle.std.proofs.lemmas.Bool.{eqb-true}
use Rattle.rules_expression.specs.Formed.{form, forms}
use Rattle.rules_expression.specs.Grammar.{Formula}
use Rattle.rules_expression.specs.Grammar.Formula.{a_port}
use Rattle.rules_expression.specs.Readings.{Waiting, behind_and, behind_or, behind_xor, formula_of, negated, nothing, read_on, up_to_or, with_bang}
use Rattle.rules_expression.specs.declared.tokens.Token.{Token}
use Rattle.rules_expression.specs.declared.tokens.Token.TheVariants.{Name, Bang, Ampersand, Caret, Bar, Opening, Closing}

abbrev reads_from : Waiting → List Waiting → Option Formula → List Token → Bool
reads_from w outer operand ts = is_some (read_on (Some (record { inner = w; outer = outer; operand = operand })) ts)

one_more : (outer : List Waiting) (ts : List Token) → forms (Some (form false (suc (length outer)))) ts ≡ forms (Some (form false (length outer + 1))) ts
one_more outer ts = let e : suc (length outer) ≡ length outer + 1 = omega arith in ap (λ d. forms (Some (form false d)) ts) e

not_zero : (n : ℕ) → (suc n == 0) ≡ false
not_zero n = by_test (suc n == 0) refl where
  by_test : (b : Bool) → (suc n == 0) ≡ b → b ≡ false
  by_test false h = refl
  by_test true h = let e : suc n ≡ 0 = eqb-true (suc n) 0 h in absurd (omega (arith, e))

one_less : (n : ℕ) (ts : List Token) → forms (Some (form true n)) ts ≡ forms (cond (suc n == 0) None (Some (form true (suc n - 1)))) ts
one_less n ts =
    let less : n ≡ suc n - 1 = omega arith in
    ap (λ d. forms (Some (form true d)) ts) less ∙ ap (λ b. forms (cond b None (Some (form true (suc n - 1)))) ts) (sym (not_zero n))

pub formed : (w : Waiting) (outer : List Waiting) (operand : Option Formula) (ts : List Token) → reads_from w outer operand ts ≡ forms (Some (form (is_some operand) (length outer))) ts
formed w [] None [] = refl
formed w [] (Some f) [] = refl
formed w (o ∷ outer) None [] = refl
formed w (o ∷ outer) (Some f) [] = sym (not_zero (length outer))
formed w outer None (Name n ∷ ts) = formed (record { ors = w.ors; xors = w.xors; ands = w.ands; nots = 0 }) outer (Some (negated w.nots (a_port n))) ts
formed w outer None (Bang ∷ ts) = formed (with_bang w) outer None ts
formed w outer None (Opening ∷ ts) = formed nothing (w ∷ outer) None ts ∙ one_more outer ts
formed w outer None (Ampersand ∷ ts) = refl
formed w outer None (Caret ∷ ts) = refl
formed w outer None (Bar ∷ ts) = refl
formed w outer None (Closing ∷ ts) = refl
formed w outer (Some f) (Name n ∷ ts) = refl
formed w outer (Some f) (Bang ∷ ts) = refl
formed w outer (Some f) (Opening ∷ ts) = refl
formed w outer (Some f) (Ampersand ∷ ts) = formed (behind_and w f) outer None ts
formed w outer (Some f) (Caret ∷ ts) = formed (behind_xor w f) outer None ts
formed w outer (Some f) (Bar ∷ ts) = formed (behind_or w f) outer None ts
formed w [] (Some f) (Closing ∷ ts) = refl
formed w (o ∷ outer) (Some f) (Closing ∷ ts) =
    formed (record { ors = o.ors; xors = o.xors; ands = o.ands; nots = 0 }) outer (Some (negated o.nots (up_to_or w f))) ts ∙ one_less (length outer) ts

pub has_formula : (ts : List Token) → forms (Some (form false 0)) ts ≡ is_some (formula_of ts)
unfolding formula_of
has_formula ts = sym (formed nothing [] None ts)
