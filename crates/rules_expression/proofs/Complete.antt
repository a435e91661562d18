-- Reading token by token finds each expression.
use Rattle.std.proofs.Common.{◌≡◌, ◌++◌, ◌∷◌, ◌+◌, [], ℕ, zero, suc, List, Bool, true, false, Option, Some, None, refl, ap, sym, ◌∙◌, append-nil, append_assoc, arith}
use Rattle.rules_expression.specs.Grammar.{Formula, IsExpression, Spells}
use Rattle.rules_expression.specs.Grammar.Formula.{negation, conjunction, parity, disjunction}
use Rattle.rules_expression.specs.Grammar.Spells.{a_name, in_parentheses, a_not, an_and, a_xor, an_or, tighter}
use Rattle.rules_expression.specs.Readings.{Reading, Waiting, formula_of, negated, nothing, open_, read_on, start, up_to_and, up_to_or, up_to_xor, with_operand}
use Rattle.rules_expression.specs.declared.tokens.Token.{Token}
use Rattle.rules_expression.specs.declared.tokens.Token.TheVariants.{Name, Bang, Ampersand, Caret, Bar, Opening, Closing}

abbrev behind : Waiting → List Waiting → Formula → Option Reading
behind w outer f = Some (record { inner = w; outer = outer; operand = Some f })

-- what may follow an expression that binds so: an operator that binds more would have taken its last operand
abbrev may_follow : ℕ → List Token → Bool
may_follow (suc (suc zero)) (Ampersand ∷ ts) = false
may_follow (suc (suc (suc k))) (Ampersand ∷ ts) = false
may_follow (suc (suc (suc k))) (Caret ∷ ts) = false
may_follow k ts = true

-- what waits, but for what such an expression takes
abbrev freed : ℕ → Waiting → Waiting
freed zero w = w
freed (suc zero) w = record { ors = w.ors; xors = w.xors; ands = None; nots = 0 }
freed (suc (suc zero)) w = record { ors = w.ors; xors = None; ands = None; nots = 0 }
freed (suc (suc (suc k))) w = nothing

-- such an expression is read as one operand
abbrev Says : ℕ → List Token → Formula → Type 0
Says k ts f = (w : Waiting) (outer : List Waiting) (rest : List Token) → may_follow k rest ≡ true
    → read_on (Some (open_ (freed k w) outer)) (ts ++ rest) ≡ read_on (Some (with_operand (freed k w) outer f)) rest

folded_and : (w : Waiting) (outer : List Waiting) (f : Formula) (rest : List Token)
    → read_on (behind (record { ors = w.ors; xors = w.xors; ands = w.ands; nots = 0 }) outer f) rest ≡ read_on (behind (freed 1 w) outer (up_to_and w f)) rest
folded_and w [] f [] = refl
folded_and w (o ∷ outer) f [] = refl
folded_and w outer f (Name n ∷ rest) = refl
folded_and w outer f (Bang ∷ rest) = refl
folded_and w outer f (Ampersand ∷ rest) = refl
folded_and w outer f (Caret ∷ rest) = refl
folded_and w outer f (Bar ∷ rest) = refl
folded_and w outer f (Opening ∷ rest) = refl
folded_and w outer f (Closing ∷ rest) = refl

folded_xor : (w : Waiting) (outer : List Waiting) (f : Formula) (rest : List Token) → may_follow 2 rest ≡ true
    → read_on (behind (freed 1 w) outer f) rest ≡ read_on (behind (freed 2 w) outer (up_to_xor (freed 1 w) f)) rest
folded_xor w [] f [] h = refl
folded_xor w (o ∷ outer) f [] h = refl
folded_xor w outer f (Name n ∷ rest) h = refl
folded_xor w outer f (Bang ∷ rest) h = refl
folded_xor w outer f (Ampersand ∷ rest) h = cc
folded_xor w outer f (Caret ∷ rest) h = refl
folded_xor w outer f (Bar ∷ rest) h = refl
folded_xor w outer f (Opening ∷ rest) h = refl
folded_xor w outer f (Closing ∷ rest) h = refl

folded_or : (w : Waiting) (outer : List Waiting) (f : Formula) (rest : List Token) → may_follow 3 rest ≡ true
    → read_on (behind (freed 2 w) outer f) rest ≡ read_on (behind nothing outer (up_to_or (freed 2 w) f)) rest
folded_or w [] f [] h = refl
folded_or w (o ∷ outer) f [] h = refl
folded_or w outer f (Name n ∷ rest) h = refl
folded_or w outer f (Bang ∷ rest) h = refl
folded_or w outer f (Ampersand ∷ rest) h = cc
folded_or w outer f (Caret ∷ rest) h = cc
folded_or w outer f (Bar ∷ rest) h = refl
folded_or w outer f (Opening ∷ rest) h = refl
folded_or w outer f (Closing ∷ rest) h = refl

follows_less : (rest : List Token) → may_follow 3 rest ≡ true → may_follow 2 rest ≡ true
follows_less [] h = refl
follows_less (Name n ∷ rest) h = refl
follows_less (Bang ∷ rest) h = refl
follows_less (Ampersand ∷ rest) h = cc
follows_less (Caret ∷ rest) h = refl
follows_less (Bar ∷ rest) h = refl
follows_less (Opening ∷ rest) h = refl
follows_less (Closing ∷ rest) h = refl

pub one_more : (n : ℕ) (f : Formula) → negated (n + 1) f ≡ negation (negated n f)
one_more n f = let e : n + 1 ≡ suc n = omega arith in ap (λ m. negated m f) e

pub not_inside : (n : ℕ) (f : Formula) → negated n (negation f) ≡ negation (negated n f)
not_inside zero f = refl
not_inside (suc n) f = ap negation (not_inside n f)

loosened : (k : ℕ) (ts : List Token) (f : Formula) → Says k ts f → Says (suc k) ts f
loosened zero ts f says w outer rest h = says (freed 1 w) outer rest refl
loosened (suc zero) ts f says w outer rest h = says (freed 2 w) outer rest refl
loosened (suc (suc zero)) ts f says w outer rest h = says nothing outer rest (follows_less rest h)
loosened (suc (suc (suc k))) ts f says w outer rest h = says nothing outer rest (as_before k rest h) where
  as_before : (k : ℕ) (rest : List Token) → may_follow (suc (suc (suc (suc k)))) rest ≡ true → may_follow (suc (suc (suc k))) rest ≡ true
  as_before k [] h = refl
  as_before k (Name n ∷ rest) h = refl
  as_before k (Bang ∷ rest) h = refl
  as_before k (Ampersand ∷ rest) h = cc
  as_before k (Caret ∷ rest) h = cc
  as_before k (Bar ∷ rest) h = refl
  as_before k (Opening ∷ rest) h = refl
  as_before k (Closing ∷ rest) h = refl

reads_and : (xs ys : List Token) (f g : Formula) → Says 1 xs f → Says 0 ys g → Says 1 (xs ++ Ampersand ∷ ys) (conjunction f g)
reads_and xs ys f g left right w outer rest h =
    ap (read_on (Some (open_ (freed 1 w) outer))) (append_assoc xs (Ampersand ∷ ys) rest)
    ∙ left w outer (Ampersand ∷ (ys ++ rest)) refl
    ∙ right (record { ors = w.ors; xors = w.xors; ands = Some f; nots = 0 }) outer rest refl
    ∙ folded_and (record { ors = w.ors; xors = w.xors; ands = Some f; nots = 0 }) outer g rest

reads_xor : (xs ys : List Token) (f g : Formula) → Says 2 xs f → Says 1 ys g → Says 2 (xs ++ Caret ∷ ys) (parity f g)
reads_xor xs ys f g left right w outer rest h =
    ap (read_on (Some (open_ (freed 2 w) outer))) (append_assoc xs (Caret ∷ ys) rest)
    ∙ left w outer (Caret ∷ (ys ++ rest)) refl
    ∙ right (record { ors = w.ors; xors = Some f; ands = None; nots = 0 }) outer rest refl
    ∙ folded_xor (record { ors = w.ors; xors = Some f; ands = None; nots = 0 }) outer g rest h

reads_or : (xs ys : List Token) (f g : Formula) → Says 3 xs f → Says 2 ys g → Says 3 (xs ++ Bar ∷ ys) (disjunction f g)
reads_or xs ys f g left right w outer rest h =
    ap (read_on (Some (open_ nothing outer))) (append_assoc xs (Bar ∷ ys) rest)
    ∙ left w outer (Bar ∷ (ys ++ rest)) refl
    ∙ right (record { ors = Some f; xors = None; ands = None; nots = 0 }) outer rest (follows_less rest h)
    ∙ folded_or (record { ors = Some f; xors = None; ands = None; nots = 0 }) outer g rest h

reads_parentheses : (ts : List Token) (f : Formula) → Says 3 ts f → Says 0 (Opening ∷ (ts ++ Closing ∷ [])) f
reads_parentheses ts f says w outer rest h =
    ap (read_on (Some (open_ nothing (w ∷ outer)))) (append_assoc ts (Closing ∷ []) rest) ∙ says w (w ∷ outer) (Closing ∷ rest) refl

reads_not : (ts : List Token) (f : Formula) → Says 0 ts f → Says 0 (Bang ∷ ts) (negation f)
reads_not ts f says w outer rest h =
    says (record { ors = w.ors; xors = w.xors; ands = w.ands; nots = w.nots + 1 }) outer rest refl
    ∙ ap (λ g. read_on (behind (record { ors = w.ors; xors = w.xors; ands = w.ands; nots = 0 }) outer g) rest) (one_more w.nots f ∙ sym (not_inside w.nots f))

pub reads : {k : ℕ} {ts : List Token} {f : Formula} → Spells k ts f → Says k ts f
reads (a_name {n}) w outer rest h = refl
reads (in_parentheses {ts} {f} s) w outer rest h = reads_parentheses ts f (reads s) w outer rest h
reads (a_not {ts} {f} s) w outer rest h = reads_not ts f (reads s) w outer rest h
reads (an_and {xs} {ys} {f} {g} s t) w outer rest h = reads_and xs ys f g (reads s) (reads t) w outer rest h
reads (a_xor {xs} {ys} {f} {g} s t) w outer rest h = reads_xor xs ys f g (reads s) (reads t) w outer rest h
reads (an_or {xs} {ys} {f} {g} s t) w outer rest h = reads_or xs ys f g (reads s) (reads t) w outer rest h
reads (tighter {k} {ts} {f} s) w outer rest h = loosened k ts f (reads s) w outer rest h

-- each expression is found
pub found : (ts : List Token) (f : Formula) → IsExpression ts f → formula_of ts ≡ Some f
unfolding formula_of
found ts f s = ap (read_on (Some start)) (sym (append-nil ts)) ∙ reads s nothing [] [] refl

-- tokens spell at most one expression
pub at_most_one : (ts : List Token) (f g : Formula) → IsExpression ts f → IsExpression ts g → f ≡ g
at_most_one ts f g s t = same (sym (found ts f s) ∙ found ts g t) where
  same : Some f ≡ Some g → f ≡ g
  same e = cc
