-- Reading token by token finds each expression.
use Rattle.std.proofs.Common.{◌≡◌, ◌++◌, ◌∷◌, ◌+◌, [], ℕ, zero, suc, List, Bool, true, false, Option, Some, None, refl, ap, sym, ◌∙◌, append-nil, append_assoc, arith}
use Rattle.verilog_expression.specs.Grammar.{Formula, IsExpression, Spells}
use Rattle.verilog_tokens.specs.Signs.{Part}
use Rattle.verilog_expression.specs.Grammar.Formula.{negation, conjunction, parity, disjunction, choice}
use Rattle.verilog_expression.specs.Grammar.Spells.{a_name, a_bit, in_parentheses, a_not, an_and, a_xor, an_or, a_choice, tighter}
use Rattle.verilog_tokens.specs.Signs.Part.{Name, Bit, Tilde, Ampersand, Caret, Bar, Question, Colon, Opening, Closing}
use Rattle.verilog_expression.specs.Readings.{Around, Reading, Waiting, formula_of, negated, nothing, open_, read_on, start, up_to_and, up_to_or, up_to_xor, with_operand}
use Rattle.verilog_expression.specs.Readings.Around.{parentheses, condition, branch}

abbrev behind : Waiting → List Around → Formula → Option Reading
behind w outer f = Some (record { inner = w; outer = outer; operand = Some f })

-- what may follow an expression that binds so: an operator that binds more would have taken its last operand
abbrev may_follow : ℕ → List Part → Bool
may_follow (suc (suc zero)) (Ampersand ∷ ts) = false
may_follow (suc (suc (suc k))) (Ampersand ∷ ts) = false
may_follow (suc (suc (suc k))) (Caret ∷ ts) = false
may_follow (suc (suc (suc (suc k)))) (Bar ∷ ts) = false
may_follow (suc (suc (suc (suc k)))) (Question ∷ ts) = false
may_follow k ts = true

-- what waits, but for what such an expression takes
abbrev freed : ℕ → Waiting → Waiting
freed zero w = w
freed (suc zero) w = record { ors = w.ors; xors = w.xors; ands = None; nots = 0 }
freed (suc (suc zero)) w = record { ors = w.ors; xors = None; ands = None; nots = 0 }
freed (suc (suc (suc k))) w = nothing

-- such an expression is read as one operand
abbrev Says : ℕ → List Part → Formula → Type 0
Says k ts f = (w : Waiting) (outer : List Around) (rest : List Part) → may_follow k rest ≡ true
    → read_on (Some (open_ (freed k w) outer)) (ts ++ rest) ≡ read_on (Some (with_operand (freed k w) outer f)) rest

folded_and : (w : Waiting) (outer : List Around) (f : Formula) (rest : List Part)
    → read_on (behind (record { ors = w.ors; xors = w.xors; ands = w.ands; nots = 0 }) outer f) rest ≡ read_on (behind (freed 1 w) outer (up_to_and w f)) rest
folded_and w outer f [] = refl
folded_and w outer f (Name n ∷ rest) = refl
folded_and w outer f (Bit b ∷ rest) = refl
folded_and w outer f (Tilde ∷ rest) = refl
folded_and w outer f (Ampersand ∷ rest) = refl
folded_and w outer f (Caret ∷ rest) = refl
folded_and w outer f (Bar ∷ rest) = refl
folded_and w outer f (Question ∷ rest) = refl
folded_and w outer f (Colon ∷ rest) = refl
folded_and w outer f (Opening ∷ rest) = refl
folded_and w outer f (Closing ∷ rest) = refl

folded_xor : (w : Waiting) (outer : List Around) (f : Formula) (rest : List Part) → may_follow 2 rest ≡ true
    → read_on (behind (freed 1 w) outer f) rest ≡ read_on (behind (freed 2 w) outer (up_to_xor (freed 1 w) f)) rest
folded_xor w outer f [] h = refl
folded_xor w outer f (Name n ∷ rest) h = refl
folded_xor w outer f (Bit b ∷ rest) h = refl
folded_xor w outer f (Tilde ∷ rest) h = refl
folded_xor w outer f (Ampersand ∷ rest) h = cc
folded_xor w outer f (Caret ∷ rest) h = refl
folded_xor w outer f (Bar ∷ rest) h = refl
folded_xor w outer f (Question ∷ rest) h = refl
folded_xor w outer f (Colon ∷ rest) h = refl
folded_xor w outer f (Opening ∷ rest) h = refl
folded_xor w outer f (Closing ∷ rest) h = refl

folded_or : (w : Waiting) (outer : List Around) (f : Formula) (rest : List Part) → may_follow 3 rest ≡ true
    → read_on (behind (freed 2 w) outer f) rest ≡ read_on (behind nothing outer (up_to_or (freed 2 w) f)) rest
folded_or w outer f [] h = refl
folded_or w outer f (Name n ∷ rest) h = refl
folded_or w outer f (Bit b ∷ rest) h = refl
folded_or w outer f (Tilde ∷ rest) h = refl
folded_or w outer f (Ampersand ∷ rest) h = cc
folded_or w outer f (Caret ∷ rest) h = cc
folded_or w outer f (Bar ∷ rest) h = refl
folded_or w outer f (Question ∷ rest) h = refl
folded_or w outer f (Colon ∷ rest) h = refl
folded_or w outer f (Opening ∷ rest) h = refl
folded_or w outer f (Closing ∷ rest) h = refl

-- a whole second branch ends its choice
folded_choice : (outer : List Around) (c f g : Formula) (rest : List Part) → may_follow 4 rest ≡ true
    → read_on (behind nothing (branch c f ∷ outer) g) rest ≡ read_on (behind nothing outer (choice c f g)) rest
folded_choice outer c f g [] h = refl
folded_choice outer c f g (Name n ∷ rest) h = refl
folded_choice outer c f g (Bit b ∷ rest) h = refl
folded_choice outer c f g (Tilde ∷ rest) h = refl
folded_choice outer c f g (Ampersand ∷ rest) h = cc
folded_choice outer c f g (Caret ∷ rest) h = cc
folded_choice outer c f g (Bar ∷ rest) h = cc
folded_choice outer c f g (Question ∷ rest) h = cc
folded_choice outer c f g (Colon ∷ rest) h = refl
folded_choice outer c f g (Opening ∷ rest) h = refl
folded_choice outer c f g (Closing ∷ rest) h = refl

follows_less : (rest : List Part) → may_follow 3 rest ≡ true → may_follow 2 rest ≡ true
follows_less [] h = refl
follows_less (Name n ∷ rest) h = refl
follows_less (Bit b ∷ rest) h = refl
follows_less (Tilde ∷ rest) h = refl
follows_less (Ampersand ∷ rest) h = cc
follows_less (Caret ∷ rest) h = refl
follows_less (Bar ∷ rest) h = refl
follows_less (Question ∷ rest) h = refl
follows_less (Colon ∷ rest) h = refl
follows_less (Opening ∷ rest) h = refl
follows_less (Closing ∷ rest) h = refl

pub one_more : (n : ℕ) (f : Formula) → negated (n + 1) f ≡ negation (negated n f)
one_more n f = let e : n + 1 ≡ suc n = omega arith in ap (λ m. negated m f) e

pub not_inside : (n : ℕ) (f : Formula) → negated n (negation f) ≡ negation (negated n f)
not_inside zero f = refl
not_inside (suc n) f = ap negation (not_inside n f)

loosened : (k : ℕ) (ts : List Part) (f : Formula) → Says k ts f → Says (suc k) ts f
loosened zero ts f says w outer rest h = says (freed 1 w) outer rest refl
loosened (suc zero) ts f says w outer rest h = says (freed 2 w) outer rest refl
loosened (suc (suc zero)) ts f says w outer rest h = says nothing outer rest (follows_less rest h)
loosened (suc (suc (suc k))) ts f says w outer rest h = says nothing outer rest (as_before k rest h) where
  as_before : (k : ℕ) (rest : List Part) → may_follow (suc (suc (suc (suc k)))) rest ≡ true → may_follow (suc (suc (suc k))) rest ≡ true
  as_before k [] h = refl
  as_before k (Name n ∷ rest) h = refl
  as_before k (Bit b ∷ rest) h = refl
  as_before k (Tilde ∷ rest) h = refl
  as_before k (Ampersand ∷ rest) h = cc
  as_before k (Caret ∷ rest) h = cc
  as_before zero (Bar ∷ rest) h = refl
  as_before (suc k) (Bar ∷ rest) h = cc
  as_before zero (Question ∷ rest) h = refl
  as_before (suc k) (Question ∷ rest) h = cc
  as_before k (Colon ∷ rest) h = refl
  as_before k (Opening ∷ rest) h = refl
  as_before k (Closing ∷ rest) h = refl

reads_and : (xs ys : List Part) (f g : Formula) → Says 1 xs f → Says 0 ys g → Says 1 (xs ++ Ampersand ∷ ys) (conjunction f g)
reads_and xs ys f g left right w outer rest h =
    ap (read_on (Some (open_ (freed 1 w) outer))) (append_assoc xs (Ampersand ∷ ys) rest)
    ∙ left w outer (Ampersand ∷ (ys ++ rest)) refl
    ∙ right (record { ors = w.ors; xors = w.xors; ands = Some f; nots = 0 }) outer rest refl
    ∙ folded_and (record { ors = w.ors; xors = w.xors; ands = Some f; nots = 0 }) outer g rest

reads_xor : (xs ys : List Part) (f g : Formula) → Says 2 xs f → Says 1 ys g → Says 2 (xs ++ Caret ∷ ys) (parity f g)
reads_xor xs ys f g left right w outer rest h =
    ap (read_on (Some (open_ (freed 2 w) outer))) (append_assoc xs (Caret ∷ ys) rest)
    ∙ left w outer (Caret ∷ (ys ++ rest)) refl
    ∙ right (record { ors = w.ors; xors = Some f; ands = None; nots = 0 }) outer rest refl
    ∙ folded_xor (record { ors = w.ors; xors = Some f; ands = None; nots = 0 }) outer g rest h

reads_or : (xs ys : List Part) (f g : Formula) → Says 3 xs f → Says 2 ys g → Says 3 (xs ++ Bar ∷ ys) (disjunction f g)
reads_or xs ys f g left right w outer rest h =
    ap (read_on (Some (open_ nothing outer))) (append_assoc xs (Bar ∷ ys) rest)
    ∙ left w outer (Bar ∷ (ys ++ rest)) refl
    ∙ right (record { ors = Some f; xors = None; ands = None; nots = 0 }) outer rest (follows_less rest h)
    ∙ folded_or (record { ors = Some f; xors = None; ands = None; nots = 0 }) outer g rest h

reads_choice : (cs xs ys : List Part) (c f g : Formula) → Says 3 cs c → Says 4 xs f → Says 4 ys g → Says 4 (cs ++ Question ∷ (xs ++ Colon ∷ ys)) (choice c f g)
reads_choice cs xs ys c f g first second third w outer rest h =
    ap (read_on (Some (open_ nothing outer))) (append_assoc cs (Question ∷ (xs ++ Colon ∷ ys)) rest)
    ∙ first w outer (Question ∷ ((xs ++ Colon ∷ ys) ++ rest)) refl
    ∙ ap (read_on (Some (open_ nothing (condition c ∷ outer)))) (append_assoc xs (Colon ∷ ys) rest)
    ∙ second w (condition c ∷ outer) (Colon ∷ (ys ++ rest)) refl
    ∙ third w (branch c f ∷ outer) rest h
    ∙ folded_choice outer c f g rest h

reads_parentheses : (ts : List Part) (f : Formula) → Says 4 ts f → Says 0 (Opening ∷ (ts ++ Closing ∷ [])) f
reads_parentheses ts f says w outer rest h =
    ap (read_on (Some (open_ nothing (parentheses w ∷ outer)))) (append_assoc ts (Closing ∷ []) rest) ∙ says w (parentheses w ∷ outer) (Closing ∷ rest) refl

reads_not : (ts : List Part) (f : Formula) → Says 0 ts f → Says 0 (Tilde ∷ ts) (negation f)
reads_not ts f says w outer rest h =
    says (record { ors = w.ors; xors = w.xors; ands = w.ands; nots = w.nots + 1 }) outer rest refl
    ∙ ap (λ g. read_on (behind (record { ors = w.ors; xors = w.xors; ands = w.ands; nots = 0 }) outer g) rest) (one_more w.nots f ∙ sym (not_inside w.nots f))

pub reads : {k : ℕ} {ts : List Part} {f : Formula} → Spells k ts f → Says k ts f
reads (a_name {n}) w outer rest h = refl
reads (a_bit {b}) w outer rest h = refl
reads (in_parentheses {ts} {f} s) w outer rest h = reads_parentheses ts f (reads s) w outer rest h
reads (a_not {ts} {f} s) w outer rest h = reads_not ts f (reads s) w outer rest h
reads (an_and {xs} {ys} {f} {g} s t) w outer rest h = reads_and xs ys f g (reads s) (reads t) w outer rest h
reads (a_xor {xs} {ys} {f} {g} s t) w outer rest h = reads_xor xs ys f g (reads s) (reads t) w outer rest h
reads (an_or {xs} {ys} {f} {g} s t) w outer rest h = reads_or xs ys f g (reads s) (reads t) w outer rest h
reads (a_choice {cs} {xs} {ys} {c} {f} {g} s t u) w outer rest h = reads_choice cs xs ys c f g (reads s) (reads t) (reads u) w outer rest h
reads (tighter {k} {ts} {f} s) w outer rest h = loosened k ts f (reads s) w outer rest h

-- each expression is found
pub found : (ts : List Part) (f : Formula) → IsExpression ts f → formula_of ts ≡ Some f
unfolding formula_of
found ts f s = ap (read_on (Some start)) (sym (append-nil ts)) ∙ reads s nothing [] [] refl

-- tokens spell at most one expression
pub at_most_one : (ts : List Part) (f g : Formula) → IsExpression ts f → IsExpression ts g → f ≡ g
at_most_one ts f g s t = same (sym (found ts f s) ∙ found ts g t) where
  same : Some f ≡ Some g → f ≡ g
  same e = cc
