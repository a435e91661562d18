-- A token is refused exactly where no expression begins so.
use Rattle.std.proofs.Common.{◌≡◌, ◌++◌, ◌∷◌, [], List, Option, Some, None, refl, ap, sym, ◌∙◌}
use Rattle.verilog_expression.specs.Grammar.{Begins, Formula}
use Rattle.verilog_tokens.specs.Signs.{Part}
use Rattle.verilog_expression.specs.Grammar.Formula.{a_net, choice}
use Rattle.verilog_tokens.specs.Signs.Part.{Name, Bit, Tilde, Ampersand, Caret, Bar, Question, Colon, Opening, Closing}
use Rattle.verilog_expression.specs.Readings.{Around, Reading, Waiting, closed, divided, ended_in, formula_of, negated, nothing, reached, read_on, start, taken, up_to_or}
use Rattle.verilog_expression.specs.Readings.Around.{parentheses, condition, branch}
use Rattle.verilog_expression.proofs.Complete.{found}
use Rattle.verilog_expression.proofs.Sound.{sound}

-- what tokens end behind a whole expression
abbrev read_whole : List Around → Formula → List Part → Option Formula
read_whole outer e [] = ended_in outer e
read_whole outer e (Closing ∷ rest) = read_on (closed outer e) rest
read_whole outer e (Colon ∷ rest) = read_on (divided outer e) rest
read_whole outer e (Name n ∷ rest) = None
read_whole outer e (Bit b ∷ rest) = None
read_whole outer e (Tilde ∷ rest) = None
read_whole outer e (Ampersand ∷ rest) = None
read_whole outer e (Caret ∷ rest) = None
read_whole outer e (Bar ∷ rest) = None
read_whole outer e (Question ∷ rest) = None
read_whole outer e (Opening ∷ rest) = None

whole_is : (w : Waiting) (outer : List Around) (f g : Formula) (rest : List Part) → read_whole outer (up_to_or w f) rest ≡ Some g
    → read_on (Some (record { inner = w; outer = outer; operand = Some f })) rest ≡ Some g
whole_is w outer f g [] h = h
whole_is w outer f g (Closing ∷ rest) h = h
whole_is w outer f g (Colon ∷ rest) h = h
whole_is w outer f g (Name n ∷ rest) h = cc
whole_is w outer f g (Bit b ∷ rest) h = cc
whole_is w outer f g (Tilde ∷ rest) h = cc
whole_is w outer f g (Ampersand ∷ rest) h = cc
whole_is w outer f g (Caret ∷ rest) h = cc
whole_is w outer f g (Bar ∷ rest) h = cc
whole_is w outer f g (Question ∷ rest) h = cc
whole_is w outer f g (Opening ∷ rest) h = cc

branch_is : (outer : List Around) (c f e : Formula) (rest : List Part) → read_whole (branch c f ∷ outer) e rest ≡ read_whole outer (choice c f e) rest
branch_is outer c f e [] = refl
branch_is outer c f e (Closing ∷ rest) = refl
branch_is outer c f e (Colon ∷ rest) = refl
branch_is outer c f e (Name n ∷ rest) = refl
branch_is outer c f e (Bit b ∷ rest) = refl
branch_is outer c f e (Tilde ∷ rest) = refl
branch_is outer c f e (Ampersand ∷ rest) = refl
branch_is outer c f e (Caret ∷ rest) = refl
branch_is outer c f e (Bar ∷ rest) = refl
branch_is outer c f e (Question ∷ rest) = refl
branch_is outer c f e (Opening ∷ rest) = refl

-- tokens that end all that is open
record EndsIn (outer : List Around) (e : Formula) : Type 0 where
  rest : List Part
  formula : Formula
  is : read_whole outer e rest ≡ Some formula

abbrev a_name : Formula
a_name = a_net []

ends_in_all : (outer : List Around) (e : Formula) → EndsIn outer e
ends_in_all [] e = record { rest = []; formula = e; is = refl }
ends_in_all (branch c f ∷ outer) e =
    let x = ends_in_all outer (choice c f e) in record { rest = x.rest; formula = x.formula; is = branch_is outer c f e x.rest ∙ x.is }
ends_in_all (parentheses w ∷ outer) e =
    let v : Waiting = record { ors = w.ors; xors = w.xors; ands = w.ands; nots = 0 } in
    let x = ends_in_all outer (up_to_or v (negated w.nots e)) in
    record { rest = Closing ∷ x.rest; formula = x.formula; is = whole_is v outer (negated w.nots e) x.formula x.rest x.is }
ends_in_all (condition c ∷ outer) e =
    let x = ends_in_all outer (choice c e a_name) in
    record {
      rest = Colon ∷ (Name [] ∷ x.rest);
      formula = x.formula;
      is = whole_is nothing (branch c e ∷ outer) a_name x.formula x.rest (branch_is outer c e a_name x.rest ∙ x.is);
    }

-- tokens that end an expression
pub record Ends (r : Reading) : Type 0 where
  pub rest : List Part
  pub formula : Formula
  pub is : read_on (Some r) rest ≡ Some formula

ends_behind : (w : Waiting) (outer : List Around) (f : Formula) → Ends (record { inner = w; outer = outer; operand = Some f })
ends_behind w outer f =
    let x = ends_in_all outer (up_to_or w f) in record { rest = x.rest; formula = x.formula; is = whole_is w outer f x.formula x.rest x.is }

ends_open : (w : Waiting) (outer : List Around) → Ends (record { inner = w; outer = outer; operand = None })
ends_open w outer =
    let x = ends_behind (record { ors = w.ors; xors = w.xors; ands = w.ands; nots = 0 }) outer (negated w.nots a_name) in
    record { rest = Name [] ∷ x.rest; formula = x.formula; is = x.is }

pub ends_by : (w : Waiting) (outer : List Around) (operand : Option Formula) → Ends (record { inner = w; outer = outer; operand = operand })
ends_by w outer None = ends_open w outer
ends_by w outer (Some f) = ends_behind w outer f

pub read_reached : (ts rest : List Part) (r : Option Reading) → read_on r (ts ++ rest) ≡ read_on (reached r ts) rest
read_reached ts rest None = refl
read_reached [] rest (Some r) = refl
read_reached (t ∷ ts) rest (Some r) = read_reached ts rest (taken r t)

pub goes_on : (ts : List Part) → reached (Some start) ts ≡ None → Begins ts → ⊥
unfolding formula_of
goes_on ts e b = clash (sym (found (ts ++ b.rest) b.formula b.whole) ∙ read_reached ts b.rest (Some start) ∙ ap (λ r. read_on r b.rest) e) where
  clash : {F : Type 0} {f : F} → Some f ≡ None → ⊥
  clash h = cc

pub begun : (ts : List Part) → (reached (Some start) ts ≡ None → ⊥) → Begins ts
unfolding formula_of
begun ts n = by_reached (reached (Some start) ts) refl where
  by_reached : (o : Option Reading) → reached (Some start) ts ≡ o → Begins ts
  by_reached None e = absurd (n e)
  by_reached (Some r) e =
      let x = ends_by r.inner r.outer r.operand in
      record {
        rest = x.rest;
        formula = x.formula;
        whole = sound (ts ++ x.rest) x.formula (read_reached ts x.rest (Some start) ∙ ap (λ s. read_on s x.rest) e ∙ x.is);
      }
