-- What is read token by token is an expression of the tokens.
use Rattle.std.proofs.Common.{◌≡◌, ◌++◌, ◌∷◌, ◌+◌, [], ℕ, suc, List, Option, Some, None, refl, ap, sym, ◌∙◌, append-nil, append_assoc, subst}
use Rattle.verilog_expression.specs.Grammar.{Formula, IsExpression, Spells}
use Rattle.verilog_tokens.specs.Signs.{Part}
use Rattle.verilog_expression.specs.Grammar.Formula.{a_net, a_constant, negation, conjunction, parity, disjunction, choice}
use Rattle.verilog_expression.specs.Grammar.Spells.{a_name, a_bit, in_parentheses, a_not, an_and, a_xor, an_or, a_choice, tighter}
use Rattle.verilog_tokens.specs.Signs.Part.{Name, Bit, Tilde, Ampersand, Caret, Bar, Question, Colon, Opening, Closing}
use Rattle.verilog_expression.specs.Readings.{Around, Reading, Waiting, closed, divided, ended_in, formula_of, joined, negated, nothing, read_on, start, taken, up_to_and, up_to_or, up_to_xor, with_operand}
use Rattle.verilog_expression.specs.Readings.Around.{parentheses, condition, branch}
use Rattle.verilog_expression.proofs.Complete.{not_inside, one_more}

-- tokens before an operand, with which it is a longer expression
abbrev Before : ℕ → ℕ → (Formula → Formula) → List Part → Type 0
Before k l make ts = (us : List Part) (g : Formula) → Spells k us g → Spells l (ts ++ us) (make g)

record Spelled (w : Waiting) : Type 0 where
  ors : List Part
  xors : List Part
  ands : List Part
  ors_are : Before 2 3 (joined disjunction w.ors) ors
  xors_are : Before 1 2 (joined parity w.xors) xors
  ands_are : Before 0 1 (joined conjunction w.ands) ands

abbrev inside : (w : Waiting) → Spelled w → List Part → List Part
inside w s us = s.ors ++ (s.xors ++ (s.ands ++ us))

-- the tokens before what is innermost
abbrev Surrounds : List Around → List Part → Type 0
Surrounds [] qs = qs ≡ []
Surrounds (parentheses w ∷ outer) qs =
    (ps : List Part) × Surrounds outer ps × (s : Spelled w) × (ns : List Part) × Before 0 0 (negated w.nots) ns × (qs ≡ ps ++ (inside w s ns ++ Opening ∷ []))
Surrounds (condition c ∷ outer) qs =
    (ps : List Part) × Surrounds outer ps × (cs : List Part) × Spells 3 cs c × (qs ≡ ps ++ (cs ++ Question ∷ []))
Surrounds (branch c f ∷ outer) qs =
    (ps : List Part) × Surrounds outer ps × (cs : List Part) × Spells 3 cs c × (xs : List Part) × Spells 4 xs f × (qs ≡ ps ++ (cs ++ Question ∷ (xs ++ Colon ∷ [])))

-- the tokens so far, where an operand is expected
record IsOpen (w : Waiting) (outer : List Around) (ts : List Part) : Type 0 where
  qs : List Part
  around : Surrounds outer qs
  spelled : Spelled w
  nots : List Part
  nots_are : Before 0 0 (negated w.nots) nots
  is : ts ≡ qs ++ inside w spelled nots

-- behind an operand
record IsBehind (w : Waiting) (outer : List Around) (f : Formula) (ts : List Part) : Type 0 where
  qs : List Part
  around : Surrounds outer qs
  spelled : Spelled w
  us : List Part
  operand : Spells 0 us f
  is : ts ≡ qs ++ inside w spelled us

abbrev IsAt : Waiting → List Around → Option Formula → List Part → Type 0
IsAt w outer None ts = IsOpen w outer ts
IsAt w outer (Some f) ts = IsBehind w outer f ts

abbrev Is : Reading → List Part → Type 0
Is r ts = IsAt r.inner r.outer r.operand ts

-- what is read behind one token more
abbrev IsNext : Option Reading → List Part → Type 0
IsNext None ts = Unit {0}
IsNext (Some r) ts = Is r ts

no_left : (k : ℕ) (make : Formula → Formula → Formula) → Before k (suc k) (joined make None) []
no_left k make us g s = tighter s

unspelled : Spelled nothing
unspelled = record { ors = []; xors = []; ands = []; ors_are = no_left 2 disjunction; xors_are = no_left 1 parity; ands_are = no_left 0 conjunction }

-- one token more behind all
more : (a b c d e t : List Part) → (a ++ (b ++ (c ++ (d ++ e)))) ++ t ≡ a ++ (b ++ (c ++ (d ++ (e ++ t))))
more a b c d e t =
    append_assoc a (b ++ (c ++ (d ++ e))) t
    ∙ ap (λ x. a ++ x) (append_assoc b (c ++ (d ++ e)) t ∙ ap (λ x. b ++ x) (append_assoc c (d ++ e) t ∙ ap (λ x. c ++ x) (append_assoc d e t)))

to_and : (w : Waiting) (s : Spelled w) (us : List Part) (f : Formula) → Spells 0 us f → Spells 1 (s.ands ++ us) (up_to_and w f)
to_and w s us f o = s.ands_are us f o

to_xor : (w : Waiting) (s : Spelled w) (us : List Part) (f : Formula) → Spells 0 us f → Spells 2 (s.xors ++ (s.ands ++ us)) (up_to_xor w f)
to_xor w s us f o = s.xors_are _ _ (to_and w s us f o)

to_or : (w : Waiting) (s : Spelled w) (us : List Part) (f : Formula) → Spells 0 us f → Spells 3 (inside w s us) (up_to_or w f)
to_or w s us f o = s.ors_are _ _ (to_xor w s us f o)

-- an expression with an operator behind it, before an operand
and_before : (xs : List Part) (f : Formula) → Spells 1 xs f → Before 0 1 (joined conjunction (Some f)) (xs ++ Ampersand ∷ [])
and_before xs f s us g t = subst (λ ts. Spells 1 ts (conjunction f g)) (sym (append_assoc xs (Ampersand ∷ []) us)) (an_and s t)

xor_before : (xs : List Part) (f : Formula) → Spells 2 xs f → Before 1 2 (joined parity (Some f)) (xs ++ Caret ∷ [])
xor_before xs f s us g t = subst (λ ts. Spells 2 ts (parity f g)) (sym (append_assoc xs (Caret ∷ []) us)) (a_xor s t)

or_before : (xs : List Part) (f : Formula) → Spells 3 xs f → Before 2 3 (joined disjunction (Some f)) (xs ++ Bar ∷ [])
or_before xs f s us g t = subst (λ ts. Spells 3 ts (disjunction f g)) (sym (append_assoc xs (Bar ∷ []) us)) (an_or s t)

not_before : (n : ℕ) (ns : List Part) → Before 0 0 (negated n) ns → Before 0 0 (negated (n + 1)) (ns ++ Tilde ∷ [])
not_before n ns b us g s =
    subst (λ ts. Spells 0 ts (negated (n + 1) g)) (sym (append_assoc ns (Tilde ∷ []) us))
    (subst (Spells 0 (ns ++ Tilde ∷ us)) (not_inside n g ∙ sym (one_more n g)) (b (Tilde ∷ us) (negation g) (a_not s)))

no_not : Before 0 0 (negated 0) []
no_not us g s = s

-- an operand of one token
takes_token : (w : Waiting) (outer : List Around) (f : Formula) (t : Part) (ts : List Part) → Spells 0 (t ∷ []) f → IsOpen w outer ts → Is (with_operand w outer f) (ts ++ t ∷ [])
takes_token w outer f t ts s o = record {
  qs = o.qs;
  around = o.around;
  spelled = record { ors = o.spelled.ors; xors = o.spelled.xors; ands = o.spelled.ands; ors_are = o.spelled.ors_are; xors_are = o.spelled.xors_are; ands_are = o.spelled.ands_are };
  us = o.nots ++ t ∷ [];
  operand = o.nots_are (t ∷ []) f s;
  is = ap (λ x. x ++ t ∷ []) o.is ∙ more o.qs o.spelled.ors o.spelled.xors o.spelled.ands o.nots (t ∷ []);
}

takes_tilde : (w : Waiting) (outer : List Around) (ts : List Part) → IsOpen w outer ts
    → IsOpen (record { ors = w.ors; xors = w.xors; ands = w.ands; nots = w.nots + 1 }) outer (ts ++ Tilde ∷ [])
takes_tilde w outer ts o = record {
  qs = o.qs;
  around = o.around;
  spelled = record { ors = o.spelled.ors; xors = o.spelled.xors; ands = o.spelled.ands; ors_are = o.spelled.ors_are; xors_are = o.spelled.xors_are; ands_are = o.spelled.ands_are };
  nots = o.nots ++ Tilde ∷ [];
  nots_are = not_before w.nots o.nots o.nots_are;
  is = ap (λ x. x ++ Tilde ∷ []) o.is ∙ more o.qs o.spelled.ors o.spelled.xors o.spelled.ands o.nots (Tilde ∷ []);
}

-- nothing waits within something new
fresh : (outer : List Around) (ts : List Part) → Surrounds outer ts → IsOpen nothing outer ts
unfolding unspelled
fresh outer ts a = record { qs = ts; around = a; spelled = unspelled; nots = []; nots_are = no_not; is = sym (append-nil ts) }

takes_opening : (w : Waiting) (outer : List Around) (ts : List Part) → IsOpen w outer ts → IsOpen nothing (parentheses w ∷ outer) (ts ++ Opening ∷ [])
takes_opening w outer ts o =
    fresh (parentheses w ∷ outer) (ts ++ Opening ∷ [])
    (o.qs, o.around, o.spelled, o.nots, o.nots_are, ap (λ x. x ++ Opening ∷ []) o.is ∙ append_assoc o.qs (inside w o.spelled o.nots) (Opening ∷ []))

takes_and : (w : Waiting) (outer : List Around) (f : Formula) (ts : List Part) → IsBehind w outer f ts
    → IsOpen (record { ors = w.ors; xors = w.xors; ands = Some (up_to_and w f); nots = 0 }) outer (ts ++ Ampersand ∷ [])
takes_and w outer f ts b = record {
  qs = b.qs;
  around = b.around;
  spelled = record {
    ors = b.spelled.ors;
    xors = b.spelled.xors;
    ands = (b.spelled.ands ++ b.us) ++ Ampersand ∷ [];
    ors_are = b.spelled.ors_are;
    xors_are = b.spelled.xors_are;
    ands_are = and_before _ _ (to_and w b.spelled b.us f b.operand);
  };
  nots = [];
  nots_are = no_not;
  is = ap (λ x. x ++ Ampersand ∷ []) b.is ∙ more b.qs b.spelled.ors b.spelled.xors b.spelled.ands b.us (Ampersand ∷ [])
      ∙ ap (λ x. b.qs ++ (b.spelled.ors ++ (b.spelled.xors ++ x))) (sym (append_assoc b.spelled.ands b.us (Ampersand ∷ [])) ∙ sym (append-nil _));
}

takes_xor : (w : Waiting) (outer : List Around) (f : Formula) (ts : List Part) → IsBehind w outer f ts
    → IsOpen (record { ors = w.ors; xors = Some (up_to_xor w f); ands = None; nots = 0 }) outer (ts ++ Caret ∷ [])
takes_xor w outer f ts b = record {
  qs = b.qs;
  around = b.around;
  spelled = record {
    ors = b.spelled.ors;
    xors = (b.spelled.xors ++ (b.spelled.ands ++ b.us)) ++ Caret ∷ [];
    ands = [];
    ors_are = b.spelled.ors_are;
    xors_are = xor_before _ _ (to_xor w b.spelled b.us f b.operand);
    ands_are = no_left 0 conjunction;
  };
  nots = [];
  nots_are = no_not;
  is = ap (λ x. x ++ Caret ∷ []) b.is
      ∙ (append_assoc b.qs _ (Caret ∷ []) ∙ ap (λ x. b.qs ++ x) (append_assoc b.spelled.ors _ (Caret ∷ []) ∙ ap (λ x. b.spelled.ors ++ x) (sym (append-nil _))));
}

takes_or : (w : Waiting) (outer : List Around) (f : Formula) (ts : List Part) → IsBehind w outer f ts
    → IsOpen (record { ors = Some (up_to_or w f); xors = None; ands = None; nots = 0 }) outer (ts ++ Bar ∷ [])
takes_or w outer f ts b = record {
  qs = b.qs;
  around = b.around;
  spelled = record {
    ors = inside w b.spelled b.us ++ Bar ∷ [];
    xors = [];
    ands = [];
    ors_are = or_before _ _ (to_or w b.spelled b.us f b.operand);
    xors_are = no_left 1 parity;
    ands_are = no_left 0 conjunction;
  };
  nots = [];
  nots_are = no_not;
  is = ap (λ x. x ++ Bar ∷ []) b.is ∙ (append_assoc b.qs _ (Bar ∷ []) ∙ ap (λ x. b.qs ++ x) (sym (append-nil _)));
}

takes_question : (w : Waiting) (outer : List Around) (f : Formula) (ts : List Part) → IsBehind w outer f ts
    → IsOpen nothing (condition (up_to_or w f) ∷ outer) (ts ++ Question ∷ [])
takes_question w outer f ts b =
    fresh (condition (up_to_or w f) ∷ outer) (ts ++ Question ∷ [])
    (b.qs, b.around, inside w b.spelled b.us, to_or w b.spelled b.us f b.operand, ap (λ x. x ++ Question ∷ []) b.is ∙ append_assoc b.qs (inside w b.spelled b.us) (Question ∷ []))

-- a whole second branch with its condition and first branch
joined_branch : (ps cs xs es : List Part) → (ps ++ (cs ++ Question ∷ (xs ++ Colon ∷ []))) ++ es ≡ ps ++ (cs ++ Question ∷ (xs ++ Colon ∷ es))
joined_branch ps cs xs es =
    append_assoc ps (cs ++ Question ∷ (xs ++ Colon ∷ [])) es
    ∙ ap (λ x. ps ++ x) (append_assoc cs (Question ∷ (xs ++ Colon ∷ [])) es ∙ ap (λ x. cs ++ Question ∷ x) (append_assoc xs (Colon ∷ []) es))

-- what closes behind a whole expression
takes_closing : (outer : List Around) (qs es ts : List Part) (e : Formula) → Surrounds outer qs → Spells 4 es e → ts ≡ qs ++ es → IsNext (closed outer e) (ts ++ Closing ∷ [])
takes_closing [] qs es ts e a s is = tt
takes_closing (condition c ∷ outer) qs es ts e a s is = tt
takes_closing (branch c f ∷ outer) qs es ts e (ps, around, cs, c_is, xs, f_is, q) s is =
    takes_closing outer ps (cs ++ Question ∷ (xs ++ Colon ∷ es)) ts (choice c f e) around (a_choice c_is f_is s)
    (is ∙ ap (λ x. x ++ es) q ∙ joined_branch ps cs xs es)
takes_closing (parentheses w ∷ outer) qs es ts e (ps, around, sp, ns, ns_are, q) s is = record {
  qs = ps;
  around = around;
  spelled = record { ors = sp.ors; xors = sp.xors; ands = sp.ands; ors_are = sp.ors_are; xors_are = sp.xors_are; ands_are = sp.ands_are };
  us = ns ++ (Opening ∷ (es ++ Closing ∷ []));
  operand = ns_are _ _ (in_parentheses s);
  is = ap (λ x. x ++ Closing ∷ []) (is ∙ ap (λ x. x ++ es) q) ∙ moved ps (inside w sp ns) es (Closing ∷ [])
      ∙ more ps sp.ors sp.xors sp.ands ns (Opening ∷ (es ++ Closing ∷ []));
} where
  moved : (ps xs es t : List Part) → ((ps ++ (xs ++ Opening ∷ [])) ++ es) ++ t ≡ (ps ++ xs) ++ (Opening ∷ (es ++ t))
  moved ps xs es t =
      append_assoc (ps ++ (xs ++ Opening ∷ [])) es t ∙ append_assoc ps (xs ++ Opening ∷ []) (es ++ t)
      ∙ ap (λ x. ps ++ x) (append_assoc xs (Opening ∷ []) (es ++ t)) ∙ sym (append_assoc ps xs (Opening ∷ (es ++ t)))

takes_colon : (outer : List Around) (qs es ts : List Part) (e : Formula) → Surrounds outer qs → Spells 4 es e → ts ≡ qs ++ es → IsNext (divided outer e) (ts ++ Colon ∷ [])
takes_colon [] qs es ts e a s is = tt
takes_colon (parentheses w ∷ outer) qs es ts e a s is = tt
takes_colon (branch c f ∷ outer) qs es ts e (ps, around, cs, c_is, xs, f_is, q) s is =
    takes_colon outer ps (cs ++ Question ∷ (xs ++ Colon ∷ es)) ts (choice c f e) around (a_choice c_is f_is s)
    (is ∙ ap (λ x. x ++ es) q ∙ joined_branch ps cs xs es)
takes_colon (condition c ∷ outer) qs es ts e (ps, around, cs, c_is, q) s is =
    fresh (branch c e ∷ outer) (ts ++ Colon ∷ []) (ps, around, cs, c_is, es, s, ap (λ x. x ++ Colon ∷ []) (is ∙ ap (λ x. x ++ es) q) ∙ moved ps cs es (Colon ∷ [])) where
      moved : (ps cs es t : List Part) → ((ps ++ (cs ++ Question ∷ [])) ++ es) ++ t ≡ ps ++ (cs ++ Question ∷ (es ++ t))
      moved ps cs es t =
          append_assoc (ps ++ (cs ++ Question ∷ [])) es t ∙ append_assoc ps (cs ++ Question ∷ []) (es ++ t) ∙ ap (λ x. ps ++ x) (append_assoc cs (Question ∷ []) (es ++ t))

takes : (w : Waiting) (outer : List Around) (operand : Option Formula) (t : Part) (ts : List Part) → IsAt w outer operand ts
    → IsNext (taken (record { inner = w; outer = outer; operand = operand }) t) (ts ++ t ∷ [])
takes w outer None (Name n) ts i = takes_token w outer (a_net n) (Name n) ts a_name i
takes w outer None (Bit b) ts i = takes_token w outer (a_constant b) (Bit b) ts a_bit i
takes w outer None Tilde ts i = takes_tilde w outer ts i
takes w outer None Opening ts i = takes_opening w outer ts i
takes w outer None Ampersand ts i = tt
takes w outer None Caret ts i = tt
takes w outer None Bar ts i = tt
takes w outer None Question ts i = tt
takes w outer None Colon ts i = tt
takes w outer None Closing ts i = tt
takes w outer (Some f) Ampersand ts i = takes_and w outer f ts i
takes w outer (Some f) Caret ts i = takes_xor w outer f ts i
takes w outer (Some f) Bar ts i = takes_or w outer f ts i
takes w outer (Some f) Question ts i = takes_question w outer f ts i
takes w outer (Some f) Colon ts i = takes_colon outer i.qs (inside w i.spelled i.us) ts (up_to_or w f) i.around (tighter (to_or w i.spelled i.us f i.operand)) i.is
takes w outer (Some f) Closing ts i = takes_closing outer i.qs (inside w i.spelled i.us) ts (up_to_or w f) i.around (tighter (to_or w i.spelled i.us f i.operand)) i.is
takes w outer (Some f) (Name n) ts i = tt
takes w outer (Some f) (Bit b) ts i = tt
takes w outer (Some f) Tilde ts i = tt
takes w outer (Some f) Opening ts i = tt

ends_in : (outer : List Around) (qs es ts : List Part) (e f : Formula) → Surrounds outer qs → Spells 4 es e → ts ≡ qs ++ es → ended_in outer e ≡ Some f → IsExpression ts f
ends_in [] qs es ts e f a s is h =
    let same : e ≡ f = cc in
    subst (λ x. IsExpression x f) (sym (is ∙ ap (λ q. q ++ es) a)) (subst (IsExpression es) same s)
ends_in (condition c ∷ outer) qs es ts e f a s is h = cc
ends_in (parentheses w ∷ outer) qs es ts e f a s is h = cc
ends_in (branch c g ∷ outer) qs es ts e f (ps, around, cs, c_is, xs, g_is, q) s is h =
    ends_in outer ps (cs ++ Question ∷ (xs ++ Colon ∷ es)) ts (choice c g e) f around (a_choice c_is g_is s)
    (is ∙ ap (λ x. x ++ es) q ∙ joined_branch ps cs xs es) h

ends : (w : Waiting) (outer : List Around) (operand : Option Formula) (ps : List Part) (f : Formula) → IsAt w outer operand ps
    → read_on (Some (record { inner = w; outer = outer; operand = operand })) [] ≡ Some f → IsExpression (ps ++ []) f
ends w outer None ps f i e = cc
ends w outer (Some g) ps f i e =
    subst (λ x. IsExpression x f) (sym (append-nil ps))
    (ends_in outer i.qs (inside w i.spelled i.us) ps (up_to_or w g) f i.around (tighter (to_or w i.spelled i.us g i.operand)) i.is e)

reads_sound : (ts ps : List Part) (r : Option Reading) (f : Formula) → IsNext r ps → read_on r ts ≡ Some f → IsExpression (ps ++ ts) f
reads_sound ts ps None f i e = cc
reads_sound [] ps (Some r) f i e = ends r.inner r.outer r.operand ps f i e
reads_sound (t ∷ ts) ps (Some r) f i e =
    subst (λ xs. IsExpression xs f) (append_assoc ps (t ∷ []) ts) (reads_sound ts (ps ++ t ∷ []) (taken r t) f (takes r.inner r.outer r.operand t ps i) e)

-- what is found is an expression of the tokens
pub sound : (ts : List Part) (f : Formula) → formula_of ts ≡ Some f → IsExpression ts f
unfolding formula_of
sound ts f e = reads_sound ts [] (Some start) f (fresh [] [] refl) e
