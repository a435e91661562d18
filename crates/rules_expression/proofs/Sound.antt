-- What is read token by token is an expression of the tokens.
use Rattle.std.proofs.Common.{◌≡◌, ◌++◌, ◌∷◌, ◌+◌, [], ℕ, suc, List, Option, Some, None, refl, ap, sym, ◌∙◌, append-nil, append_assoc, subst}
use Rattle.rules_expression.specs.Grammar.{Formula, IsExpression, Spells}
use Rattle.rules_expression.specs.Grammar.Formula.{a_port, negation, conjunction, parity, disjunction}
use Rattle.rules_expression.specs.Grammar.Spells.{a_name, in_parentheses, a_not, an_and, a_xor, an_or, tighter}
use Rattle.rules_expression.specs.Readings.{Reading, Waiting, formula_of, joined, negated, nothing, read_on, start, taken, up_to_and, up_to_or, up_to_xor, with_operand}
use Rattle.rules_expression.specs.declared.tokens.Token.{Token}
use Rattle.rules_expression.specs.declared.tokens.Token.TheVariants.{Name, Bang, Ampersand, Caret, Bar, Opening, Closing}
use Rattle.rules_expression.proofs.Complete.{not_inside, one_more}

-- tokens before an operand, with which it is a longer expression
abbrev Before : ℕ → ℕ → (Formula → Formula) → List Token → Type 0
Before k l make ts = (us : List Token) (g : Formula) → Spells k us g → Spells l (ts ++ us) (make g)

record Spelled (w : Waiting) : Type 0 where
  ors : List Token
  xors : List Token
  ands : List Token
  ors_are : Before 2 3 (joined disjunction w.ors) ors
  xors_are : Before 1 2 (joined parity w.xors) xors
  ands_are : Before 0 1 (joined conjunction w.ands) ands

abbrev inside : (w : Waiting) → Spelled w → List Token → List Token
inside w s us = s.ors ++ (s.xors ++ (s.ands ++ us))

-- the tokens before the innermost parentheses
abbrev Around : List Waiting → List Token → Type 0
Around [] qs = qs ≡ []
Around (w ∷ outer) qs =
    (ps : List Token) × Around outer ps × (s : Spelled w) × (ns : List Token) × Before 0 0 (negated w.nots) ns × (qs ≡ ps ++ (inside w s ns ++ Opening ∷ []))

-- the tokens so far, where an operand is expected
record IsOpen (w : Waiting) (outer : List Waiting) (ts : List Token) : Type 0 where
  qs : List Token
  around : Around outer qs
  spelled : Spelled w
  nots : List Token
  nots_are : Before 0 0 (negated w.nots) nots
  is : ts ≡ qs ++ inside w spelled nots

-- behind an operand
record IsBehind (w : Waiting) (outer : List Waiting) (f : Formula) (ts : List Token) : Type 0 where
  qs : List Token
  around : Around outer qs
  spelled : Spelled w
  us : List Token
  operand : Spells 0 us f
  is : ts ≡ qs ++ inside w spelled us

abbrev IsAt : Waiting → List Waiting → Option Formula → List Token → Type 0
IsAt w outer None ts = IsOpen w outer ts
IsAt w outer (Some f) ts = IsBehind w outer f ts

abbrev Is : Reading → List Token → Type 0
Is r ts = IsAt r.inner r.outer r.operand ts

no_left : (k : ℕ) (make : Formula → Formula → Formula) → Before k (suc k) (joined make None) []
no_left k make us g s = tighter s

unspelled : Spelled nothing
unspelled = record { ors = []; xors = []; ands = []; ors_are = no_left 2 disjunction; xors_are = no_left 1 parity; ands_are = no_left 0 conjunction }

-- one token more behind all
more : (a b c d e t : List Token) → (a ++ (b ++ (c ++ (d ++ e)))) ++ t ≡ a ++ (b ++ (c ++ (d ++ (e ++ t))))
more a b c d e t =
    append_assoc a (b ++ (c ++ (d ++ e))) t
    ∙ ap (λ x. a ++ x) (append_assoc b (c ++ (d ++ e)) t ∙ ap (λ x. b ++ x) (append_assoc c (d ++ e) t ∙ ap (λ x. c ++ x) (append_assoc d e t)))

to_and : (w : Waiting) (s : Spelled w) (us : List Token) (f : Formula) → Spells 0 us f → Spells 1 (s.ands ++ us) (up_to_and w f)
to_and w s us f o = s.ands_are us f o

to_xor : (w : Waiting) (s : Spelled w) (us : List Token) (f : Formula) → Spells 0 us f → Spells 2 (s.xors ++ (s.ands ++ us)) (up_to_xor w f)
to_xor w s us f o = s.xors_are _ _ (to_and w s us f o)

to_or : (w : Waiting) (s : Spelled w) (us : List Token) (f : Formula) → Spells 0 us f → Spells 3 (inside w s us) (up_to_or w f)
to_or w s us f o = s.ors_are _ _ (to_xor w s us f o)

-- an expression with an operator behind it, before an operand
and_before : (xs : List Token) (f : Formula) → Spells 1 xs f → Before 0 1 (joined conjunction (Some f)) (xs ++ Ampersand ∷ [])
and_before xs f s us g t = subst (λ ts. Spells 1 ts (conjunction f g)) (sym (append_assoc xs (Ampersand ∷ []) us)) (an_and s t)

xor_before : (xs : List Token) (f : Formula) → Spells 2 xs f → Before 1 2 (joined parity (Some f)) (xs ++ Caret ∷ [])
xor_before xs f s us g t = subst (λ ts. Spells 2 ts (parity f g)) (sym (append_assoc xs (Caret ∷ []) us)) (a_xor s t)

or_before : (xs : List Token) (f : Formula) → Spells 3 xs f → Before 2 3 (joined disjunction (Some f)) (xs ++ Bar ∷ [])
or_before xs f s us g t = subst (λ ts. Spells 3 ts (disjunction f g)) (sym (append_assoc xs (Bar ∷ []) us)) (an_or s t)

not_before : (n : ℕ) (ns : List Token) → Before 0 0 (negated n) ns → Before 0 0 (negated (n + 1)) (ns ++ Bang ∷ [])
not_before n ns b us g s =
    subst (λ ts. Spells 0 ts (negated (n + 1) g)) (sym (append_assoc ns (Bang ∷ []) us))
    (subst (Spells 0 (ns ++ Bang ∷ us)) (not_inside n g ∙ sym (one_more n g)) (b (Bang ∷ us) (negation g) (a_not s)))

no_not : Before 0 0 (negated 0) []
no_not us g s = s

takes_name : (w : Waiting) (outer : List Waiting) (n : List ℕ) (ts : List Token) → IsOpen w outer ts → Is (with_operand w outer (a_port n)) (ts ++ Name n ∷ [])
takes_name w outer n ts o = record {
  qs = o.qs;
  around = o.around;
  spelled = record { ors = o.spelled.ors; xors = o.spelled.xors; ands = o.spelled.ands; ors_are = o.spelled.ors_are; xors_are = o.spelled.xors_are; ands_are = o.spelled.ands_are };
  us = o.nots ++ Name n ∷ [];
  operand = o.nots_are (Name n ∷ []) (a_port n) a_name;
  is = ap (λ x. x ++ Name n ∷ []) o.is ∙ more o.qs o.spelled.ors o.spelled.xors o.spelled.ands o.nots (Name n ∷ []);
}

takes_bang : (w : Waiting) (outer : List Waiting) (ts : List Token) → IsOpen w outer ts
    → IsOpen (record { ors = w.ors; xors = w.xors; ands = w.ands; nots = w.nots + 1 }) outer (ts ++ Bang ∷ [])
takes_bang w outer ts o = record {
  qs = o.qs;
  around = o.around;
  spelled = record { ors = o.spelled.ors; xors = o.spelled.xors; ands = o.spelled.ands; ors_are = o.spelled.ors_are; xors_are = o.spelled.xors_are; ands_are = o.spelled.ands_are };
  nots = o.nots ++ Bang ∷ [];
  nots_are = not_before w.nots o.nots o.nots_are;
  is = ap (λ x. x ++ Bang ∷ []) o.is ∙ more o.qs o.spelled.ors o.spelled.xors o.spelled.ands o.nots (Bang ∷ []);
}

takes_opening : (w : Waiting) (outer : List Waiting) (ts : List Token) → IsOpen w outer ts → IsOpen nothing (w ∷ outer) (ts ++ Opening ∷ [])
unfolding unspelled
takes_opening w outer ts o = record {
  qs = ts ++ Opening ∷ [];
  around = (o.qs, o.around, o.spelled, o.nots, o.nots_are, ap (λ x. x ++ Opening ∷ []) o.is ∙ append_assoc o.qs (inside w o.spelled o.nots) (Opening ∷ []));
  spelled = unspelled;
  nots = [];
  nots_are = no_not;
  is = sym (append-nil (ts ++ Opening ∷ []));
}

takes_and : (w : Waiting) (outer : List Waiting) (f : Formula) (ts : List Token) → IsBehind w outer f ts
    → IsOpen (record { ors = w.ors; xors = w.xors; ands = Some (up_to_and w f); nots = 0 }) outer (ts ++ Ampersand ∷ [])
takes_and w outer f ts b = record {
  qs = b.qs;
  around = b.around;
  spelled = record {
    ors = b.spelled.ors;
    xors = b.spelled.xors;
    ands = (b.spelled.ands ++ b.us) ++ Ampersand ∷ [];
    ors_are = b.spelled.ors_are;
    xors_are = b.spelled.xors_are;
    ands_are = and_before _ _ (to_and w b.spelled b.us f b.operand);
  };
  nots = [];
  nots_are = no_not;
  is = ap (λ x. x ++ Ampersand ∷ []) b.is ∙ more b.qs b.spelled.ors b.spelled.xors b.spelled.ands b.us (Ampersand ∷ [])
      ∙ ap (λ x. b.qs ++ (b.spelled.ors ++ (b.spelled.xors ++ x))) (sym (append_assoc b.spelled.ands b.us (Ampersand ∷ [])) ∙ sym (append-nil _));
}

takes_xor : (w : Waiting) (outer : List Waiting) (f : Formula) (ts : List Token) → IsBehind w outer f ts
    → IsOpen (record { ors = w.ors; xors = Some (up_to_xor w f); ands = None; nots = 0 }) outer (ts ++ Caret ∷ [])
takes_xor w outer f ts b = record {
  qs = b.qs;
  around = b.around;
  spelled = record {
    ors = b.spelled.ors;
    xors = (b.spelled.xors ++ (b.spelled.ands ++ b.us)) ++ Caret ∷ [];
    ands = [];
    ors_are = b.spelled.ors_are;
    xors_are = xor_before _ _ (to_xor w b.spelled b.us f b.operand);
    ands_are = no_left 0 conjunction;
  };
  nots = [];
  nots_are = no_not;
  is = ap (λ x. x ++ Caret ∷ []) b.is
      ∙ (append_assoc b.qs _ (Caret ∷ []) ∙ ap (λ x. b.qs ++ x) (append_assoc b.spelled.ors _ (Caret ∷ []) ∙ ap (λ x. b.spelled.ors ++ x) (sym (append-nil _))));
}

takes_or : (w : Waiting) (outer : List Waiting) (f : Formula) (ts : List Token) → IsBehind w outer f ts
    → IsOpen (record { ors = Some (up_to_or w f); xors = None; ands = None; nots = 0 }) outer (ts ++ Bar ∷ [])
takes_or w outer f ts b = record {
  qs = b.qs;
  around = b.around;
  spelled = record {
    ors = inside w b.spelled b.us ++ Bar ∷ [];
    xors = [];
    ands = [];
    ors_are = or_before _ _ (to_or w b.spelled b.us f b.operand);
    xors_are = no_left 1 parity;
    ands_are = no_left 0 conjunction;
  };
  nots = [];
  nots_are = no_not;
  is = ap (λ x. x ++ Bar ∷ []) b.is ∙ (append_assoc b.qs _ (Bar ∷ []) ∙ ap (λ x. b.qs ++ x) (sym (append-nil _)));
}

-- parentheses around an expression are an operand of those outside
takes_closing : (w o : Waiting) (outer : List Waiting) (f : Formula) (ts : List Token) → IsBehind w (o ∷ outer) f ts
    → Is (with_operand o outer (up_to_or w f)) (ts ++ Closing ∷ [])
takes_closing w o outer f ts b =
    let ps = b.around.0 in
    let s = b.around.2 in
    let ns = b.around.3 in
    let whole = inside w b.spelled b.us in
    record {
      qs = ps;
      around = b.around.1;
      spelled = record { ors = s.ors; xors = s.xors; ands = s.ands; ors_are = s.ors_are; xors_are = s.xors_are; ands_are = s.ands_are };
      us = ns ++ (Opening ∷ (whole ++ Closing ∷ []));
      operand = b.around.4 _ _ (in_parentheses (to_or w b.spelled b.us f b.operand));
      is = ap (λ x. x ++ Closing ∷ []) (b.is ∙ ap (λ x. x ++ whole) b.around.5) ∙ moved ps (inside o s ns) whole (Closing ∷ [])
          ∙ more ps s.ors s.xors s.ands ns (Opening ∷ (whole ++ Closing ∷ []));
    } where
      moved : (ps xs whole t : List Token) → ((ps ++ (xs ++ Opening ∷ [])) ++ whole) ++ t ≡ (ps ++ xs) ++ (Opening ∷ (whole ++ t))
      moved ps xs whole t =
          append_assoc (ps ++ (xs ++ Opening ∷ [])) whole t ∙ append_assoc ps (xs ++ Opening ∷ []) (whole ++ t)
          ∙ ap (λ x. ps ++ x) (append_assoc xs (Opening ∷ []) (whole ++ t)) ∙ sym (append_assoc ps xs (Opening ∷ (whole ++ t)))

-- what is read behind one token more
abbrev IsNext : Option Reading → List Token → Type 0
IsNext None ts = Unit {0}
IsNext (Some r) ts = Is r ts

takes : (w : Waiting) (outer : List Waiting) (operand : Option Formula) (t : Token) (ts : List Token) → IsAt w outer operand ts
    → IsNext (taken (record { inner = w; outer = outer; operand = operand }) t) (ts ++ t ∷ [])
takes w outer None (Name n) ts i = takes_name w outer n ts i
takes w outer None Bang ts i = takes_bang w outer ts i
takes w outer None Opening ts i = takes_opening w outer ts i
takes w outer None Ampersand ts i = tt
takes w outer None Caret ts i = tt
takes w outer None Bar ts i = tt
takes w outer None Closing ts i = tt
takes w outer (Some f) Ampersand ts i = takes_and w outer f ts i
takes w outer (Some f) Caret ts i = takes_xor w outer f ts i
takes w outer (Some f) Bar ts i = takes_or w outer f ts i
takes w [] (Some f) Closing ts i = tt
takes w (o ∷ outer) (Some f) Closing ts i = takes_closing w o outer f ts i
takes w outer (Some f) (Name n) ts i = tt
takes w outer (Some f) Bang ts i = tt
takes w outer (Some f) Opening ts i = tt

ends : (w : Waiting) (outer : List Waiting) (operand : Option Formula) (ps : List Token) (f : Formula) → IsAt w outer operand ps
    → read_on (Some (record { inner = w; outer = outer; operand = operand })) [] ≡ Some f → IsExpression (ps ++ []) f
ends w [] None ps f i e = cc
ends w (o ∷ outer) operand ps f i e = cc
ends w [] (Some g) ps f i e =
    let is : inside w i.spelled i.us ≡ ps ++ [] = sym (append-nil ps ∙ i.is ∙ ap (λ q. q ++ inside w i.spelled i.us) i.around) in
    let same : up_to_or w g ≡ f = cc in
    subst (λ ts. IsExpression ts f) is (subst (IsExpression (inside w i.spelled i.us)) same (to_or w i.spelled i.us g i.operand))

reads_sound : (ts ps : List Token) (r : Option Reading) (f : Formula) → IsNext r ps → read_on r ts ≡ Some f → IsExpression (ps ++ ts) f
reads_sound ts ps None f i e = cc
reads_sound [] ps (Some r) f i e = ends r.inner r.outer r.operand ps f i e
reads_sound (t ∷ ts) ps (Some r) f i e =
    subst (λ xs. IsExpression xs f) (append_assoc ps (t ∷ []) ts) (reads_sound ts (ps ++ t ∷ []) (taken r t) f (takes r.inner r.outer r.operand t ps i) e)

-- what is found is an expression of the tokens
pub sound : (ts : List Token) (f : Formula) → formula_of ts ≡ Some f → IsExpression ts f
unfolding formula_of unspelled
sound ts f e = reads_sound ts [] (Some start) f (record { qs = []; around = refl; spelled = unspelled; nots = []; nots_are = no_not; is = refl }) e
