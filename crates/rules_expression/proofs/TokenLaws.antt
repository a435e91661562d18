-- Laws of tokens that are read from the front.
use Rattle.std.proofs.Common.{◌≡◌, ◌++◌, ◌∷◌, [], ℕ, List, Bool, true, false, cond, Some, None, refl, ap, sym, ◌∙◌}
use Rattle.rules_expression.specs.Spelled.{after_name, named}
use Rattle.rules_expression.specs.Tokens.{onto_name, sign_of}
use Rattle.rules_expression.specs.declared.tokens.Token.{Token}
use Rattle.rules_expression.specs.declared.tokens.Token.TheVariants.{Name, Bang, Ampersand, Caret, Bar, Opening, Closing}

abbrev pub is_sign : Token → Bool
is_sign (Name n) = false
is_sign t = true

some_sign : (s t : Token) → is_sign s ≡ true → Some s ≡ Some t → is_sign t ≡ true
some_sign s t h e = ap is_sign (sym same) ∙ h where
  same : s ≡ t
  same = cc

six : (a b c d e f : Bool) (t : Token)
    → cond a (Some Bang) (cond b (Some Ampersand) (cond c (Some Caret) (cond d (Some Bar) (cond e (Some Opening) (cond f (Some Closing) None))))) ≡ Some t → is_sign t ≡ true
six true b c d e f t h = some_sign Bang t refl h
six false true c d e f t h = some_sign Ampersand t refl h
six false false true d e f t h = some_sign Caret t refl h
six false false false true e f t h = some_sign Bar t refl h
six false false false false true f t h = some_sign Opening t refl h
six false false false false false true t h = some_sign Closing t refl h
six false false false false false false t h = cc

pub signs : (b : ℕ) (t : Token) → sign_of b ≡ Some t → is_sign t ≡ true
signs b t h = six _ _ _ _ _ _ t h

before_sign : (b : ℕ) (t : Token) (rest : List Token) → is_sign t ≡ true → onto_name b (t ∷ rest) ≡ Name (b ∷ []) ∷ t ∷ rest
before_sign b (Name n) rest h = cc
before_sign b Bang rest h = refl
before_sign b Ampersand rest h = refl
before_sign b Caret rest h = refl
before_sign b Bar rest h = refl
before_sign b Opening rest h = refl
before_sign b Closing rest h = refl

-- a sign behind a name
pub after_sign : (name : List ℕ) (t : Token) (rest : List Token) → is_sign t ≡ true → after_name name (t ∷ rest) ≡ named name ++ t ∷ rest
after_sign [] t rest h = refl
after_sign (b ∷ []) t rest h = before_sign b t rest h
after_sign (b ∷ c ∷ bs) t rest h = ap (onto_name b) (after_sign (c ∷ bs) t rest h)

-- a name that ends
pub at_end : (name : List ℕ) → after_name name [] ≡ named name
at_end [] = refl
at_end (b ∷ []) = refl
at_end (b ∷ c ∷ bs) = ap (onto_name b) (at_end (c ∷ bs))
