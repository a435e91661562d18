-- Bits behind their names.
use Rattle.std.proofs.Common.{◌≡◌, ◌++◌, ◌∷◌, [], ℕ, Bool, true, false, List, Result, ap, ap₂, append-nil, arith, eqb, length, map, refl, subst, sym, ◌∙◌}
use Rattle.std.specs.Prelude.{OnOk, codes}
use Rattle.std.proofs.lemmas.Bool.{eqb-true, false≢true}
use Rattle.arrival_lines.specs.LineTexts.{no_line, step_names}
use Rattle.arrival_lines.specs.Settings.{settings_behind}
use Rattle.vrt_model.specs.VerdictText.{bit_text, settings, spaced, valuation_text}

-- with a space before each they are the words of a valuation
words_behind : (name : List ℕ) (names : List (List ℕ)) (bit : Bool) (bits : List Bool)
    → settings_behind (name ∷ names) (bit ∷ bits) ≡ 32 ∷ spaced (settings (name ∷ names) (bit ∷ bits))
words_behind name [] bit bits = ap (λ (t : List ℕ). 32 ∷ t) (append-nil (name ++ (61 ∷ bit_text bit)))
words_behind name (next ∷ names) bit [] = ap (λ (t : List ℕ). 32 ∷ t) (append-nil (name ++ (61 ∷ bit_text bit)))
words_behind name (next ∷ names) bit (more ∷ bits) = ap (λ (t : List ℕ). 32 ∷ ((name ++ (61 ∷ bit_text bit)) ++ t)) (words_behind next names more bits)

valuation_behind : (names : List (List ℕ)) (bits : List Bool) → false ≡ eqb (length names) 0 → false ≡ eqb (length bits) 0 → settings_behind names bits ≡ 32 ∷ valuation_text names bits
valuation_behind [] bits p q = absurd (false≢true p)
valuation_behind (name ∷ names) [] p q = absurd (false≢true q)
valuation_behind (name ∷ names) (bit ∷ bits) p q = words_behind name names bit bits

no_names : (names : List (List ℕ)) (bits : List Bool) → true ≡ eqb (length names) 0 → codes " -" ≡ 32 ∷ valuation_text names bits
no_names [] bits p = refl
no_names (name ∷ names) bits p = absurd (omega (arith, eqb-true (length (name ∷ names)) 0 (sym p)))

no_bits : (names : List (List ℕ)) (bits : List Bool) → true ≡ eqb (length bits) 0 → codes " -" ≡ 32 ∷ valuation_text names bits
no_bits [] [] p = refl
no_bits (name ∷ names) [] p = refl
no_bits names (bit ∷ bits) p = absurd (omega (arith, eqb-true (length (bit ∷ bits)) 0 (sym p)))

module _ {E : Type 0} (r : Result (Unit {0}) E) (old new : List ℕ) (names : List (List ℕ)) (bits : List Bool) where
  other_text : (x y : List ℕ) → x ≡ y → OnOk r (new ≡ old ++ x) → OnOk r (new ≡ old ++ y)
  other_text x y same told = subst (λ (t : List ℕ). OnOk r (new ≡ old ++ t)) same told

  -- a valuation was added
  pub valuation_told : false ≡ eqb (length names) 0 → false ≡ eqb (length bits) 0 → OnOk r (new ≡ old ++ settings_behind names bits) → OnOk r (new ≡ old ++ (32 ∷ valuation_text names bits))
  valuation_told p q told = other_text (settings_behind names bits) (32 ∷ valuation_text names bits) (valuation_behind names bits p q) told

  -- one without names, or without bits
  pub no_names_told : true ≡ eqb (length names) 0 → OnOk r (new ≡ old ++ codes " -") → OnOk r (new ≡ old ++ (32 ∷ valuation_text names bits))
  no_names_told p told = other_text (codes " -") (32 ∷ valuation_text names bits) (no_names names bits p) told

  pub no_bits_told : true ≡ eqb (length bits) 0 → OnOk r (new ≡ old ++ codes " -") → OnOk r (new ≡ old ++ (32 ∷ valuation_text names bits))
  no_bits_told p told = other_text (codes " -") (32 ∷ valuation_text names bits) (no_bits names bits p) told

-- names with nothing behind
plain_names : (names : List (List ℕ)) → map (λ (name : List ℕ). name ++ []) names ≡ names
plain_names [] = refl
plain_names (name ∷ names) = ap₂ (λ (x : List ℕ) (xs : List (List ℕ)). x ∷ xs) (append-nil name) (plain_names names)

-- the names of a step's bits
pub step_told : (variables rising start one all : List (List ℕ)) → start ≡ [] → one ≡ start ++ map (λ (name : List ℕ). name ++ []) variables
    → all ≡ one ++ map (λ (name : List ℕ). name ++ codes "+") rising → all ≡ step_names variables rising
step_told variables rising start one all none first last =
    last ∙ ap (λ (xs : List (List ℕ)). xs ++ map (λ (name : List ℕ). name ++ codes "+") rising)
    (first ∙ ap (λ (xs : List (List ℕ)). xs ++ map (λ (name : List ℕ). name ++ []) variables) none ∙ plain_names variables)

-- ---- a line

-- the same line by other words
pub same_line : (cell cell' phase phase' port port' : List ℕ) (names names' : List (List ℕ)) (bits : List Bool) → cell ≡ cell' → phase ≡ phase' → port ≡ port' → names ≡ names'
    → no_line cell phase port names bits ≡ no_line cell' phase' port' names' bits
same_line cell cell' phase phase' port port' names names' bits c p q n =
    ap (λ (x : List ℕ). no_line x phase port names bits) c ∙ ap (λ (x : List ℕ). no_line cell' x port names bits) p
    ∙ ap (λ (x : List ℕ). no_line cell' phase' x names bits) q ∙ ap (λ (xs : List (List ℕ)). no_line cell' phase' port' xs bits) n
