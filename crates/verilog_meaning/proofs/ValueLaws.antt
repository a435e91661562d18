-- What the covers of expressions say of bits.
use Rattle.std.proofs.Common.{◌≡◌, ℕ, ◌+◌, Bool, not, ◌&&◌, ◌||◌, cond, List, [], ◌∷◌, ◌++◌, map, refl, ap, ap₂, ◌∙◌}
use Rattle.verilog_expression.specs.Grammar.{Formula}
use Rattle.verilog_expression.specs.Grammar.Formula.{a_net, a_constant, negation, conjunction, parity, disjunction, choice}
use Rattle.verilog_meaning.specs.Covered.{AreCovered, IsCovered, bit_given}
use Rattle.verilog_meaning.specs.Meaning.{differ, value_of}
use Rattle.verilog_meaning.proofs.FunctionLaws.{and_is, and_true, choice_is, constant_is, not_is, or_false, or_is, same_is, xor_is}
use Rattle.verilog_models.specs.Covers.{all_covers, all_signals, assigned_covers, inputs_of, operand_covers, outer_cover, own, signal_of, value_covers}
use Rattle.vrt_model.specs.declared.blif.CoverLine.{CoverLine}
use Rattle.vrt_model.proofs.Members.{among_left, among_right}

-- ---- covers of two lists

pub left_covered : (bits : List ℕ → Bool) (xs ys : List CoverLine) → AreCovered bits (xs ++ ys) → AreCovered bits xs
left_covered bits xs ys h c a = h c (among_left xs ys c a)

pub right_covered : (bits : List ℕ → Bool) (xs ys : List CoverLine) → AreCovered bits (xs ++ ys) → AreCovered bits ys
right_covered bits xs ys h c a = h c (among_right xs ys c a)

pub last_covered : (bits : List ℕ → Bool) (xs : List CoverLine) (c : CoverLine) → AreCovered bits (xs ++ c ∷ []) → IsCovered bits c
last_covered bits xs c h = h c (among_right xs (c ∷ []) c (0, refl))

-- ---- expressions

-- the bits of the operands of an expression
abbrev pub operand_values : (List ℕ → Bool) → Formula → List Bool
operand_values bits (a_net n) = bits n ∷ []
operand_values bits (a_constant b) = []
operand_values bits (negation f) = value_of bits f ∷ []
operand_values bits (conjunction f g) = value_of bits f ∷ value_of bits g ∷ []
operand_values bits (parity f g) = value_of bits f ∷ value_of bits g ∷ []
operand_values bits (disjunction f g) = value_of bits f ∷ value_of bits g ∷ []
operand_values bits (choice c f g) = value_of bits c ∷ value_of bits f ∷ value_of bits g ∷ []

first_of : (a b : Bool) (xs ys : List Bool) → a ∷ xs ≡ b ∷ ys → a ≡ b
first_of a b xs ys e = cc

rest_of : (a b : Bool) (xs ys : List Bool) → a ∷ xs ≡ b ∷ ys → xs ≡ ys
rest_of a b xs ys e = cc

-- the cover of what is outermost gives the expression's value, where it reads those of the operands
pub outer_is : (bits : List ℕ → Bool) (nets : List ℕ → Bool) (line n : ℕ) (f : Formula) (output : List ℕ) → map bits (inputs_of n f) ≡ operand_values nets f
    → bit_given bits (outer_cover line n f output) ≡ value_of nets f
outer_is bits nets line n (a_net x) output e = same_is bits x output ∙ first_of _ _ [] [] e
outer_is bits nets line n (a_constant b) output e = constant_is bits b output
outer_is bits nets line n (negation f) output e = not_is bits (signal_of n f) output ∙ ap not (first_of _ _ [] [] e)
outer_is bits nets line n (conjunction f g) output e =
    and_is bits (signal_of n f ∷ signal_of (n + own f) g ∷ []) output ∙ ap (λ (b : Bool). bits (signal_of n f) && b) (and_true (bits (signal_of (n + own f) g)))
    ∙ ap₂ (λ a b. a && b) (first_of _ _ _ _ e) (first_of _ _ [] [] (rest_of _ _ _ _ e))
outer_is bits nets line n (parity f g) output e =
    xor_is bits (signal_of n f) (signal_of (n + own f) g) output ∙ ap₂ (λ a b. differ a b) (first_of _ _ _ _ e) (first_of _ _ [] [] (rest_of _ _ _ _ e))
outer_is bits nets line n (disjunction f g) output e =
    or_is bits (signal_of n f ∷ signal_of (n + own f) g ∷ []) output ∙ ap (λ (b : Bool). bits (signal_of n f) || b) (or_false (bits (signal_of (n + own f) g)))
    ∙ ap₂ (λ a b. a || b) (first_of _ _ _ _ e) (first_of _ _ [] [] (rest_of _ _ _ _ e))
outer_is bits nets line n (choice c f g) output e =
    let later = rest_of _ _ _ _ e in
    choice_is bits (signal_of n c) (signal_of (n + own c) f) (signal_of (n + own c + own f) g) output
    ∙ ap (λ b. cond b (bits (signal_of (n + own c) f)) (bits (signal_of (n + own c + own f) g))) (first_of _ _ _ _ e)
    ∙ ap₂ (λ a b. cond (value_of nets c) a b) (first_of _ _ _ _ later) (first_of _ _ [] [] (rest_of _ _ _ _ later))

-- what is outermost gives its output that value
outer_value : (bits : List ℕ → Bool) (line n : ℕ) (f : Formula) (output : List ℕ) → IsCovered bits (outer_cover line n f output)
    → map bits (inputs_of n f) ≡ operand_values bits f → bits output ≡ value_of bits f
outer_value bits line n f output h e = h ∙ outer_is bits bits line n f output e

pub two_values : (a b c d : Bool) → a ≡ b → c ≡ d → a ∷ c ∷ [] ≡ b ∷ d ∷ []
two_values a b c d p q = ap₂ (λ x y. x ∷ y ∷ []) p q

-- the signal of an expression has its value
pub value_covered : (bits : List ℕ → Bool) (line n : ℕ) (f : Formula) → AreCovered bits (value_covers line n f) → bits (signal_of n f) ≡ value_of bits f
value_covered bits line n (a_net x) h = refl
value_covered bits line n (a_constant b) h = outer_value bits line n (a_constant b) (signal_of n (a_constant b)) (last_covered bits [] (outer_cover line n (a_constant b) (signal_of n (a_constant b))) h) refl
value_covered bits line n (negation f) h =
    let outer = outer_cover line n (negation f) (signal_of n (negation f)) in
    let inner = left_covered bits (value_covers line n f) (outer ∷ []) h in
    outer_value bits line n (negation f) (signal_of n (negation f)) (last_covered bits (value_covers line n f) outer h) (ap (λ b. b ∷ []) (value_covered bits line n f inner))
value_covered bits line n (conjunction f g) h =
    let outer = outer_cover line n (conjunction f g) (signal_of n (conjunction f g)) in
    let both = value_covers line n f ++ value_covers line (n + own f) g in
    let inner = left_covered bits both (outer ∷ []) h in
    outer_value bits line n (conjunction f g) (signal_of n (conjunction f g)) (last_covered bits both outer h)
    (two_values _ _ _ _ (value_covered bits line n f (left_covered bits (value_covers line n f) (value_covers line (n + own f) g) inner))
    (value_covered bits line (n + own f) g (right_covered bits (value_covers line n f) (value_covers line (n + own f) g) inner)))
value_covered bits line n (parity f g) h =
    let outer = outer_cover line n (parity f g) (signal_of n (parity f g)) in
    let both = value_covers line n f ++ value_covers line (n + own f) g in
    let inner = left_covered bits both (outer ∷ []) h in
    outer_value bits line n (parity f g) (signal_of n (parity f g)) (last_covered bits both outer h)
    (two_values _ _ _ _ (value_covered bits line n f (left_covered bits (value_covers line n f) (value_covers line (n + own f) g) inner))
    (value_covered bits line (n + own f) g (right_covered bits (value_covers line n f) (value_covers line (n + own f) g) inner)))
value_covered bits line n (disjunction f g) h =
    let outer = outer_cover line n (disjunction f g) (signal_of n (disjunction f g)) in
    let both = value_covers line n f ++ value_covers line (n + own f) g in
    let inner = left_covered bits both (outer ∷ []) h in
    outer_value bits line n (disjunction f g) (signal_of n (disjunction f g)) (last_covered bits both outer h)
    (two_values _ _ _ _ (value_covered bits line n f (left_covered bits (value_covers line n f) (value_covers line (n + own f) g) inner))
    (value_covered bits line (n + own f) g (right_covered bits (value_covers line n f) (value_covers line (n + own f) g) inner)))
value_covered bits line n (choice c f g) h =
    let outer = outer_cover line n (choice c f g) (signal_of n (choice c f g)) in
    let two = value_covers line n c ++ value_covers line (n + own c) f in
    let inner = left_covered bits (two ++ value_covers line (n + own c + own f) g) (outer ∷ []) h in
    let front = left_covered bits two (value_covers line (n + own c + own f) g) inner in
    outer_value bits line n (choice c f g) (signal_of n (choice c f g)) (last_covered bits (two ++ value_covers line (n + own c + own f) g) outer h)
    (ap₂ (λ x xs. x ∷ xs) (value_covered bits line n c (left_covered bits (value_covers line n c) (value_covers line (n + own c) f) front))
    (two_values _ _ _ _ (value_covered bits line (n + own c) f (right_covered bits (value_covers line n c) (value_covers line (n + own c) f) front))
    (value_covered bits line (n + own c + own f) g (right_covered bits two (value_covers line (n + own c + own f) g) inner))))

-- so have the signals that what is outermost reads
operands_covered : (bits : List ℕ → Bool) (line n : ℕ) (f : Formula) → AreCovered bits (operand_covers line n f) → map bits (inputs_of n f) ≡ operand_values bits f
operands_covered bits line n (a_net x) h = refl
operands_covered bits line n (a_constant b) h = refl
operands_covered bits line n (negation f) h = ap (λ b. b ∷ []) (value_covered bits line n f h)
operands_covered bits line n (conjunction f g) h =
    two_values _ _ _ _ (value_covered bits line n f (left_covered bits (value_covers line n f) (value_covers line (n + own f) g) h))
    (value_covered bits line (n + own f) g (right_covered bits (value_covers line n f) (value_covers line (n + own f) g) h))
operands_covered bits line n (parity f g) h =
    two_values _ _ _ _ (value_covered bits line n f (left_covered bits (value_covers line n f) (value_covers line (n + own f) g) h))
    (value_covered bits line (n + own f) g (right_covered bits (value_covers line n f) (value_covers line (n + own f) g) h))
operands_covered bits line n (disjunction f g) h =
    two_values _ _ _ _ (value_covered bits line n f (left_covered bits (value_covers line n f) (value_covers line (n + own f) g) h))
    (value_covered bits line (n + own f) g (right_covered bits (value_covers line n f) (value_covers line (n + own f) g) h))
operands_covered bits line n (choice c f g) h =
    let two = value_covers line n c ++ value_covers line (n + own c) f in
    let front = left_covered bits two (value_covers line (n + own c + own f) g) h in
    ap₂ (λ x xs. x ∷ xs) (value_covered bits line n c (left_covered bits (value_covers line n c) (value_covers line (n + own c) f) front))
    (two_values _ _ _ _ (value_covered bits line (n + own c) f (right_covered bits (value_covers line n c) (value_covers line (n + own c) f) front))
    (value_covered bits line (n + own c + own f) g (right_covered bits two (value_covers line (n + own c + own f) g) h)))

-- a net to which an expression is assigned has its value
pub assigned_covered : (bits : List ℕ → Bool) (line n : ℕ) (net : List ℕ) (f : Formula) → AreCovered bits (assigned_covers line n net f) → bits net ≡ value_of bits f
assigned_covered bits line n net f h =
    outer_value bits line n f net (last_covered bits (operand_covers line n f) (outer_cover line n f net) h)
    (operands_covered bits line n f (left_covered bits (operand_covers line n f) (outer_cover line n f net ∷ []) h))

-- the signals of several expressions have their values
pub values_covered : (bits : List ℕ → Bool) (line n : ℕ) (fs : List Formula) → AreCovered bits (all_covers line n fs)
    → map bits (all_signals n fs) ≡ map (value_of bits) fs
values_covered bits line n [] h = refl
values_covered bits line n (f ∷ fs) h =
    ap₂ (λ x xs. x ∷ xs) (value_covered bits line n f (left_covered bits (value_covers line n f) (all_covers line (n + own f) fs) h))
    (values_covered bits line (n + own f) fs (right_covered bits (value_covers line n f) (all_covers line (n + own f) fs) h))
