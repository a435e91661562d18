-- The bit that a cover gives, by its function.
use Rattle.std.proofs.Common.{◌≡◌, ℕ, Bool, true, false, not, ◌&&◌, ◌||◌, cond, List, [], ◌∷◌, map, refl, ap, ◌∙◌}
use Rattle.std.specs.List.{list_all, list_any}
use Rattle.verilog_meaning.specs.Covered.{bit_given, bits_fit}
use Rattle.verilog_meaning.specs.Meaning.{differ}
use Rattle.verilog_models.specs.Covers.{cover_of, row_of}
use Rattle.verilog_models.specs.declared.functions.Function.{Function}
use Rattle.verilog_models.specs.declared.functions.Function.TheVariants as F
use Rattle.vrt_model.specs.Covers.{byte_fits}

-- ---- bits

pub or_false : (b : Bool) → (b || false) ≡ b
or_false true = refl
or_false false = refl

pub and_true : (b : Bool) → (b && true) ≡ b
and_true true = refl
and_true false = refl

not_or : (a b : Bool) → (not a && not b) ≡ not (a || b)
not_or true b = refl
not_or false b = refl

not_not : (b : Bool) → not (not b) ≡ b
not_not true = refl
not_not false = refl

pub differ_false : (b : Bool) → differ b false ≡ b
differ_false true = refl
differ_false false = refl

pub differ_assoc : (a b c : Bool) → differ (differ a b) c ≡ differ a (differ b c)
differ_assoc true true c = not_twice c where
  not_twice : (c : Bool) → c ≡ not (not c)
  not_twice true = refl
  not_twice false = refl
differ_assoc true false c = refl
differ_assoc false b c = refl

-- ---- rows

-- a row of ones fits where all are 1
ones_fit : (bits : List ℕ → Bool) (inputs : List (List ℕ)) → bits_fit (map bits inputs) (row_of 49 inputs) ≡ list_all (λ b. b) (map bits inputs)
ones_fit bits [] = refl
ones_fit bits (x ∷ xs) = ap (λ b. bits x && b) (ones_fit bits xs)

-- a row of zeros where none is
zeros_fit : (bits : List ℕ → Bool) (inputs : List (List ℕ)) → bits_fit (map bits inputs) (row_of 48 inputs) ≡ not (list_any (λ b. b) (map bits inputs))
zeros_fit bits [] = refl
zeros_fit bits (x ∷ xs) = ap (λ b. not (bits x) && b) (zeros_fit bits xs) ∙ not_or (bits x) (list_any (λ b. b) (map bits xs))

-- ---- functions of any inputs

-- the bit that the cover of a function gives for those of its inputs
abbrev pub bit_of : (List ℕ → Bool) → Function → List (List ℕ) → List ℕ → Bool
bit_of bits f inputs output = bit_given bits (cover_of 0 f inputs output)

pub and_is : (bits : List ℕ → Bool) (inputs : List (List ℕ)) (output : List ℕ) → bit_of bits F.And inputs output ≡ list_all (λ b. b) (map bits inputs)
and_is bits inputs output = or_false (bits_fit (map bits inputs) (row_of 49 inputs)) ∙ ones_fit bits inputs

pub nand_is : (bits : List ℕ → Bool) (inputs : List (List ℕ)) (output : List ℕ) → bit_of bits F.Nand inputs output ≡ not (list_all (λ b. b) (map bits inputs))
nand_is bits inputs output = ap not (or_false (bits_fit (map bits inputs) (row_of 49 inputs)) ∙ ones_fit bits inputs)

pub or_is : (bits : List ℕ → Bool) (inputs : List (List ℕ)) (output : List ℕ) → bit_of bits F.Or inputs output ≡ list_any (λ b. b) (map bits inputs)
or_is bits inputs output = ap not (or_false (bits_fit (map bits inputs) (row_of 48 inputs)) ∙ zeros_fit bits inputs) ∙ not_not (list_any (λ b. b) (map bits inputs))

pub nor_is : (bits : List ℕ → Bool) (inputs : List (List ℕ)) (output : List ℕ) → bit_of bits F.Nor inputs output ≡ not (list_any (λ b. b) (map bits inputs))
nor_is bits inputs output = or_false (bits_fit (map bits inputs) (row_of 48 inputs)) ∙ zeros_fit bits inputs

-- ---- functions of no input, one, two and three

pub constant_is : (bits : List ℕ → Bool) (b : Bool) (output : List ℕ) → bit_of bits (F.Constant b) [] output ≡ b
constant_is bits true output = refl
constant_is bits false output = refl

pub same_is : (bits : List ℕ → Bool) (x output : List ℕ) → bit_of bits F.Same (x ∷ []) output ≡ bits x
same_is bits x output = or_false (bits x && true) ∙ and_true (bits x)

pub not_is : (bits : List ℕ → Bool) (x output : List ℕ) → bit_of bits F.Not (x ∷ []) output ≡ not (bits x)
not_is bits x output = or_false (not (bits x) && true) ∙ and_true (not (bits x))

abbrev fits_two : ℕ → ℕ → Bool → Bool → Bool
fits_two m n a b = byte_fits m a && (byte_fits n b && true)

two_differ : (a b : Bool) → (fits_two 49 48 a b || (fits_two 48 49 a b || false)) ≡ differ a b
two_differ true true = refl
two_differ true false = refl
two_differ false true = refl
two_differ false false = refl

two_agree : (a b : Bool) → (fits_two 49 49 a b || (fits_two 48 48 a b || false)) ≡ not (differ a b)
two_agree true true = refl
two_agree true false = refl
two_agree false true = refl
two_agree false false = refl

pub xor_is : (bits : List ℕ → Bool) (x y output : List ℕ) → bit_of bits F.Xor (x ∷ y ∷ []) output ≡ differ (bits x) (bits y)
xor_is bits x y output = two_differ (bits x) (bits y)

pub xnor_is : (bits : List ℕ → Bool) (x y output : List ℕ) → bit_of bits F.Xnor (x ∷ y ∷ []) output ≡ not (differ (bits x) (bits y))
xnor_is bits x y output = two_agree (bits x) (bits y)

abbrev fits_three : ℕ → ℕ → ℕ → Bool → Bool → Bool → Bool
fits_three l m n c a b = byte_fits l c && (byte_fits m a && (byte_fits n b && true))

chosen : (c a b : Bool) → (fits_three 49 49 45 c a b || (fits_three 48 45 49 c a b || false)) ≡ cond c a b
chosen true true b = refl
chosen true false b = refl
chosen false a true = refl
chosen false a false = refl

pub choice_is : (bits : List ℕ → Bool) (c x y output : List ℕ) → bit_of bits F.Choice (c ∷ x ∷ y ∷ []) output ≡ cond (bits c) (bits x) (bits y)
choice_is bits c x y output = chosen (bits c) (bits x) (bits y)
