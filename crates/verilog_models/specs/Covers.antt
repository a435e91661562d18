-- The covers of expressions: one for each operator and constant.
use Rattle.std.specs.Prelude.{ℕ, ◌+◌, List, [], ◌∷◌, ◌++◌, Bool, true, false, map, codes}
use Rattle.std.specs.Fmt.{decimal}
use Rattle.verilog_expression.specs.Grammar.{Formula}
use Rattle.verilog_expression.specs.Grammar.Formula.{a_net, a_constant, negation, conjunction, parity, disjunction, choice}
use Rattle.verilog_models.specs.declared.functions.Function.{Function}
use Rattle.verilog_models.specs.declared.functions.Function.TheVariants.{Constant, Same, Not, And, Nand, Or, Nor, Xor, Xnor, Choice}
use Rattle.vrt_model.specs.declared.blif.CoverLine.{CoverLine}

-- ---- functions

-- a row with this byte for each input
abbrev pub row_of : ℕ → List (List ℕ) → List ℕ
row_of byte inputs = map (λ (i : List ℕ). byte) inputs

-- the rows of a function: the inputs at which it is 1, but 0 for `nand` and `or`
abbrev pub rows_of : Function → List (List ℕ) → List (List ℕ)
rows_of (Constant true) inputs = [] ∷ []
rows_of (Constant false) inputs = []
rows_of Same inputs = row_of 49 inputs ∷ []
rows_of Not inputs = row_of 48 inputs ∷ []
rows_of And inputs = row_of 49 inputs ∷ []
rows_of Nand inputs = row_of 49 inputs ∷ []
rows_of Or inputs = row_of 48 inputs ∷ []
rows_of Nor inputs = row_of 48 inputs ∷ []
rows_of Xor inputs = codes "10" ∷ codes "01" ∷ []
rows_of Xnor inputs = codes "11" ∷ codes "00" ∷ []
rows_of Choice inputs = codes "11-" ∷ codes "0-1" ∷ []

abbrev pub is_on : Function → Bool
is_on (Constant b) = true
is_on Same = true
is_on Not = true
is_on And = true
is_on Nand = false
is_on Or = false
is_on Nor = true
is_on Xor = true
is_on Xnor = true
is_on Choice = true

-- the cover that gives a signal the function of others
abbrev pub cover_of : ℕ → Function → List (List ℕ) → List ℕ → CoverLine
cover_of line function inputs output = record { line = line; inputs = inputs; output = output; on = is_on function; rows = rows_of function inputs }

-- ---- signals that the text does not name

-- They are numbered from 0 in each module. No name of the text has a space and digits behind it.
abbrev pub own_name : ℕ → List ℕ
own_name n = codes "expr " ++ decimal n

-- how many an expression has: one for each operator and constant
abbrev pub own : Formula → ℕ
own (a_net x) = 0
own (a_constant b) = 1
own (negation f) = own f + 1
own (conjunction f g) = own f + own g + 1
own (parity f g) = own f + own g + 1
own (disjunction f g) = own f + own g + 1
own (choice c f g) = own c + own f + own g + 1

-- how many its operands have
abbrev pub own_inside : Formula → ℕ
own_inside (a_net x) = 0
own_inside (a_constant b) = 0
own_inside (negation f) = own f
own_inside (conjunction f g) = own f + own g
own_inside (parity f g) = own f + own g
own_inside (disjunction f g) = own f + own g
own_inside (choice c f g) = own c + own f + own g

-- The signal of an expression whose own signals are numbered from here, those of operands before that of their operator
-- and from the left. A name is its own signal.
abbrev pub signal_of : ℕ → Formula → List ℕ
signal_of n (a_net x) = x
signal_of n (a_constant b) = own_name n
signal_of n (negation f) = own_name (n + own_inside (negation f))
signal_of n (conjunction f g) = own_name (n + own_inside (conjunction f g))
signal_of n (parity f g) = own_name (n + own_inside (parity f g))
signal_of n (disjunction f g) = own_name (n + own_inside (disjunction f g))
signal_of n (choice c f g) = own_name (n + own_inside (choice c f g))

-- ---- expressions

-- the function of what is outermost in an expression, and the signals that it reads
abbrev pub function_of : Formula → Function
function_of (a_net x) = Same
function_of (a_constant b) = Constant b
function_of (negation f) = Not
function_of (conjunction f g) = And
function_of (parity f g) = Xor
function_of (disjunction f g) = Or
function_of (choice c f g) = Choice

abbrev pub inputs_of : ℕ → Formula → List (List ℕ)
inputs_of n (a_net x) = x ∷ []
inputs_of n (a_constant b) = []
inputs_of n (negation f) = signal_of n f ∷ []
inputs_of n (conjunction f g) = signal_of n f ∷ signal_of (n + own f) g ∷ []
inputs_of n (parity f g) = signal_of n f ∷ signal_of (n + own f) g ∷ []
inputs_of n (disjunction f g) = signal_of n f ∷ signal_of (n + own f) g ∷ []
inputs_of n (choice c f g) = signal_of n c ∷ signal_of (n + own c) f ∷ signal_of (n + own c + own f) g ∷ []

-- the cover of what is outermost, which gives this signal
abbrev pub outer_cover : ℕ → ℕ → Formula → List ℕ → CoverLine
outer_cover line n f output = cover_of line (function_of f) (inputs_of n f) output

-- the covers of an expression whose own signals are numbered from here, each behind those of its operands; a name has none
abbrev pub value_covers : ℕ → ℕ → Formula → List CoverLine
value_covers line n (a_net x) = []
value_covers line n (a_constant b) = outer_cover line n (a_constant b) (signal_of n (a_constant b)) ∷ []
value_covers line n (negation f) = value_covers line n f ++ outer_cover line n (negation f) (signal_of n (negation f)) ∷ []
value_covers line n (conjunction f g) =
    value_covers line n f ++ value_covers line (n + own f) g ++ outer_cover line n (conjunction f g) (signal_of n (conjunction f g)) ∷ []
value_covers line n (parity f g) =
    value_covers line n f ++ value_covers line (n + own f) g ++ outer_cover line n (parity f g) (signal_of n (parity f g)) ∷ []
value_covers line n (disjunction f g) =
    value_covers line n f ++ value_covers line (n + own f) g ++ outer_cover line n (disjunction f g) (signal_of n (disjunction f g)) ∷ []
value_covers line n (choice c f g) =
    value_covers line n c ++ value_covers line (n + own c) f ++ value_covers line (n + own c + own f) g
    ++ outer_cover line n (choice c f g) (signal_of n (choice c f g)) ∷ []

-- the covers of its operands
abbrev pub operand_covers : ℕ → ℕ → Formula → List CoverLine
operand_covers line n (a_net x) = []
operand_covers line n (a_constant b) = []
operand_covers line n (negation f) = value_covers line n f
operand_covers line n (conjunction f g) = value_covers line n f ++ value_covers line (n + own f) g
operand_covers line n (parity f g) = value_covers line n f ++ value_covers line (n + own f) g
operand_covers line n (disjunction f g) = value_covers line n f ++ value_covers line (n + own f) g
operand_covers line n (choice c f g) = value_covers line n c ++ value_covers line (n + own c) f ++ value_covers line (n + own c + own f) g

-- The covers that give a net the value of an expression: what is outermost gives the net itself, and a name is copied.
abbrev pub assigned_covers : ℕ → ℕ → List ℕ → Formula → List CoverLine
assigned_covers line n net f = operand_covers line n f ++ outer_cover line n f net ∷ []

-- ---- several expressions, from the left

abbrev pub all_own : List Formula → ℕ
all_own [] = 0
all_own (f ∷ fs) = own f + all_own fs

abbrev pub all_signals : ℕ → List Formula → List (List ℕ)
all_signals n [] = []
all_signals n (f ∷ fs) = signal_of n f ∷ all_signals (n + own f) fs

abbrev pub all_covers : ℕ → ℕ → List Formula → List CoverLine
all_covers line n [] = []
all_covers line n (f ∷ fs) = value_covers line n f ++ all_covers line (n + own f) fs
