-- The covers of gates and of the constants in ties, and the sub-models of instances.
use Rattle.std.specs.Prelude.{ℕ, ◌+◌, ◌-◌, List, [], ◌∷◌, ◌++◌, Bool, true, false, flat_map, length, cond, Option, Some, None}
use Rattle.verilog_expression.specs.Grammar.{Formula}
use Rattle.verilog_expression.specs.Grammar.Formula.{a_net, a_constant}
use Rattle.verilog_models.specs.Covers.{all_covers, all_own, all_signals, cover_of, own, own_name, signal_of, value_covers}
use Rattle.verilog_models.specs.declared.functions.Function.{Function}
use Rattle.verilog_models.specs.declared.functions.Function.TheVariants as F
use Rattle.verilog_source.specs.Modules.{Actual, PortTie}
use Rattle.verilog_source.specs.Modules.Actual.{to_net, to_constant}
use Rattle.verilog_tokens.specs.declared.token.GateKind.{GateKind}
use Rattle.verilog_tokens.specs.declared.token.GateKind.TheVariants as G
use Rattle.vrt_model.specs.declared.blif.CoverLine.{CoverLine}
use Rattle.vrt_model.specs.declared.blif.SubLine.{SubLine}
use Rattle.vrt_model.specs.declared.blif.Tie.{Tie}

-- ---- gates

-- the last cover of a chain, of one signal or of two
abbrev pub last_of_one : Bool → Function
last_of_one complements = cond complements F.Not F.Same

abbrev pub last_of_two : Bool → Function
last_of_two complements = cond complements F.Xnor F.Xor

-- A chain of exclusive ors from the left, behind the signal of what stands before: each but the last has a signal of its own,
-- numbered from here, and the last gives the output, or its complement.
abbrev pub chain : ℕ → ℕ → Bool → List ℕ → List (List ℕ) → List ℕ → List CoverLine
chain line n complements left [] output = cover_of line (last_of_one complements) (left ∷ []) output ∷ []
chain line n complements left (right ∷ []) output = cover_of line (last_of_two complements) (left ∷ right ∷ []) output ∷ []
chain line n complements left (right ∷ next ∷ more) output =
    cover_of line F.Xor (left ∷ right ∷ []) (own_name n) ∷ chain line (n + 1) complements (own_name n) (next ∷ more) output

abbrev pub parity_covers : ℕ → ℕ → Bool → List (List ℕ) → List ℕ → List CoverLine
parity_covers line n complements [] output = []
parity_covers line n complements (first ∷ rest) output = chain line n complements first rest output

-- the covers of a gate behind those of its inputs, for one output
abbrev pub output_covers : ℕ → ℕ → GateKind → List (List ℕ) → List ℕ → List CoverLine
output_covers line n G.And inputs output = cover_of line F.And inputs output ∷ []
output_covers line n G.Nand inputs output = cover_of line F.Nand inputs output ∷ []
output_covers line n G.Or inputs output = cover_of line F.Or inputs output ∷ []
output_covers line n G.Nor inputs output = cover_of line F.Nor inputs output ∷ []
output_covers line n G.Xor inputs output = parity_covers line n false inputs output
output_covers line n G.Xnor inputs output = parity_covers line n true inputs output
output_covers line n G.Buf inputs output = cover_of line F.Same inputs output ∷ []
output_covers line n G.Not inputs output = cover_of line F.Not inputs output ∷ []

-- how many own signals its chain has: one for each link but the last
abbrev pub links : GateKind → ℕ → ℕ
links G.And inputs = 0
links G.Nand inputs = 0
links G.Or inputs = 0
links G.Nor inputs = 0
links G.Xor inputs = inputs - 2
links G.Xnor inputs = inputs - 2
links G.Buf inputs = 0
links G.Not inputs = 0

abbrev pub gate_own : GateKind → List Formula → ℕ
gate_own kind inputs = all_own inputs + links kind (length inputs)

-- the covers of a gate: those of its inputs from the left, then its own, for each output
abbrev pub gate_covers : ℕ → ℕ → GateKind → List (List ℕ) → List Formula → List CoverLine
gate_covers line n kind outputs inputs =
    all_covers line n inputs ++ flat_map (output_covers line (n + all_own inputs) kind (all_signals n inputs)) outputs

-- ---- instances

abbrev pub actual_value : Actual → Formula
actual_value (to_net n) = a_net n
actual_value (to_constant b) = a_constant b

abbrev pub actual_own : Option Actual → ℕ
actual_own None = 0
actual_own (Some a) = own (actual_value a)

-- a constant in a tie has a signal
abbrev pub actual_covers : ℕ → ℕ → Option Actual → List CoverLine
actual_covers line n None = []
actual_covers line n (Some a) = value_covers line n (actual_value a)

-- a tie to nothing is left out
abbrev pub tie_of : ℕ → List ℕ → Option Actual → List Tie
tie_of n port None = []
tie_of n port (Some a) = record { formal = port; actual = signal_of n (actual_value a) } ∷ []

-- the ties of an instance, one behind the other
abbrev pub ties_own : List PortTie → ℕ
ties_own [] = 0
ties_own (t ∷ ts) = actual_own t.actual + ties_own ts

abbrev pub ties_covers : ℕ → ℕ → List PortTie → List CoverLine
ties_covers line n [] = []
ties_covers line n (t ∷ ts) = actual_covers line n t.actual ++ ties_covers line (n + actual_own t.actual) ts

abbrev pub ties_of : ℕ → List PortTie → List Tie
ties_of n [] = []
ties_of n (t ∷ ts) = tie_of n t.port t.actual ++ ties_of (n + actual_own t.actual) ts

abbrev pub sub_of : ℕ → ℕ → List ℕ → List PortTie → SubLine
sub_of line n model ties = record { line = line; model = model; ties = ties_of n ties }
