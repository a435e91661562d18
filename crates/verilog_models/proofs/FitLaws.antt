-- The model of a module is such as the calls above take.
use Rattle.std.proofs.Common.{◌≡◌, ◌≤◌, ◌⊎◌, inl, inr, ℕ, ◌+◌, ◌++◌, ◌∷◌, [], List, Bool, true, false, length, flat_map, All, suc, Option, Some, None, refl, ap, sym, subst, ◌∙◌, arith}
use Rattle.std.specs.Prelude.{bytes_eq, codes}
use Rattle.std.proofs.lemmas.List.{length-map}
use Rattle.std.proofs.lemmas.List.Elements.{All-append, All-cons, All-head, All-nil, All-tail}
use Rattle.names.proofs.ApartLaws.{apart, kept_apart, once_apart}
use Rattle.verilog_expression.specs.Grammar.{Formula}
use Rattle.verilog_expression.specs.Grammar.Formula.{a_net, a_constant, negation, conjunction, parity, disjunction, choice}
use Rattle.verilog_models.specs.Covers.{all_covers, all_own, all_signals, cover_of, inputs_of, operand_covers, outer_cover, own, own_name, row_of, rows_of, signal_of, value_covers}
use Rattle.verilog_models.specs.Fits.{AreFit, HasFewInputs, IsFitEntry}
use Rattle.verilog_models.specs.Gates.{actual_covers, actual_own, actual_value, chain, gate_covers, output_covers, parity_covers, ties_covers}
use Rattle.verilog_models.specs.Models.{covers_in, entry_covers, entry_own, given_in, is_of, line_of, lines_by, listed_name, model_of, ports_by, ports_in}
use Rattle.verilog_models.specs.declared.functions.Function.{Function}
use Rattle.verilog_models.specs.declared.functions.Function.TheVariants as F
use Rattle.verilog_source.specs.Modules.{Actual, Entry, Module, PortTie}
use Rattle.verilog_source.specs.Modules.Entry.{listed, directed, assigned, gate, instance}
use Rattle.verilog_source.specs.declared.position.Direction.{Direction}
use Rattle.verilog_source.specs.declared.position.Direction.TheVariants.{Inputs, Outputs}
use Rattle.verilog_tokens.specs.declared.token.GateKind.{GateKind}
use Rattle.verilog_tokens.specs.declared.token.GateKind.TheVariants as G
use Rattle.vrt_model.specs.FlatModels.{IsRow}
use Rattle.vrt_model.specs.Inputs.{AllApart, IsCoverLine, IsModel}
use Rattle.vrt_model.specs.declared.blif.CoverLine.{CoverLine}
use Rattle.vrt_model.specs.declared.blif.LatchLine.{LatchLine}

abbrev IsByte : ℕ → Type 0
IsByte byte = (byte ≡ 48) ⊎ (byte ≡ 49) ⊎ (byte ≡ 45)

-- ---- rows

even_row : (b : ℕ) → IsByte b → (inputs : List (List ℕ)) → IsRow (length inputs) (row_of b inputs)
even_row b is inputs = record { length = length-map inputs (λ i. b); bytes = each inputs } where
  each : (xs : List (List ℕ)) → All IsByte (row_of b xs)
  each [] = All-nil IsByte
  each (x ∷ xs) = All-cons IsByte b (row_of b xs) is (each xs)

one_row : (n : ℕ) (row : List ℕ) → IsRow n row → All (IsRow n) (row ∷ [])
one_row n row r = All-cons (IsRow n) row [] r (All-nil (IsRow n))

two_bits : (a b : ℕ) → IsByte a → IsByte b → IsRow 2 (a ∷ b ∷ [])
two_bits a b p q = record { length = refl; bytes = All-cons IsByte a (b ∷ []) p (All-cons IsByte b [] q (All-nil IsByte)) }

three_bits : (a b c : ℕ) → IsByte a → IsByte b → IsByte c → IsRow 3 (a ∷ b ∷ c ∷ [])
three_bits a b c p q r = record { length = refl; bytes = All-cons IsByte a (b ∷ c ∷ []) p (All-cons IsByte b (c ∷ []) q (All-cons IsByte c [] r (All-nil IsByte))) }

zero_bit : IsByte 48
zero_bit = inl refl

one_bit : IsByte 49
one_bit = inr (inl refl)

dash : IsByte 45
dash = inr (inr refl)

-- ---- covers

-- a function of so many inputs
abbrev IsArity : Function → ℕ → Type 0
IsArity (F.Constant b) n = n ≡ 0
IsArity F.Same n = n ≤ 1000
IsArity F.Not n = n ≤ 1000
IsArity F.And n = n ≤ 1000
IsArity F.Nand n = n ≤ 1000
IsArity F.Or n = n ≤ 1000
IsArity F.Nor n = n ≤ 1000
IsArity F.Xor n = n ≡ 2
IsArity F.Xnor n = n ≡ 2
IsArity F.Choice n = n ≡ 3

alike : (line : ℕ) (f : Function) (b : ℕ) (inputs : List (List ℕ)) (output : List ℕ) → IsByte b → rows_of f inputs ≡ row_of b inputs ∷ [] → length inputs ≤ 1000 → IsCoverLine (cover_of line f inputs output)
alike line f b inputs output is e le = record {
  input_limit = le;
  rows = subst (λ rs. All (IsRow (length inputs)) rs) (sym e) (one_row (length inputs) (row_of b inputs) (even_row b is inputs));
  empty = λ none. absurd (some_row (sym e ∙ none));
} where
  some_row : row_of b inputs ∷ [] ≡ [] → ⊥
  some_row e = cc

two_rows : (line : ℕ) (f : Function) (a b c d : ℕ) (inputs : List (List ℕ)) (output : List ℕ) → IsByte a → IsByte b → IsByte c → IsByte d
    → rows_of f inputs ≡ (a ∷ b ∷ []) ∷ (c ∷ d ∷ []) ∷ [] → length inputs ≡ 2 → IsCoverLine (cover_of line f inputs output)
two_rows line f a b c d inputs output p q r s e two = record {
  input_limit = omega (arith, two);
  rows = subst (λ rs. All (IsRow (length inputs)) rs) (sym e) (subst (λ n. All (IsRow n) ((a ∷ b ∷ []) ∷ (c ∷ d ∷ []) ∷ [])) (sym two)
      (All-cons (IsRow 2) (a ∷ b ∷ []) ((c ∷ d ∷ []) ∷ []) (two_bits a b p q) (one_row 2 (c ∷ d ∷ []) (two_bits c d r s))));
  empty = λ none. absurd (some_row (sym e ∙ none));
} where
  some_row : (a ∷ b ∷ []) ∷ (c ∷ d ∷ []) ∷ [] ≡ [] → ⊥
  some_row e = cc

cover_fits : (line : ℕ) (f : Function) (inputs : List (List ℕ)) (output : List ℕ) → IsArity f (length inputs) → IsCoverLine (cover_of line f inputs output)
cover_fits line (F.Constant true) inputs output h = record {
  input_limit = omega (arith, h);
  rows = one_row (length inputs) [] (record { length = sym h; bytes = All-nil IsByte });
  empty = λ none. refl;
}
cover_fits line (F.Constant false) inputs output h = record { input_limit = omega (arith, h); rows = All-nil (IsRow (length inputs)); empty = λ none. refl }
cover_fits line F.Same inputs output h = alike line F.Same 49 inputs output one_bit refl h
cover_fits line F.Not inputs output h = alike line F.Not 48 inputs output zero_bit refl h
cover_fits line F.And inputs output h = alike line F.And 49 inputs output one_bit refl h
cover_fits line F.Nand inputs output h = alike line F.Nand 49 inputs output one_bit refl h
cover_fits line F.Or inputs output h = alike line F.Or 48 inputs output zero_bit refl h
cover_fits line F.Nor inputs output h = alike line F.Nor 48 inputs output zero_bit refl h
cover_fits line F.Xor inputs output h = two_rows line F.Xor 49 48 48 49 inputs output one_bit zero_bit zero_bit one_bit refl h
cover_fits line F.Xnor inputs output h = two_rows line F.Xnor 49 49 48 48 inputs output one_bit one_bit zero_bit zero_bit refl h
cover_fits line F.Choice inputs output h = record {
  input_limit = omega (arith, h);
  rows = subst (λ n. All (IsRow n) (codes "11-" ∷ codes "0-1" ∷ [])) (sym h)
      (All-cons (IsRow 3) (codes "11-") (codes "0-1" ∷ []) (three_bits 49 49 45 one_bit one_bit dash) (one_row 3 (codes "0-1") (three_bits 48 45 49 zero_bit dash one_bit)));
  empty = λ none. refl;
}

-- ---- expressions

few : (n : ℕ) → n ≡ 1 → n ≤ 1000
few n e = omega (arith, e)

-- what is outermost in an expression reads as many signals as its function has inputs
outer_fits : (line n : ℕ) (f : Formula) (output : List ℕ) → IsCoverLine (outer_cover line n f output)
outer_fits line n (a_net x) output = cover_fits line F.Same (x ∷ []) output (few 1 refl)
outer_fits line n (a_constant b) output = cover_fits line (F.Constant b) [] output refl
outer_fits line n (negation f) output = cover_fits line F.Not (inputs_of n (negation f)) output (few 1 refl)
outer_fits line n (conjunction f g) output = cover_fits line F.And (inputs_of n (conjunction f g)) output (omega arith)
outer_fits line n (parity f g) output = cover_fits line F.Xor (inputs_of n (parity f g)) output refl
outer_fits line n (disjunction f g) output = cover_fits line F.Or (inputs_of n (disjunction f g)) output (omega arith)
outer_fits line n (choice c f g) output = cover_fits line F.Choice (inputs_of n (choice c f g)) output refl

abbrev Fit : List CoverLine → Type 0
Fit covers = All IsCoverLine covers

joined : (xs ys : List CoverLine) → Fit xs → Fit ys → Fit (xs ++ ys)
joined xs ys p q = All-append IsCoverLine xs ys p q

single : (c : CoverLine) → IsCoverLine c → Fit (c ∷ [])
single c is = All-cons IsCoverLine c [] is (All-nil IsCoverLine)

with_outer : (line n : ℕ) (f : Formula) (output : List ℕ) (covers : List CoverLine) → Fit covers → Fit (covers ++ outer_cover line n f output ∷ [])
with_outer line n f output covers fit = joined covers (outer_cover line n f output ∷ []) fit (single (outer_cover line n f output) (outer_fits line n f output))

value_fits : (line n : ℕ) (f : Formula) → Fit (value_covers line n f)
value_fits line n (a_net x) = All-nil IsCoverLine
value_fits line n (a_constant b) = single (outer_cover line n (a_constant b) (signal_of n (a_constant b))) (outer_fits line n (a_constant b) (signal_of n (a_constant b)))
value_fits line n (negation f) = with_outer line n (negation f) (signal_of n (negation f)) (value_covers line n f) (value_fits line n f)
value_fits line n (conjunction f g) =
    with_outer line n (conjunction f g) (signal_of n (conjunction f g)) (value_covers line n f ++ value_covers line (n + own f) g)
    (joined (value_covers line n f) (value_covers line (n + own f) g) (value_fits line n f) (value_fits line (n + own f) g))
value_fits line n (parity f g) =
    with_outer line n (parity f g) (signal_of n (parity f g)) (value_covers line n f ++ value_covers line (n + own f) g)
    (joined (value_covers line n f) (value_covers line (n + own f) g) (value_fits line n f) (value_fits line (n + own f) g))
value_fits line n (disjunction f g) =
    with_outer line n (disjunction f g) (signal_of n (disjunction f g)) (value_covers line n f ++ value_covers line (n + own f) g)
    (joined (value_covers line n f) (value_covers line (n + own f) g) (value_fits line n f) (value_fits line (n + own f) g))
value_fits line n (choice c f g) =
    with_outer line n (choice c f g) (signal_of n (choice c f g)) (value_covers line n c ++ value_covers line (n + own c) f ++ value_covers line (n + own c + own f) g)
    (joined (value_covers line n c ++ value_covers line (n + own c) f) (value_covers line (n + own c + own f) g)
    (joined (value_covers line n c) (value_covers line (n + own c) f) (value_fits line n c) (value_fits line (n + own c) f)) (value_fits line (n + own c + own f) g))

operands_fit : (line n : ℕ) (f : Formula) → Fit (operand_covers line n f)
operands_fit line n (a_net x) = All-nil IsCoverLine
operands_fit line n (a_constant b) = All-nil IsCoverLine
operands_fit line n (negation f) = value_fits line n f
operands_fit line n (conjunction f g) = joined (value_covers line n f) (value_covers line (n + own f) g) (value_fits line n f) (value_fits line (n + own f) g)
operands_fit line n (parity f g) = joined (value_covers line n f) (value_covers line (n + own f) g) (value_fits line n f) (value_fits line (n + own f) g)
operands_fit line n (disjunction f g) = joined (value_covers line n f) (value_covers line (n + own f) g) (value_fits line n f) (value_fits line (n + own f) g)
operands_fit line n (choice c f g) =
    joined (value_covers line n c ++ value_covers line (n + own c) f) (value_covers line (n + own c + own f) g)
    (joined (value_covers line n c) (value_covers line (n + own c) f) (value_fits line n c) (value_fits line (n + own c) f)) (value_fits line (n + own c + own f) g)

all_fit : (line n : ℕ) (fs : List Formula) → Fit (all_covers line n fs)
all_fit line n [] = All-nil IsCoverLine
all_fit line n (f ∷ fs) = joined (value_covers line n f) (all_covers line (n + own f) fs) (value_fits line n f) (all_fit line (n + own f) fs)

-- ---- gates

chain_fits : (line n : ℕ) (complements : Bool) (left : List ℕ) (rest : List (List ℕ)) (output : List ℕ) → Fit (chain line n complements left rest output)
chain_fits line n true left [] output = single (cover_of line F.Not (left ∷ []) output) (cover_fits line F.Not (left ∷ []) output (few 1 refl))
chain_fits line n false left [] output = single (cover_of line F.Same (left ∷ []) output) (cover_fits line F.Same (left ∷ []) output (few 1 refl))
chain_fits line n true left (right ∷ []) output = single (cover_of line F.Xnor (left ∷ right ∷ []) output) (cover_fits line F.Xnor (left ∷ right ∷ []) output refl)
chain_fits line n false left (right ∷ []) output = single (cover_of line F.Xor (left ∷ right ∷ []) output) (cover_fits line F.Xor (left ∷ right ∷ []) output refl)
chain_fits line n complements left (right ∷ next ∷ more) output =
    All-cons IsCoverLine (cover_of line F.Xor (left ∷ right ∷ []) (own_name n)) (chain line (n + 1) complements (own_name n) (next ∷ more) output)
    (cover_fits line F.Xor (left ∷ right ∷ []) (own_name n) refl) (chain_fits line (n + 1) complements (own_name n) (next ∷ more) output)

parity_fits : (line n : ℕ) (complements : Bool) (inputs : List (List ℕ)) (output : List ℕ) → Fit (parity_covers line n complements inputs output)
parity_fits line n complements [] output = All-nil IsCoverLine
parity_fits line n complements (first ∷ rest) output = chain_fits line n complements first rest output

alone : (line : ℕ) (f : Function) (inputs : List (List ℕ)) (output : List ℕ) → IsArity f (length inputs) → Fit (cover_of line f inputs output ∷ [])
alone line f inputs output h = single (cover_of line f inputs output) (cover_fits line f inputs output h)

output_fits : (line n : ℕ) (kind : GateKind) (inputs : List (List ℕ)) (output : List ℕ) → HasFewInputs kind (length inputs) → Fit (output_covers line n kind inputs output)
output_fits line n G.And inputs output h = alone line F.And inputs output (h.limit refl)
output_fits line n G.Nand inputs output h = alone line F.Nand inputs output (h.limit refl)
output_fits line n G.Or inputs output h = alone line F.Or inputs output (h.limit refl)
output_fits line n G.Nor inputs output h = alone line F.Nor inputs output (h.limit refl)
output_fits line n G.Xor inputs output h = parity_fits line n false inputs output
output_fits line n G.Xnor inputs output h = parity_fits line n true inputs output
output_fits line n G.Buf inputs output h = alone line F.Same inputs output (few (length inputs) (h.one refl))
output_fits line n G.Not inputs output h = alone line F.Not inputs output (few (length inputs) (h.one refl))

outputs_fit : (line n : ℕ) (kind : GateKind) (inputs outputs : List (List ℕ)) → HasFewInputs kind (length inputs) → Fit (flat_map (output_covers line n kind inputs) outputs)
outputs_fit line n kind inputs [] h = All-nil IsCoverLine
outputs_fit line n kind inputs (o ∷ os) h =
    joined (output_covers line n kind inputs o) (flat_map (output_covers line n kind inputs) os) (output_fits line n kind inputs o h) (outputs_fit line n kind inputs os h)

as_many : (n : ℕ) (fs : List Formula) → length (all_signals n fs) ≡ length fs
as_many n [] = refl
as_many n (f ∷ fs) = ap suc (as_many (n + own f) fs)

gate_fits : (line n : ℕ) (kind : GateKind) (outputs : List (List ℕ)) (inputs : List Formula) → HasFewInputs kind (length inputs) → Fit (gate_covers line n kind outputs inputs)
gate_fits line n kind outputs inputs h =
    joined (all_covers line n inputs) (flat_map (output_covers line (n + all_own inputs) kind (all_signals n inputs)) outputs) (all_fit line n inputs)
    (outputs_fit line (n + all_own inputs) kind (all_signals n inputs) outputs (subst (HasFewInputs kind) (sym (as_many n inputs)) h))

-- ---- instances

actual_fits : (line n : ℕ) (a : Option Actual) → Fit (actual_covers line n a)
actual_fits line n None = All-nil IsCoverLine
actual_fits line n (Some a) = value_fits line n (actual_value a)

ties_fit : (line n : ℕ) (ts : List PortTie) → Fit (ties_covers line n ts)
ties_fit line n [] = All-nil IsCoverLine
ties_fit line n (t ∷ ts) =
    joined (actual_covers line n t.actual) (ties_covers line (n + actual_own t.actual) ts) (actual_fits line n t.actual) (ties_fit line (n + actual_own t.actual) ts)

-- ---- modules

entry_fits : (n : ℕ) (e : Entry) → IsFitEntry e → Fit (entry_covers n e)
entry_fits n (listed x) h = All-nil IsCoverLine
entry_fits n (directed l d x) h = All-nil IsCoverLine
entry_fits n (assigned l x f) h = with_outer l n f x (operand_covers l n f) (operands_fit l n f)
entry_fits n (gate l k os fs) h = gate_fits l n k os fs h
entry_fits n (instance l m ts) h = ties_fit l n ts

covers_fit : (n : ℕ) (es : List Entry) → AreFit es → Fit (covers_in n es)
covers_fit n [] h = All-nil IsCoverLine
covers_fit n (e ∷ es) h =
    joined (entry_covers n e) (covers_in (n + entry_own e) es) (entry_fits n e (All-head IsFitEntry e es h)) (covers_fit (n + entry_own e) es (All-tail IsFitEntry e es h))

-- the model of a module whose gates have few inputs
pub model_fits : (m : Module) → AreFit m.entries → IsModel (model_of m)
model_fits m h = record {
  inputs = apart_of Inputs;
  clocks = apart [] tt;
  outputs = apart_of Outputs;
  input_lines = lines_of Inputs;
  clock_lines = refl;
  output_lines = lines_of Outputs;
  covers = covers_fit 0 m.entries h;
  latches = All-nil (λ (l : LatchLine). l.init ≤ 3);
  exdc = All-nil IsCoverLine;
} where
  apart_of : (d : Direction) → AllApart bytes_eq (ports_by (given_in m.entries) d (ports_in m.entries))
  apart_of d =
      apart (ports_by (given_in m.entries) d (ports_in m.entries)) (kept_apart (λ n. is_of d (given_in m.entries n)) (ports_in m.entries) (once_apart (flat_map listed_name m.entries)))

  lines_of : (d : Direction) → length (lines_by (given_in m.entries) d (ports_in m.entries)) ≡ length (ports_by (given_in m.entries) d (ports_in m.entries))
  lines_of d = length-map (ports_by (given_in m.entries) d (ports_in m.entries)) (λ n. line_of (given_in m.entries n))
