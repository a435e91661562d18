-- The bits of the signals that the text does not name, in their order.
use Rattle.std.proofs.Common.{◌≡◌, ℕ, ◌+◌, ◌-◌, Bool, List, [], ◌∷◌, ◌++◌, map, length, Option, Some, None, refl, ap, sym, ◌∙◌, arith}
use Rattle.std.proofs.lemmas.List.{length-append, length-map}
use Rattle.verilog_expression.specs.Grammar.{Formula}
use Rattle.verilog_expression.specs.Grammar.Formula.{a_net, a_constant, negation, conjunction, parity, disjunction, choice}
use Rattle.verilog_meaning.specs.Meaning.{differ, value_of}
use Rattle.verilog_models.specs.Covers.{all_own, own, own_inside, own_name}
use Rattle.verilog_models.specs.Gates.{actual_own, actual_value, gate_own, links, ties_own}
use Rattle.verilog_models.specs.Models.{entry_own, own_in}
use Rattle.verilog_source.specs.Modules.{Actual, Entry, PortTie}
use Rattle.verilog_source.specs.Modules.Entry.{listed, directed, assigned, gate, instance}
use Rattle.verilog_tokens.specs.declared.token.GateKind.{GateKind}
use Rattle.verilog_tokens.specs.declared.token.GateKind.TheVariants as G
use Rattle.vrt_model.specs.Lists.{At}
use Rattle.vrt_model.proofs.Lists.{at_back, at_front, at_last}

-- ---- expressions

abbrev pub own_bits : (List ℕ → Bool) → Formula → List Bool
own_bits bits (a_net x) = []
own_bits bits (a_constant b) = b ∷ []
own_bits bits (negation f) = own_bits bits f ++ value_of bits (negation f) ∷ []
own_bits bits (conjunction f g) = own_bits bits f ++ own_bits bits g ++ value_of bits (conjunction f g) ∷ []
own_bits bits (parity f g) = own_bits bits f ++ own_bits bits g ++ value_of bits (parity f g) ∷ []
own_bits bits (disjunction f g) = own_bits bits f ++ own_bits bits g ++ value_of bits (disjunction f g) ∷ []
own_bits bits (choice c f g) = own_bits bits c ++ own_bits bits f ++ own_bits bits g ++ value_of bits (choice c f g) ∷ []

-- those of the operands
abbrev pub inside_bits : (List ℕ → Bool) → Formula → List Bool
inside_bits bits (a_net x) = []
inside_bits bits (a_constant b) = []
inside_bits bits (negation f) = own_bits bits f
inside_bits bits (conjunction f g) = own_bits bits f ++ own_bits bits g
inside_bits bits (parity f g) = own_bits bits f ++ own_bits bits g
inside_bits bits (disjunction f g) = own_bits bits f ++ own_bits bits g
inside_bits bits (choice c f g) = own_bits bits c ++ own_bits bits f ++ own_bits bits g

abbrev pub all_bits : (List ℕ → Bool) → List Formula → List Bool
all_bits bits [] = []
all_bits bits (f ∷ fs) = own_bits bits f ++ all_bits bits fs

-- ---- gates

-- the links of a chain but the last
abbrev pub chain_bits : Bool → List Bool → List Bool
chain_bits left [] = []
chain_bits left (right ∷ []) = []
chain_bits left (right ∷ next ∷ more) = differ left right ∷ chain_bits (differ left right) (next ∷ more)

abbrev pub parity_bits : List Bool → List Bool
parity_bits [] = []
parity_bits (first ∷ rest) = chain_bits first rest

abbrev pub link_bits : GateKind → List Bool → List Bool
link_bits G.And bits = []
link_bits G.Nand bits = []
link_bits G.Or bits = []
link_bits G.Nor bits = []
link_bits G.Xor bits = parity_bits bits
link_bits G.Xnor bits = parity_bits bits
link_bits G.Buf bits = []
link_bits G.Not bits = []

abbrev pub gate_bits : (List ℕ → Bool) → GateKind → List Formula → List Bool
gate_bits bits kind fs = all_bits bits fs ++ link_bits kind (map (value_of bits) fs)

-- ---- entries

abbrev pub actual_bits : (List ℕ → Bool) → Option Actual → List Bool
actual_bits bits None = []
actual_bits bits (Some a) = own_bits bits (actual_value a)

abbrev pub ties_bits : (List ℕ → Bool) → List PortTie → List Bool
ties_bits bits [] = []
ties_bits bits (t ∷ ts) = actual_bits bits t.actual ++ ties_bits bits ts

abbrev pub entry_bits : (List ℕ → Bool) → Entry → List Bool
entry_bits bits (listed n) = []
entry_bits bits (directed l d n) = []
entry_bits bits (assigned l n f) = inside_bits bits f
entry_bits bits (gate l kind os fs) = gate_bits bits kind fs
entry_bits bits (instance l m ts) = ties_bits bits ts

abbrev pub entries_bits : (List ℕ → Bool) → List Entry → List Bool
entries_bits bits [] = []
entries_bits bits (e ∷ es) = entry_bits bits e ++ entries_bits bits es

-- ---- as many as there are signals

two_long : (xs ys : List Bool) (m n : ℕ) → length xs ≡ m → length ys ≡ n → length (xs ++ ys) ≡ m + n
two_long xs ys m n p q = let e = length-append xs ys in omega (arith, e, p, q)

with_last : (xs : List Bool) (b : Bool) (m : ℕ) → length xs ≡ m → length (xs ++ b ∷ []) ≡ m + 1
with_last xs b m p = let e = length-append xs (b ∷ []) in omega (arith, e, p)

pub own_long : (bits : List ℕ → Bool) (f : Formula) → length (own_bits bits f) ≡ own f
own_long bits (a_net x) = refl
own_long bits (a_constant b) = refl
own_long bits (negation f) = with_last (own_bits bits f) (value_of bits (negation f)) (own f) (own_long bits f)
own_long bits (conjunction f g) =
    with_last (own_bits bits f ++ own_bits bits g) (value_of bits (conjunction f g)) (own f + own g) (two_long (own_bits bits f) (own_bits bits g) (own f) (own g) (own_long bits f) (own_long bits g))
own_long bits (parity f g) =
    with_last (own_bits bits f ++ own_bits bits g) (value_of bits (parity f g)) (own f + own g) (two_long (own_bits bits f) (own_bits bits g) (own f) (own g) (own_long bits f) (own_long bits g))
own_long bits (disjunction f g) =
    with_last (own_bits bits f ++ own_bits bits g) (value_of bits (disjunction f g)) (own f + own g) (two_long (own_bits bits f) (own_bits bits g) (own f) (own g) (own_long bits f) (own_long bits g))
own_long bits (choice c f g) =
    with_last (own_bits bits c ++ own_bits bits f ++ own_bits bits g) (value_of bits (choice c f g)) (own c + own f + own g)
    (two_long (own_bits bits c ++ own_bits bits f) (own_bits bits g) (own c + own f) (own g) (two_long (own_bits bits c) (own_bits bits f) (own c) (own f) (own_long bits c) (own_long bits f)) (own_long bits g))

pub inside_long : (bits : List ℕ → Bool) (f : Formula) → length (inside_bits bits f) ≡ own_inside f
inside_long bits (a_net x) = refl
inside_long bits (a_constant b) = refl
inside_long bits (negation f) = own_long bits f
inside_long bits (conjunction f g) = two_long (own_bits bits f) (own_bits bits g) (own f) (own g) (own_long bits f) (own_long bits g)
inside_long bits (parity f g) = two_long (own_bits bits f) (own_bits bits g) (own f) (own g) (own_long bits f) (own_long bits g)
inside_long bits (disjunction f g) = two_long (own_bits bits f) (own_bits bits g) (own f) (own g) (own_long bits f) (own_long bits g)
inside_long bits (choice c f g) =
    two_long (own_bits bits c ++ own_bits bits f) (own_bits bits g) (own c + own f) (own g) (two_long (own_bits bits c) (own_bits bits f) (own c) (own f) (own_long bits c) (own_long bits f)) (own_long bits g)

pub all_long : (bits : List ℕ → Bool) (fs : List Formula) → length (all_bits bits fs) ≡ all_own fs
all_long bits [] = refl
all_long bits (f ∷ fs) = two_long (own_bits bits f) (all_bits bits fs) (own f) (all_own fs) (own_long bits f) (all_long bits fs)

chain_long : (left : Bool) (rest : List Bool) → length (chain_bits left rest) ≡ length rest - 1
chain_long left [] = omega arith
chain_long left (right ∷ []) = omega arith
chain_long left (right ∷ next ∷ more) = let e = chain_long (differ left right) (next ∷ more) in omega (arith, e)

parity_long : (bits : List Bool) → length (parity_bits bits) ≡ length bits - 2
parity_long [] = omega arith
parity_long (first ∷ rest) = let e = chain_long first rest in omega (arith, e)

link_long : (kind : GateKind) (bits : List Bool) → length (link_bits kind bits) ≡ links kind (length bits)
link_long G.And bits = refl
link_long G.Nand bits = refl
link_long G.Or bits = refl
link_long G.Nor bits = refl
link_long G.Xor bits = parity_long bits
link_long G.Xnor bits = parity_long bits
link_long G.Buf bits = refl
link_long G.Not bits = refl

gate_long : (bits : List ℕ → Bool) (kind : GateKind) (fs : List Formula) → length (gate_bits bits kind fs) ≡ gate_own kind fs
gate_long bits kind fs =
    two_long (all_bits bits fs) (link_bits kind (map (value_of bits) fs)) (all_own fs) (links kind (length fs)) (all_long bits fs)
    (link_long kind (map (value_of bits) fs) ∙ ap (links kind) (length-map fs (value_of bits)))

pub actual_long : (bits : List ℕ → Bool) (a : Option Actual) → length (actual_bits bits a) ≡ actual_own a
actual_long bits None = refl
actual_long bits (Some a) = own_long bits (actual_value a)

ties_long : (bits : List ℕ → Bool) (ts : List PortTie) → length (ties_bits bits ts) ≡ ties_own ts
ties_long bits [] = refl
ties_long bits (t ∷ ts) = two_long (actual_bits bits t.actual) (ties_bits bits ts) (actual_own t.actual) (ties_own ts) (actual_long bits t.actual) (ties_long bits ts)

pub entry_long : (bits : List ℕ → Bool) (e : Entry) → length (entry_bits bits e) ≡ entry_own e
entry_long bits (listed n) = refl
entry_long bits (directed l d n) = refl
entry_long bits (assigned l n f) = inside_long bits f
entry_long bits (gate l kind os fs) = gate_long bits kind fs
entry_long bits (instance l m ts) = ties_long bits ts

pub entries_long : (bits : List ℕ → Bool) (es : List Entry) → length (entries_bits bits es) ≡ own_in es
entries_long bits [] = refl
entries_long bits (e ∷ es) = two_long (entry_bits bits e) (entries_bits bits es) (entry_own e) (own_in es) (entry_long bits e) (entries_long bits es)

-- ---- signals with these bits

-- own signals from a number on have these bits
abbrev pub HaveOwn : (List ℕ → Bool) → ℕ → List Bool → Type 0
HaveOwn values n bits = (j : ℕ) (b : Bool) → At bits j b → values (own_name (n + j)) ≡ b

pub own_left : (values : List ℕ → Bool) (n : ℕ) (xs ys : List Bool) → HaveOwn values n (xs ++ ys) → HaveOwn values n xs
own_left values n xs ys h j b e = h j b (at_front xs ys j b e)

pub own_right : (values : List ℕ → Bool) (n m : ℕ) (xs ys : List Bool) → length xs ≡ m → HaveOwn values n (xs ++ ys) → HaveOwn values (n + m) ys
own_right values n m xs ys long h j b e = ap (λ k. values (own_name k)) (place n m j (length xs) long) ∙ h (length xs + j) b (at_back xs ys j b e) where
  place : (n m j k : ℕ) → k ≡ m → n + m + j ≡ n + (k + j)
  place n m j k e = omega (arith, e)

pub own_last : (values : List ℕ → Bool) (n m : ℕ) (xs : List Bool) (b : Bool) → length xs ≡ m → HaveOwn values n (xs ++ b ∷ []) → values (own_name (n + m)) ≡ b
own_last values n m xs b long h = ap (λ k. values (own_name (n + k))) (sym long) ∙ h (length xs) b (at_last xs b)
