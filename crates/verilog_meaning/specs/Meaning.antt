-- What modules mean: the bits of their nets, and of those of the instances in them. It goes by expressions and gates, and speaks of no
-- cover.
use Rattle.std.specs.Prelude.{◌≡◌, ℕ, Bool, true, false, not, ◌&&◌, ◌||◌, cond, List, [], ◌∷◌, ◌++◌, map, flat_map, find, bytes_eq, Option, Some, None}
use Rattle.std.specs.List.{list_all, list_any}
use Rattle.verilog_expression.specs.Grammar.{Formula}
use Rattle.verilog_expression.specs.Grammar.Formula.{a_net, a_constant, negation, conjunction, parity, disjunction, choice}
use Rattle.verilog_source.specs.Modules.{Actual, Entry, Module, PortTie}
use Rattle.verilog_source.specs.Modules.Actual.{to_net, to_constant}
use Rattle.verilog_source.specs.Modules.Entry.{listed, directed, assigned, gate, instance}
use Rattle.verilog_tokens.specs.declared.token.GateKind.{GateKind}
use Rattle.verilog_tokens.specs.declared.token.GateKind.TheVariants.{And, Nand, Or, Nor, Xor, Xnor, Buf, Not}
use Rattle.vrt_model.specs.Lists.{Among, At}

-- 1 where two bits differ
abbrev pub differ : Bool → Bool → Bool
differ true b = not b
differ false b = b

-- the bit of an expression at bits of nets
abbrev pub value_of : (List ℕ → Bool) → Formula → Bool
value_of bits (a_net n) = bits n
value_of bits (a_constant b) = b
value_of bits (negation f) = not (value_of bits f)
value_of bits (conjunction f g) = value_of bits f && value_of bits g
value_of bits (parity f g) = differ (value_of bits f) (value_of bits g)
value_of bits (disjunction f g) = value_of bits f || value_of bits g
value_of bits (choice c f g) = cond (value_of bits c) (value_of bits f) (value_of bits g)

-- 1 where an odd number is 1
abbrev pub is_odd : List Bool → Bool
is_odd [] = false
is_odd (b ∷ bs) = differ b (is_odd bs)

-- the bit that a gate gives for the bits of its inputs; `buf` and `not` have one
abbrev pub gate_bit : GateKind → List Bool → Bool
gate_bit And bits = list_all (λ b. b) bits
gate_bit Nand bits = not (list_all (λ b. b) bits)
gate_bit Or bits = list_any (λ b. b) bits
gate_bit Nor bits = not (list_any (λ b. b) bits)
gate_bit Xor bits = is_odd bits
gate_bit Xnor bits = not (is_odd bits)
gate_bit Buf bits = is_odd bits
gate_bit Not bits = not (is_odd bits)

-- the bit of what a port is tied to
abbrev pub actual_bit : (List ℕ → Bool) → Actual → Bool
actual_bit bits (to_net n) = bits n
actual_bit bits (to_constant b) = b

-- What an entry of a module says of the bits of its nets: an assigned name has the value of its expression, and each
-- output of a gate the function of its inputs.
abbrev pub Holds : (List ℕ → Bool) → Entry → Type 0
Holds bits (listed n) = Unit {0}
Holds bits (directed l d n) = Unit {0}
Holds bits (assigned l n f) = bits n ≡ value_of bits f
Holds bits (gate l kind os fs) = (o : List ℕ) → Among os o → bits o ≡ gate_bit kind (map (value_of bits) fs)
Holds bits (instance l m ts) = Unit {0}

-- ---- instances

-- an instance: the name of its module, and its ties
pub record Instance : Type 0 where
  pub module_name : List ℕ
  pub ties : List PortTie

abbrev pub instance_in : Entry → List Instance
instance_in (listed n) = []
instance_in (directed l d n) = []
instance_in (assigned l n f) = []
instance_in (gate l kind os fs) = []
instance_in (instance l m ts) = record { module_name = m; ties = ts } ∷ []

-- the instances of a module, in their order
abbrev pub instances_in : List Entry → List Instance
instances_in entries = flat_map instance_in entries

-- the module of a name
abbrev pub module_named : List Module → List ℕ → Option Module
module_named modules name = find (λ (m : Module). bytes_eq m.name name) modules

-- A module stands in another one, at the path of the numbers of the instances that lead to it.
pub data StandsAt (modules : List Module) : Module → List ℕ → Module → Type 0 where
  itself : {m : Module} → StandsAt modules m [] m
  inside :
      {m inner last : Module} {path : List ℕ} (k : ℕ) (i : Instance) → At (instances_in m.entries) k i → module_named modules i.module_name ≡ Some inner → StandsAt modules inner path last
      → StandsAt modules m (k ∷ path) last

-- a tied port is the net or constant that it is tied to
abbrev pub IsTied : (List ℕ → Bool) → Bool → Option Actual → Type 0
IsTied around bit None = Unit {0}
IsTied around bit (Some a) = bit ≡ actual_bit around a

-- A bit for each net of a module, and of each instance in it by its path: in each of these modules the entries hold, and each tied
-- port of an instance is what it is tied to.
pub record IsMeaning (modules : List Module) (top : Module) (bits : List ℕ → List ℕ → Bool) : Type 0 where
  pub entries : (path : List ℕ) (m : Module) → StandsAt modules top path m → (e : Entry) → Among m.entries e → Holds (bits path) e
  pub ties :
      (path : List ℕ) (m : Module) → StandsAt modules top path m → (k : ℕ) (i : Instance) → At (instances_in m.entries) k i → (t : PortTie) → Among i.ties t
      → IsTied (bits path) (bits (path ++ k ∷ []) t.port) t.actual
