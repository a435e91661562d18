-- The forms of a text of modules.
use Rattle.std.specs.Prelude.{◌≡◌, ℕ, List, [], ◌∷◌, ◌++◌, Bool, true, false, map, flat_map, Option, Some, None}
use Rattle.verilog_expression.specs.Grammar.{Formula, IsExpression}
use Rattle.verilog_source.specs.Modules.{Actual, Entry, Module, PortTie}
use Rattle.verilog_source.specs.declared.position.Direction.{Direction}
use Rattle.verilog_source.specs.Modules.Actual.{to_net, to_constant}
use Rattle.verilog_source.specs.declared.position.Direction.TheVariants.{Inputs, Outputs}
use Rattle.verilog_source.specs.Modules.Entry.{listed, directed, assigned, gate, instance}
use Rattle.verilog_tokens.specs.Signs.{Part, Sign, Token}
use Rattle.verilog_tokens.specs.Signs.Part.{Name, Bit, Opening, Closing}
use Rattle.verilog_tokens.specs.Signs.Sign.{Of, Comma, Semicolon, Dot, Equals, Module as ModuleSign, EndModule, Input, Output, Wire, Assign, Gate}
use Rattle.verilog_tokens.specs.declared.token.GateKind.{GateKind}
use Rattle.verilog_tokens.specs.declared.token.GateKind.TheVariants.{And, Nand, Or, Nor, Xor, Xnor, Buf, Not}

-- ---- signs

abbrev pub name : List ℕ → Sign
name n = Of (Name n)

abbrev pub opening : Sign
opening = Of Opening

abbrev pub closing : Sign
closing = Of Closing

abbrev pub direction_sign : Direction → Sign
direction_sign Inputs = Input
direction_sign Outputs = Output

abbrev pub actual_sign : Actual → Sign
actual_sign (to_net n) = name n
actual_sign (to_constant b) = Of (Bit b)

-- ---- lists

-- items of a form, with a comma between two, and a sign behind the last
pub data Lists {X : Type 0} (Form : List Sign → X → Type 0) (end : Sign) : List Sign → List X → Type 0 where
  last : {ss : List Sign} {x : X} → Form ss x → Lists Form end (ss ++ end ∷ []) (x ∷ [])
  more : {ss ts : List Sign} {x : X} {xs : List X} → Form ss x → Lists Form end ts xs → Lists Form end (ss ++ Comma ∷ ts) (x ∷ xs)

-- ---- items

-- N
pub data IsName : List Sign → List ℕ → Type 0 where
  a_name : {n : List ℕ} → IsName (name n ∷ []) n

-- EXPR
pub data IsFormula : List Sign → Formula → Type 0 where
  spelled : {ps : List Part} {f : Formula} → IsExpression ps f → IsFormula (map Of ps) f

-- N = EXPR
pub data IsAssign : List Sign → List ℕ × Formula → Type 0 where
  an_assign : {n : List ℕ} {ss : List Sign} {f : Formula} → IsFormula ss f → IsAssign (name n ∷ Equals ∷ ss) (n, f)

-- `buf` and `not` have one input, the others one output
abbrev pub has_one_input : GateKind → Bool
has_one_input Buf = true
has_one_input Not = true
has_one_input And = false
has_one_input Nand = false
has_one_input Or = false
has_one_input Nor = false
has_one_input Xor = false
has_one_input Xnor = false

-- the terminals behind the first output, with the `)`: further outputs and the inputs
pub data IsTerminals (kind : GateKind) : List Sign → List (List ℕ) → List Formula → Type 0 where
  inputs : {ss : List Sign} {fs : List Formula} → has_one_input kind ≡ false → Lists IsFormula closing ss fs → IsTerminals kind ss [] fs
  input : {ss : List Sign} {f : Formula} → has_one_input kind ≡ true → IsFormula ss f → IsTerminals kind (ss ++ closing ∷ []) [] (f ∷ [])
  output :
      {o : List ℕ} {ss : List Sign} {os : List (List ℕ)} {fs : List Formula} → has_one_input kind ≡ true → IsTerminals kind ss os fs
      → IsTerminals kind (name o ∷ Comma ∷ ss) (o ∷ os) fs

-- a name, or none
pub data IsLabel : List Sign → Type 0 where
  no_label : IsLabel []
  a_label : {n : List ℕ} → IsLabel (name n ∷ [])

-- [NAME] (OUT, .., EXPR, ..)
pub data IsGate (kind : GateKind) : List Sign → List (List ℕ) × List Formula → Type 0 where
  a_gate :
      {ls ss : List Sign} {o : List ℕ} {os : List (List ℕ)} {fs : List Formula} → IsLabel ls → IsTerminals kind ss os fs
      → IsGate kind (ls ++ opening ∷ name o ∷ Comma ∷ ss) (o ∷ os, fs)

-- .P(A) or .P()
pub data IsTie : List Sign → PortTie → Type 0 where
  a_tie : {p : List ℕ} {a : Actual} → IsTie (Dot ∷ name p ∷ opening ∷ actual_sign a ∷ closing ∷ []) (record { port = p; actual = Some a })
  no_tie : {p : List ℕ} → IsTie (Dot ∷ name p ∷ opening ∷ closing ∷ []) (record { port = p; actual = None })

-- NAME (.P(A), ..)
pub data IsInstance : List Sign → List PortTie → Type 0 where
  an_instance : {n : List ℕ} {ss : List Sign} {ts : List PortTie} → Lists IsTie closing ss ts → IsInstance (name n ∷ opening ∷ ss) ts

-- `wire`, or nothing
pub data IsWire : List Sign → Type 0 where
  no_wire : IsWire []
  a_wire : IsWire (Wire ∷ [])

-- ---- statements

-- the entry of a name in a list of names with a direction; a wire has none
abbrev pub named : ℕ → Option Direction → List ℕ → List Entry
named line None n = []
named line (Some d) n = directed line d n ∷ []

-- a statement whose first token is on a line, and its entries
pub data IsStatement (line : ℕ) : List Sign → List Entry → Type 0 where
  directions :
      (d : Direction) {ws ss : List Sign} {ns : List (List ℕ)} → IsWire ws → Lists IsName Semicolon ss ns
      → IsStatement line (direction_sign d ∷ (ws ++ ss)) (flat_map (named line (Some d)) ns)
  wires : {ss : List Sign} {ns : List (List ℕ)} → Lists IsName Semicolon ss ns → IsStatement line (Wire ∷ ss) (flat_map (named line None) ns)
  assigns :
      {ss : List Sign} {xs : List (List ℕ × Formula)} → Lists IsAssign Semicolon ss xs
      → IsStatement line (Assign ∷ ss) (map (λ (x : List ℕ × Formula). assigned line x.0 x.1) xs)
  gates :
      {kind : GateKind} {ss : List Sign} {xs : List (List (List ℕ) × List Formula)} → Lists (IsGate kind) Semicolon ss xs
      → IsStatement line (Gate kind ∷ ss) (map (λ (x : List (List ℕ) × List Formula). gate line kind x.0 x.1) xs)
  instances :
      {m : List ℕ} {ss : List Sign} {xs : List (List PortTie)} → Lists IsInstance Semicolon ss xs
      → IsStatement line (name m ∷ ss) (map (instance line m) xs)

-- ---- modules

-- a port of the list: the direction before it, its name, and the direction that holds on
pub data IsPort : Option Direction → List Sign → List ℕ → Option Direction → Type 0 where
  a_port : {d : Option Direction} {n : List ℕ} → IsPort d (name n ∷ []) n d
  with_direction : {d : Option Direction} {e : Direction} {ws : List Sign} {n : List ℕ} → IsWire ws → IsPort d (direction_sign e ∷ (ws ++ name n ∷ [])) n (Some e)

abbrev pub port_entries : ℕ → Option Direction → List ℕ → List Entry
port_entries line d n = listed n ∷ named line d n

-- ports behind a direction, with the `);`
pub data ArePorts (line : ℕ) : Option Direction → List Sign → List Entry → Type 0 where
  last_port :
      {d e : Option Direction} {ss : List Sign} {n : List ℕ} → IsPort d ss n e
      → ArePorts line d (ss ++ closing ∷ Semicolon ∷ []) (port_entries line e n)
  more_ports :
      {d e : Option Direction} {ss ts : List Sign} {n : List ℕ} {es : List Entry} → IsPort d ss n e → ArePorts line e ts es
      → ArePorts line d (ss ++ Comma ∷ ts) (port_entries line e n ++ es)

-- what is behind the name of a module
pub data IsPortList (line : ℕ) : List Sign → List Entry → Type 0 where
  no_ports : IsPortList line (Semicolon ∷ []) []
  ports : {ss : List Sign} {es : List Entry} → ArePorts line None ss es → IsPortList line (opening ∷ ss) es

abbrev pub signs : List Token → List Sign
signs tokens = map (λ (t : Token). t.sign) tokens

-- statements up to `endmodule`
pub data IsBody : List Token → List Entry → Type 0 where
  ends : {line : ℕ} → IsBody (record { line = line; sign = EndModule } ∷ []) []
  goes_on :
      (t : Token) (ts : List Token) {rest : List Token} {es fs : List Entry} → IsStatement t.line (signs (t ∷ ts)) es → IsBody rest fs
      → IsBody ((t ∷ ts) ++ rest) (es ++ fs)

-- modules, one behind the other
pub data IsSource : List Token → List Module → Type 0 where
  nothing : IsSource [] []
  a_module :
      {line named_on : ℕ} {n : List ℕ} (ts : List Token) {body rest : List Token} {es fs : List Entry} {ms : List Module} → IsPortList line (signs ts) es → IsBody body fs
      → IsSource rest ms
      → IsSource (record { line = line; sign = ModuleSign } ∷ record { line = named_on; sign = name n } ∷ (ts ++ (body ++ rest)))
      (record { line = line; name = n; entries = es ++ fs } ∷ ms)

-- a text of modules begins with these tokens
pub record Begins (tokens : List Token) : Type 0 where
  pub rest : List Token
  pub modules : List Module
  pub whole : IsSource (tokens ++ rest) modules
