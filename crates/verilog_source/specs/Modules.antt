-- What a text of modules says.
use Rattle.std.specs.Prelude.{ℕ, Bool, List, [], ◌∷◌, Option, Some, None}
use Rattle.verilog_expression.specs.Grammar.{Formula}
use Rattle.verilog_source.specs.declared.position.Direction.{Direction}
use Rattle.verilog_tokens.specs.declared.token.GateKind.{GateKind}

-- what a port of an instance is tied to
pub data Actual : Type 0 where
  to_net : List ℕ → Actual
  to_constant : Bool → Actual

-- a tie; a port may be tied to nothing
pub record PortTie : Type 0 where
  pub port : List ℕ
  pub actual : Option Actual

-- What a module has, each with the line of its statement: a port in its list, the direction of a name, a net with the
-- value of an expression, nets with the bit of a gate for its inputs, and an instance of a module.
pub data Entry : Type 0 where
  listed : List ℕ → Entry
  directed : ℕ → Direction → List ℕ → Entry
  assigned : ℕ → List ℕ → Formula → Entry
  gate : ℕ → GateKind → List (List ℕ) → List Formula → Entry
  instance : ℕ → List ℕ → List PortTie → Entry

-- a module, on the line of its first token, with its entries in their order
pub record Module : Type 0 where
  pub line : ℕ
  pub name : List ℕ
  pub entries : List Entry
