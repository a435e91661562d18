-- A text of modules read token by token: where it stands in the grammar behind each.
use Rattle.std.specs.Prelude.{◌≡◌, ℕ, List, [], ◌∷◌, ◌++◌, Bool, true, false, if◌then◌else◌, map, Option, Some, None, option_map}
use Rattle.verilog_expression.specs.Grammar.{Formula}
use Rattle.verilog_expression.specs.Kept.{is_inside}
use Rattle.verilog_expression.specs.Readings.{Reading, ended, start, taken}
use Rattle.verilog_source.specs.Grammar.{IsSource, has_one_input, named, port_entries}
use Rattle.verilog_source.specs.Modules.{Actual, Entry, Module, PortTie}
use Rattle.verilog_source.specs.declared.position.Direction.{Direction}
use Rattle.verilog_source.specs.Modules.Actual.{to_net, to_constant}
use Rattle.verilog_source.specs.declared.position.Direction.TheVariants.{Inputs, Outputs}
use Rattle.verilog_source.specs.Modules.Entry.{listed, directed, assigned, gate, instance}
use Rattle.verilog_tokens.specs.Signs.{Part, Sign, Token}
use Rattle.verilog_tokens.specs.Signs.Part.{Name, Bit, Opening, Closing}
use Rattle.verilog_tokens.specs.Signs.Sign.{Of, Comma, Semicolon, Dot, Equals, Module as ModuleSign, EndModule, Input, Output, Wire, Assign, Gate}
use Rattle.verilog_tokens.specs.declared.token.GateKind.{GateKind}

-- the inputs of a gate that are read, and its outputs
pub record GateSoFar : Type 0 where
  pub line : ℕ
  pub kind : GateKind
  pub outputs : List (List ℕ)
  pub inputs : List Formula

-- the ties of an instance that are read
pub record InstanceSoFar : Type 0 where
  pub line : ℕ
  pub module_name : List ℕ
  pub ties : List PortTie

-- Places in the grammar. Each number is the line of the statement.
pub data Place : Type 0 where
  -- between modules, and within one between statements
  Outside : Place
  Body : Place
  -- behind `module`, behind its name, before a port, behind its direction, behind that and `wire`, behind the port, and behind the `)`
  ModuleWord : ℕ → Place
  ModuleName : ℕ → Place
  PortWanted : ℕ → Option Direction → Place
  PortDirection : ℕ → Direction → Place
  PortWire : ℕ → Direction → Place
  PortRead : ℕ → Option Direction → Place
  PortsRead : Place
  -- behind a direction, before a name and behind it
  DirectionWord : ℕ → Direction → Place
  NameWanted : ℕ → Option Direction → Place
  NameRead : ℕ → Option Direction → Place
  -- before the name of an assign, behind it, and in its expression
  TargetWanted : ℕ → Place
  TargetRead : ℕ → List ℕ → Place
  ValueOpen : ℕ → List ℕ → Reading → Place
  -- before a gate, behind its name, behind its `(`, behind its first output, before a further terminal, in it, and behind the `)`
  GateWanted : ℕ → GateKind → Place
  GateNamed : ℕ → GateKind → Place
  OutputWanted : ℕ → GateKind → Place
  OutputRead : ℕ → GateKind → List ℕ → Place
  TerminalWanted : GateSoFar → Place
  TerminalOpen : GateSoFar → Option (List ℕ) → Reading → Place
  GateRead : ℕ → GateKind → Place
  -- before an instance, behind its name, before a tie, in it, behind it, and behind the last `)`
  InstanceWanted : ℕ → List ℕ → Place
  InstanceNamed : ℕ → List ℕ → Place
  TieWanted : InstanceSoFar → Place
  TieDot : InstanceSoFar → Place
  TiePort : InstanceSoFar → List ℕ → Place
  TieOpen : InstanceSoFar → List ℕ → Place
  ActualRead : InstanceSoFar → List ℕ → Actual → Place
  TieRead : InstanceSoFar → Place
  InstanceRead : ℕ → List ℕ → Place

-- what a token tells: a module begins, it has an entry, it ends
pub data Event : Type 0 where
  begins : ℕ → List ℕ → Event
  has : Entry → Event
  ends : Event

-- where the text stands behind a token, and what the token tells
pub record Step : Type 0 where
  pub place : Place
  pub events : List Event

abbrev pub to : Place → Option Step
to place = Some (record { place = place; events = [] })

abbrev pub telling : List Event → Place → Option Step
telling events place = Some (record { place = place; events = events })

-- ---- modules

abbrev pub from_outside : ℕ → Sign → Option Step
from_outside line ModuleSign = to (ModuleWord line)
from_outside line s = None

abbrev pub from_body : ℕ → Sign → Option Step
from_body line EndModule = telling (ends ∷ []) Outside
from_body line Input = to (DirectionWord line Inputs)
from_body line Output = to (DirectionWord line Outputs)
from_body line Wire = to (NameWanted line None)
from_body line Assign = to (TargetWanted line)
from_body line (Gate kind) = to (GateWanted line kind)
from_body line (Of (Name m)) = to (InstanceWanted line m)
from_body line s = None

abbrev pub from_module_word : ℕ → Sign → Option Step
from_module_word line (Of (Name n)) = telling (begins line n ∷ []) (ModuleName line)
from_module_word line s = None

abbrev pub from_module_name : ℕ → Sign → Option Step
from_module_name line Semicolon = to Body
from_module_name line (Of Opening) = to (PortWanted line None)
from_module_name line s = None

abbrev pub port_read : ℕ → Option Direction → List ℕ → Option Step
port_read line d n = telling (map has (port_entries line d n)) (PortRead line d)

abbrev pub from_port_wanted : ℕ → Option Direction → Sign → Option Step
from_port_wanted line d (Of (Name n)) = port_read line d n
from_port_wanted line d Input = to (PortDirection line Inputs)
from_port_wanted line d Output = to (PortDirection line Outputs)
from_port_wanted line d s = None

abbrev pub from_port_direction : ℕ → Direction → Sign → Option Step
from_port_direction line e (Of (Name n)) = port_read line (Some e) n
from_port_direction line e Wire = to (PortWire line e)
from_port_direction line e s = None

abbrev pub from_port_wire : ℕ → Direction → Sign → Option Step
from_port_wire line e (Of (Name n)) = port_read line (Some e) n
from_port_wire line e s = None

abbrev pub from_port_read : ℕ → Option Direction → Sign → Option Step
from_port_read line d Comma = to (PortWanted line d)
from_port_read line d (Of Closing) = to PortsRead
from_port_read line d s = None

abbrev pub from_ports_read : Sign → Option Step
from_ports_read Semicolon = to Body
from_ports_read s = None

-- ---- names

abbrev pub name_read : ℕ → Option Direction → List ℕ → Option Step
name_read line d n = telling (map has (named line d n)) (NameRead line d)

abbrev pub from_direction_word : ℕ → Direction → Sign → Option Step
from_direction_word line e Wire = to (NameWanted line (Some e))
from_direction_word line e (Of (Name n)) = name_read line (Some e) n
from_direction_word line e s = None

abbrev pub from_name_wanted : ℕ → Option Direction → Sign → Option Step
from_name_wanted line d (Of (Name n)) = name_read line d n
from_name_wanted line d s = None

abbrev pub from_name_read : ℕ → Option Direction → Sign → Option Step
from_name_read line d Comma = to (NameWanted line d)
from_name_read line d Semicolon = to Body
from_name_read line d s = None

-- ---- assigns

abbrev pub from_target_wanted : ℕ → Sign → Option Step
from_target_wanted line (Of (Name n)) = to (TargetRead line n)
from_target_wanted line s = None

abbrev pub from_target_read : ℕ → List ℕ → Sign → Option Step
from_target_read line n Equals = to (ValueOpen line n start)
from_target_read line n s = None

-- an expression has ended, before this place
abbrev pub value_read : ℕ → List ℕ → Place → Option Formula → Option Step
value_read line n place None = None
value_read line n place (Some f) = telling (has (assigned line n f) ∷ []) place

abbrev pub from_value_open : ℕ → List ℕ → Reading → Sign → Option Step
from_value_open line n r (Of part) = option_map (λ next. record { place = ValueOpen line n next; events = [] }) (taken r part)
from_value_open line n r Comma = value_read line n (TargetWanted line) (ended r)
from_value_open line n r Semicolon = value_read line n Body (ended r)
from_value_open line n r s = None

-- ---- gates

abbrev pub from_gate_wanted : ℕ → GateKind → Sign → Option Step
from_gate_wanted line kind (Of (Name n)) = to (GateNamed line kind)
from_gate_wanted line kind (Of Opening) = to (OutputWanted line kind)
from_gate_wanted line kind s = None

abbrev pub from_gate_named : ℕ → GateKind → Sign → Option Step
from_gate_named line kind (Of Opening) = to (OutputWanted line kind)
from_gate_named line kind s = None

abbrev pub from_output_wanted : ℕ → GateKind → Sign → Option Step
from_output_wanted line kind (Of (Name o)) = to (OutputRead line kind o)
from_output_wanted line kind s = None

abbrev pub from_output_read : ℕ → GateKind → List ℕ → Sign → Option Step
from_output_read line kind o Comma = to (TerminalWanted (record { line = line; kind = kind; outputs = o ∷ []; inputs = [] }))
from_output_read line kind o s = None

-- a terminal that is so far a plain name
abbrev pub plain : Part → Option (List ℕ)
plain (Name n) = Some n
plain part = None

abbrev pub with_output : GateSoFar → List ℕ → GateSoFar
with_output g o = record { line = g.line; kind = g.kind; outputs = g.outputs ++ o ∷ []; inputs = g.inputs }

abbrev pub with_input : GateSoFar → Formula → GateSoFar
with_input g f = record { line = g.line; kind = g.kind; outputs = g.outputs; inputs = g.inputs ++ f ∷ [] }

abbrev pub in_terminal : GateSoFar → Option (List ℕ) → Option Reading → Option Step
in_terminal g n None = None
in_terminal g n (Some r) = to (TerminalOpen g n r)

abbrev pub from_terminal_wanted : GateSoFar → Sign → Option Step
from_terminal_wanted g (Of part) = in_terminal g (plain part) (taken start part)
from_terminal_wanted g s = None

-- the last terminal has ended
abbrev pub gate_read : GateSoFar → Option Formula → Option Step
gate_read g None = None
gate_read g (Some f) = telling (has (gate g.line g.kind g.outputs (g.inputs ++ f ∷ [])) ∷ []) (GateRead g.line g.kind)

-- a terminal before a comma: a further output is a plain name
abbrev pub output_read : GateSoFar → Option (List ℕ) → Option Step
output_read g None = None
output_read g (Some o) = to (TerminalWanted (with_output g o))

abbrev pub input_read : GateSoFar → Option Formula → Option Step
input_read g None = None
input_read g (Some f) = to (TerminalWanted (with_input g f))

abbrev pub from_terminal_open : GateSoFar → Option (List ℕ) → Reading → Sign → Option Step
from_terminal_open g n r (Of Closing) = if is_inside r then in_terminal g None (taken r Closing) else gate_read g (ended r)
from_terminal_open g n r (Of part) = in_terminal g None (taken r part)
from_terminal_open g n r Comma = if has_one_input g.kind then output_read g n else input_read g (ended r)
from_terminal_open g n r s = None

abbrev pub from_gate_read : ℕ → GateKind → Sign → Option Step
from_gate_read line kind Comma = to (GateWanted line kind)
from_gate_read line kind Semicolon = to Body
from_gate_read line kind s = None

-- ---- instances

abbrev pub from_instance_wanted : ℕ → List ℕ → Sign → Option Step
from_instance_wanted line m (Of (Name n)) = to (InstanceNamed line m)
from_instance_wanted line m s = None

abbrev pub from_instance_named : ℕ → List ℕ → Sign → Option Step
from_instance_named line m (Of Opening) = to (TieWanted (record { line = line; module_name = m; ties = [] }))
from_instance_named line m s = None

abbrev pub from_tie_wanted : InstanceSoFar → Sign → Option Step
from_tie_wanted i Dot = to (TieDot i)
from_tie_wanted i s = None

abbrev pub from_tie_dot : InstanceSoFar → Sign → Option Step
from_tie_dot i (Of (Name p)) = to (TiePort i p)
from_tie_dot i s = None

abbrev pub from_tie_port : InstanceSoFar → List ℕ → Sign → Option Step
from_tie_port i p (Of Opening) = to (TieOpen i p)
from_tie_port i p s = None

abbrev pub with_tie : InstanceSoFar → List ℕ → Option Actual → InstanceSoFar
with_tie i p a = record { line = i.line; module_name = i.module_name; ties = i.ties ++ record { port = p; actual = a } ∷ [] }

abbrev pub from_tie_open : InstanceSoFar → List ℕ → Sign → Option Step
from_tie_open i p (Of (Name n)) = to (ActualRead i p (to_net n))
from_tie_open i p (Of (Bit b)) = to (ActualRead i p (to_constant b))
from_tie_open i p (Of Closing) = to (TieRead (with_tie i p None))
from_tie_open i p s = None

abbrev pub from_actual_read : InstanceSoFar → List ℕ → Actual → Sign → Option Step
from_actual_read i p a (Of Closing) = to (TieRead (with_tie i p (Some a)))
from_actual_read i p a s = None

abbrev pub from_tie_read : InstanceSoFar → Sign → Option Step
from_tie_read i Comma = to (TieWanted i)
from_tie_read i (Of Closing) = telling (has (instance i.line i.module_name i.ties) ∷ []) (InstanceRead i.line i.module_name)
from_tie_read i s = None

abbrev pub from_instance_read : ℕ → List ℕ → Sign → Option Step
from_instance_read line m Comma = to (InstanceWanted line m)
from_instance_read line m Semicolon = to Body
from_instance_read line m s = None

-- ---- all places

-- the step that a token on a line takes, none where it cannot stand there
abbrev pub step : Place → ℕ → Sign → Option Step
step Outside line s = from_outside line s
step Body line s = from_body line s
step (ModuleWord l) line s = from_module_word l s
step (ModuleName l) line s = from_module_name l s
step (PortWanted l d) line s = from_port_wanted l d s
step (PortDirection l e) line s = from_port_direction l e s
step (PortWire l e) line s = from_port_wire l e s
step (PortRead l d) line s = from_port_read l d s
step PortsRead line s = from_ports_read s
step (DirectionWord l e) line s = from_direction_word l e s
step (NameWanted l d) line s = from_name_wanted l d s
step (NameRead l d) line s = from_name_read l d s
step (TargetWanted l) line s = from_target_wanted l s
step (TargetRead l n) line s = from_target_read l n s
step (ValueOpen l n r) line s = from_value_open l n r s
step (GateWanted l k) line s = from_gate_wanted l k s
step (GateNamed l k) line s = from_gate_named l k s
step (OutputWanted l k) line s = from_output_wanted l k s
step (OutputRead l k o) line s = from_output_read l k o s
step (TerminalWanted g) line s = from_terminal_wanted g s
step (TerminalOpen g n r) line s = from_terminal_open g n r s
step (GateRead l k) line s = from_gate_read l k s
step (InstanceWanted l m) line s = from_instance_wanted l m s
step (InstanceNamed l m) line s = from_instance_named l m s
step (TieWanted i) line s = from_tie_wanted i s
step (TieDot i) line s = from_tie_dot i s
step (TiePort i p) line s = from_tie_port i p s
step (TieOpen i p) line s = from_tie_open i p s
step (ActualRead i p a) line s = from_actual_read i p a s
step (TieRead i) line s = from_tie_read i s
step (InstanceRead l m) line s = from_instance_read l m s

-- ---- texts

-- the place behind tokens, none where one of them cannot stand there
abbrev pub reached : Option Place → List Token → Option Place
reached None tokens = None
reached (Some place) [] = Some place
reached (Some place) (t ∷ ts) = reached (option_map (λ (s : Step). s.place) (step place t.line t.sign)) ts

-- what tokens tell that lead out of all modules, none where they do not
abbrev pub at_end : Place → Option (List Event)
at_end Outside = Some []
at_end place = None

abbrev pub behind_step : (Place → Option (List Event)) → Option Step → Option (List Event)
behind_step onward None = None
behind_step onward (Some s) = option_map (λ later. s.events ++ later) (onward s.place)

abbrev pub events_from : List Token → Place → Option (List Event)
events_from [] place = at_end place
events_from (t ∷ ts) place = behind_step (events_from ts) (step place t.line t.sign)

-- what modules tell
abbrev pub events_of : List Module → List Event
events_of [] = []
events_of (m ∷ ms) = begins m.line m.name ∷ (map has m.entries ++ ends ∷ events_of ms)

-- tokens are a text of modules, and these are its events
pub record Tells (tokens : List Token) (events : List Event) : Type 0 where
  pub modules : List Module
  pub are : IsSource tokens modules
  pub is : events ≡ events_of modules
