-- What a step tells of modules and gates, place by place.
use Rattle.std.proofs.Common.{◌≡◌, ◌≤◌, ℕ, ◌+◌, ◌++◌, ◌∷◌, ◌&&◌, [], List, Bool, true, false, nat_le, length, map, All, cond, Option, Some, None, option_map, refl, ap, sym, ◌∙◌, arith}
use Rattle.std.specs.Prelude.{option_to_list}
use Rattle.std.proofs.lemmas.Bool.Decides.{nat_tests}
use Rattle.std.proofs.lemmas.List.{length-append}
use Rattle.std.proofs.lemmas.List.Elements.{All-cons, All-nil}
use Rattle.gate_verilog.proofs.Kept.{HasRoom, IsFitEvent, IsRoomy, names_told}
use Rattle.verilog_expression.specs.Grammar.{Formula}
use Rattle.verilog_expression.specs.Kept.{is_inside}
use Rattle.verilog_expression.specs.Readings.{Reading, ended, start, taken}
use Rattle.verilog_models.specs.Fits.{HasFewInputs}
use Rattle.verilog_source.specs.Grammar.{has_one_input, named, port_entries}
use Rattle.verilog_source.specs.Modules.{Actual}
use Rattle.verilog_source.specs.Modules.Entry.{listed, directed, assigned, gate, instance}
use Rattle.verilog_source.specs.Places.{Event, GateSoFar, InstanceSoFar, Place, Step, from_actual_read, from_body, from_direction_word, from_gate_named, from_gate_read, from_gate_wanted, from_instance_named, from_instance_read, from_instance_wanted, from_module_name, from_module_word, from_name_read, from_name_wanted, from_output_read, from_output_wanted, from_outside, from_port_direction, from_port_read, from_port_wanted, from_port_wire, from_ports_read, from_target_read, from_target_wanted, from_terminal_open, from_terminal_wanted, from_tie_dot, from_tie_open, from_tie_port, from_tie_read, from_tie_wanted, from_value_open, gate_read, in_terminal, input_read, output_read, plain, port_read, name_read, step, telling, to, value_read, with_tie}
use Rattle.verilog_source.specs.Places.Event.{begins, has, ends}
use Rattle.verilog_source.specs.Places.Place.{Outside, Body, ModuleWord, ModuleName, PortWanted, PortDirection, PortWire, PortRead, PortsRead, DirectionWord, NameWanted, NameRead, TargetWanted, TargetRead, ValueOpen, GateWanted, GateNamed, OutputWanted, OutputRead, TerminalWanted, TerminalOpen, GateRead, InstanceWanted, InstanceNamed, TieWanted, TieDot, TiePort, TieOpen, ActualRead, TieRead, InstanceRead}
use Rattle.verilog_source.specs.Modules.Actual.{to_net, to_constant}
use Rattle.verilog_source.specs.Refused.{is_full, is_limited, module_name}
use Rattle.verilog_source.specs.declared.position.Direction.{Direction}
use Rattle.verilog_source.specs.declared.position.Direction.TheVariants.{Inputs, Outputs}
use Rattle.verilog_tokens.specs.Signs.{Part, Sign}
use Rattle.verilog_tokens.specs.Signs.Part.{Name, Bit, Opening, Closing}
use Rattle.verilog_tokens.specs.Signs.Sign.{Of, Comma, Semicolon, Dot, Equals, Module as ModuleSign, EndModule, Input, Output, Wire, Assign, Gate}
use Rattle.verilog_tokens.specs.declared.token.GateKind.{GateKind}

-- A step begins the module whose name the token is, and no other. Where the open gate has room and is not full, it has room
-- behind the step, and the gate that the step ends has few inputs.
pub record IsFine (p : Place) (s : Sign) (st : Step) : Type 0 where
  pub names : names_told st.events ≡ option_to_list (module_name p s)
  pub room : IsRoomy p → is_full p ≡ false → IsRoomy st.place
  pub fit : IsRoomy p → All IsFitEvent st.events

abbrev pub Fine : Place → Sign → Option Step → Type 0
Fine p s None = Unit {0}
Fine p s (Some st) = IsFine p s st

-- ---- steps that tell nothing of these

quiet : (p q : Place) (s : Sign) → module_name p s ≡ None → IsRoomy q → Fine p s (to q)
quiet p q s unnamed room = record { names = sym (ap option_to_list unnamed); room = λ r full. room; fit = λ r. All-nil IsFitEvent }

tells : (p q : Place) (s : Sign) (es : List Event) → module_name p s ≡ None → names_told es ≡ [] → All IsFitEvent es → IsRoomy q → Fine p s (telling es q)
tells p q s es unnamed names fit room = record { names = names ∙ sym (ap option_to_list unnamed); room = λ r full. room; fit = λ r. fit }

one_event : (e : Event) → IsFitEvent e → All IsFitEvent (e ∷ [])
one_event e fit = All-cons IsFitEvent e [] fit (All-nil IsFitEvent)

named_fit : (l : ℕ) (d : Option Direction) (n : List ℕ) → All IsFitEvent (map has (named l d n))
named_fit l None n = All-nil IsFitEvent
named_fit l (Some d) n = one_event (has (directed l d n)) tt

named_none : (l : ℕ) (d : Option Direction) (n : List ℕ) → names_told (map has (named l d n)) ≡ []
named_none l None n = refl
named_none l (Some d) n = refl

port_fine : (p : Place) (s : Sign) (l : ℕ) (d : Option Direction) (n : List ℕ) → module_name p s ≡ None → Fine p s (port_read l d n)
port_fine p s l d n unnamed = tells p (PortRead l d) s (map has (port_entries l d n)) unnamed (named_none l d n) (All-cons IsFitEvent (has (listed n)) (map has (named l d n)) tt (named_fit l d n)) tt

name_fine : (p : Place) (s : Sign) (l : ℕ) (d : Option Direction) (n : List ℕ) → module_name p s ≡ None → Fine p s (name_read l d n)
name_fine p s l d n unnamed = tells p (NameRead l d) s (map has (named l d n)) unnamed (named_none l d n) (named_fit l d n) tt

-- ---- modules

fine_outside : (line : ℕ) (s : Sign) → Fine Outside s (from_outside line s)
fine_outside line ModuleSign = quiet Outside (ModuleWord line) ModuleSign refl tt
fine_outside line _ = tt

fine_body : (line : ℕ) (s : Sign) → Fine Body s (from_body line s)
fine_body line EndModule = tells Body Outside EndModule (ends ∷ []) refl refl (one_event ends tt) tt
fine_body line Input = quiet Body (DirectionWord line Inputs) Input refl tt
fine_body line Output = quiet Body (DirectionWord line Outputs) Output refl tt
fine_body line Wire = quiet Body (NameWanted line None) Wire refl tt
fine_body line Assign = quiet Body (TargetWanted line) Assign refl tt
fine_body line (Gate kind) = quiet Body (GateWanted line kind) (Gate kind) refl tt
fine_body line (Of (Name m)) = quiet Body (InstanceWanted line m) (Of (Name m)) refl tt
fine_body line _ = tt

fine_module_word : (l : ℕ) (s : Sign) → Fine (ModuleWord l) s (from_module_word l s)
fine_module_word l (Of (Name n)) = record { names = refl; room = λ r full. tt; fit = λ r. one_event (begins l n) tt }
fine_module_word l _ = tt

fine_module_name : (l : ℕ) (s : Sign) → Fine (ModuleName l) s (from_module_name l s)
fine_module_name l Semicolon = quiet (ModuleName l) Body Semicolon refl tt
fine_module_name l (Of Opening) = quiet (ModuleName l) (PortWanted l None) (Of Opening) refl tt
fine_module_name l _ = tt

fine_port_wanted : (l : ℕ) (d : Option Direction) (s : Sign) → Fine (PortWanted l d) s (from_port_wanted l d s)
fine_port_wanted l d (Of (Name n)) = port_fine (PortWanted l d) (Of (Name n)) l d n refl
fine_port_wanted l d Input = quiet (PortWanted l d) (PortDirection l Inputs) Input refl tt
fine_port_wanted l d Output = quiet (PortWanted l d) (PortDirection l Outputs) Output refl tt
fine_port_wanted l d _ = tt

fine_port_direction : (l : ℕ) (e : Direction) (s : Sign) → Fine (PortDirection l e) s (from_port_direction l e s)
fine_port_direction l e (Of (Name n)) = port_fine (PortDirection l e) (Of (Name n)) l (Some e) n refl
fine_port_direction l e Wire = quiet (PortDirection l e) (PortWire l e) Wire refl tt
fine_port_direction l e _ = tt

fine_port_wire : (l : ℕ) (e : Direction) (s : Sign) → Fine (PortWire l e) s (from_port_wire l e s)
fine_port_wire l e (Of (Name n)) = port_fine (PortWire l e) (Of (Name n)) l (Some e) n refl
fine_port_wire l e _ = tt

fine_port_read : (l : ℕ) (d : Option Direction) (s : Sign) → Fine (PortRead l d) s (from_port_read l d s)
fine_port_read l d Comma = quiet (PortRead l d) (PortWanted l d) Comma refl tt
fine_port_read l d (Of Closing) = quiet (PortRead l d) PortsRead (Of Closing) refl tt
fine_port_read l d _ = tt

fine_ports_read : (s : Sign) → Fine PortsRead s (from_ports_read s)
fine_ports_read Semicolon = quiet PortsRead Body Semicolon refl tt
fine_ports_read _ = tt

-- ---- names

fine_direction_word : (l : ℕ) (e : Direction) (s : Sign) → Fine (DirectionWord l e) s (from_direction_word l e s)
fine_direction_word l e Wire = quiet (DirectionWord l e) (NameWanted l (Some e)) Wire refl tt
fine_direction_word l e (Of (Name n)) = name_fine (DirectionWord l e) (Of (Name n)) l (Some e) n refl
fine_direction_word l e _ = tt

fine_name_wanted : (l : ℕ) (d : Option Direction) (s : Sign) → Fine (NameWanted l d) s (from_name_wanted l d s)
fine_name_wanted l d (Of (Name n)) = name_fine (NameWanted l d) (Of (Name n)) l d n refl
fine_name_wanted l d _ = tt

fine_name_read : (l : ℕ) (d : Option Direction) (s : Sign) → Fine (NameRead l d) s (from_name_read l d s)
fine_name_read l d Comma = quiet (NameRead l d) (NameWanted l d) Comma refl tt
fine_name_read l d Semicolon = quiet (NameRead l d) Body Semicolon refl tt
fine_name_read l d _ = tt

-- ---- assigns

fine_target_wanted : (l : ℕ) (s : Sign) → Fine (TargetWanted l) s (from_target_wanted l s)
fine_target_wanted l (Of (Name n)) = quiet (TargetWanted l) (TargetRead l n) (Of (Name n)) refl tt
fine_target_wanted l _ = tt

fine_target_read : (l : ℕ) (n : List ℕ) (s : Sign) → Fine (TargetRead l n) s (from_target_read l n s)
fine_target_read l n Equals = quiet (TargetRead l n) (ValueOpen l n start) Equals refl tt
fine_target_read l n _ = tt

value_part : (l : ℕ) (n : List ℕ) (r : Reading) (p : Part) (o : Option Reading) → Fine (ValueOpen l n r) (Of p) (option_map (λ next. record { place = ValueOpen l n next; events = [] }) o)
value_part l n r p None = tt
value_part l n r p (Some q) = quiet (ValueOpen l n r) (ValueOpen l n q) (Of p) refl tt

value_end : (l : ℕ) (n : List ℕ) (r : Reading) (s : Sign) (q : Place) (o : Option Formula) → IsRoomy q → Fine (ValueOpen l n r) s (value_read l n q o)
value_end l n r s q None room = tt
value_end l n r s q (Some f) room = tells (ValueOpen l n r) q s (has (assigned l n f) ∷ []) refl refl (one_event (has (assigned l n f)) tt) room

fine_value_open : (l : ℕ) (n : List ℕ) (r : Reading) (s : Sign) → Fine (ValueOpen l n r) s (from_value_open l n r s)
fine_value_open l n r (Of p) = value_part l n r p (taken r p)
fine_value_open l n r Comma = value_end l n r Comma (TargetWanted l) (ended r) tt
fine_value_open l n r Semicolon = value_end l n r Semicolon Body (ended r) tt
fine_value_open l n r _ = tt

-- ---- gates

fine_gate_wanted : (l : ℕ) (k : GateKind) (s : Sign) → Fine (GateWanted l k) s (from_gate_wanted l k s)
fine_gate_wanted l k (Of (Name n)) = quiet (GateWanted l k) (GateNamed l k) (Of (Name n)) refl tt
fine_gate_wanted l k (Of Opening) = quiet (GateWanted l k) (OutputWanted l k) (Of Opening) refl tt
fine_gate_wanted l k _ = tt

fine_gate_named : (l : ℕ) (k : GateKind) (s : Sign) → Fine (GateNamed l k) s (from_gate_named l k s)
fine_gate_named l k (Of Opening) = quiet (GateNamed l k) (OutputWanted l k) (Of Opening) refl tt
fine_gate_named l k _ = tt

fine_output_wanted : (l : ℕ) (k : GateKind) (s : Sign) → Fine (OutputWanted l k) s (from_output_wanted l k s)
fine_output_wanted l k (Of (Name o)) = quiet (OutputWanted l k) (OutputRead l k o) (Of (Name o)) refl tt
fine_output_wanted l k _ = tt

fine_output_read : (l : ℕ) (k : GateKind) (o : List ℕ) (s : Sign) → Fine (OutputRead l k o) s (from_output_read l k o s)
fine_output_read l k o Comma =
    quiet (OutputRead l k o) (TerminalWanted (record { line = l; kind = k; outputs = o ∷ []; inputs = [] })) Comma refl (record { limit = λ e. omega arith; none = λ e. refl })
fine_output_read l k o _ = tt

not_full : (b : Bool) (n : ℕ) → (b && nat_le 1000 n) ≡ false → b ≡ true → n ≤ 999
not_full true n e h = grind (arith, nat_tests, e)
not_full false n e h = cc

less_room : (g : GateSoFar) → HasRoom 1000 g → is_full (TerminalWanted g) ≡ false → HasRoom 999 g
less_room g r full = record { limit = not_full (is_limited g.kind) (length g.inputs) full; none = r.none }

more_room : (g : GateSoFar) → HasRoom 999 g → HasRoom 1000 g
more_room g r = record { limit = λ e. (let h = r.limit e in omega (arith, h)); none = r.none }

terminal_begins : (g : GateSoFar) (p : Part) (n : Option (List ℕ)) (o : Option Reading) → Fine (TerminalWanted g) (Of p) (in_terminal g n o)
terminal_begins g p n None = tt
terminal_begins g p n (Some r) = record { names = refl; room = λ room full. less_room g room full; fit = λ room. All-nil IsFitEvent }

fine_terminal_wanted : (g : GateSoFar) (s : Sign) → Fine (TerminalWanted g) s (from_terminal_wanted g s)
fine_terminal_wanted g (Of p) = terminal_begins g p (plain p) (taken start p)
fine_terminal_wanted g _ = tt

terminal_goes_on : (g : GateSoFar) (n : Option (List ℕ)) (r : Reading) (p : Part) (o : Option Reading) → Fine (TerminalOpen g n r) (Of p) (in_terminal g None o)
terminal_goes_on g n r p None = tt
terminal_goes_on g n r p (Some q) = record { names = refl; room = λ room full. room; fit = λ room. All-nil IsFitEvent }

one_more : (fs : List Formula) (f : Formula) (most : ℕ) → length fs ≤ most → length (fs ++ f ∷ []) ≤ most + 1
one_more fs f most h = let e = length-append fs (f ∷ []) in omega (arith, e, h)

only_one : (fs : List Formula) (f : Formula) → fs ≡ [] → length (fs ++ f ∷ []) ≡ 1
only_one fs f e = ap (λ xs. length (xs ++ f ∷ [])) e

few_inputs : (g : GateSoFar) (f : Formula) → HasRoom 999 g → HasFewInputs g.kind (length (g.inputs ++ f ∷ []))
few_inputs g f room = record { limit = λ e. one_more g.inputs f 999 (room.limit e); one = λ e. only_one g.inputs f (room.none e) }

gate_ends : (g : GateSoFar) (n : Option (List ℕ)) (r : Reading) (o : Option Formula) → Fine (TerminalOpen g n r) (Of Closing) (gate_read g o)
gate_ends g n r None = tt
gate_ends g n r (Some f) = record {
  names = refl;
  room = λ room full. tt;
  fit = λ room. one_event (has (gate g.line g.kind g.outputs (g.inputs ++ f ∷ []))) (few_inputs g f room);
}

closing_fine : (g : GateSoFar) (n : Option (List ℕ)) (r : Reading) (b : Bool)
    → Fine (TerminalOpen g n r) (Of Closing) (cond b (in_terminal g None (taken r Closing)) (gate_read g (ended r)))
closing_fine g n r true = terminal_goes_on g n r Closing (taken r Closing)
closing_fine g n r false = gate_ends g n r (ended r)

output_ends : (g : GateSoFar) (n : Option (List ℕ)) (r : Reading) (o : Option (List ℕ)) → Fine (TerminalOpen g n r) Comma (output_read g o)
output_ends g n r None = tt
output_ends g n r (Some x) = record {
  names = refl;
  room = λ room full. (let more = more_room g room in record { limit = more.limit; none = more.none });
  fit = λ room. All-nil IsFitEvent;
}

input_ends : (g : GateSoFar) (n : Option (List ℕ)) (r : Reading) (o : Option Formula) → has_one_input g.kind ≡ false → Fine (TerminalOpen g n r) Comma (input_read g o)
input_ends g n r None e = tt
input_ends g n r (Some f) e = record {
  names = refl;
  room = λ room full. record { limit = λ h. one_more g.inputs f 999 (room.limit h); none = λ h. absurd (clash (has_one_input g.kind) e h) };
  fit = λ room. All-nil IsFitEvent;
} where
  clash : (b : Bool) → b ≡ false → b ≡ true → ⊥
  clash true e h = cc
  clash false e h = cc

comma_fine : (g : GateSoFar) (n : Option (List ℕ)) (r : Reading) (b : Bool) → has_one_input g.kind ≡ b → Fine (TerminalOpen g n r) Comma (cond b (output_read g n) (input_read g (ended r)))
comma_fine g n r true e = output_ends g n r n
comma_fine g n r false e = input_ends g n r (ended r) e

fine_terminal_open : (g : GateSoFar) (n : Option (List ℕ)) (r : Reading) (s : Sign) → Fine (TerminalOpen g n r) s (from_terminal_open g n r s)
fine_terminal_open g n r (Of Closing) = closing_fine g n r (is_inside r)
fine_terminal_open g n r (Of p) = terminal_goes_on g n r p (taken r p)
fine_terminal_open g n r Comma = comma_fine g n r (has_one_input g.kind) refl
fine_terminal_open g n r _ = tt

fine_gate_read : (l : ℕ) (k : GateKind) (s : Sign) → Fine (GateRead l k) s (from_gate_read l k s)
fine_gate_read l k Comma = quiet (GateRead l k) (GateWanted l k) Comma refl tt
fine_gate_read l k Semicolon = quiet (GateRead l k) Body Semicolon refl tt
fine_gate_read l k _ = tt

-- ---- instances

fine_instance_wanted : (l : ℕ) (m : List ℕ) (s : Sign) → Fine (InstanceWanted l m) s (from_instance_wanted l m s)
fine_instance_wanted l m (Of (Name n)) = quiet (InstanceWanted l m) (InstanceNamed l m) (Of (Name n)) refl tt
fine_instance_wanted l m _ = tt

fine_instance_named : (l : ℕ) (m : List ℕ) (s : Sign) → Fine (InstanceNamed l m) s (from_instance_named l m s)
fine_instance_named l m (Of Opening) = quiet (InstanceNamed l m) (TieWanted (record { line = l; module_name = m; ties = [] })) (Of Opening) refl tt
fine_instance_named l m _ = tt

fine_tie_wanted : (i : InstanceSoFar) (s : Sign) → Fine (TieWanted i) s (from_tie_wanted i s)
fine_tie_wanted i Dot = quiet (TieWanted i) (TieDot i) Dot refl tt
fine_tie_wanted i _ = tt

fine_tie_dot : (i : InstanceSoFar) (s : Sign) → Fine (TieDot i) s (from_tie_dot i s)
fine_tie_dot i (Of (Name p)) = quiet (TieDot i) (TiePort i p) (Of (Name p)) refl tt
fine_tie_dot i _ = tt

fine_tie_port : (i : InstanceSoFar) (p : List ℕ) (s : Sign) → Fine (TiePort i p) s (from_tie_port i p s)
fine_tie_port i p (Of Opening) = quiet (TiePort i p) (TieOpen i p) (Of Opening) refl tt
fine_tie_port i p _ = tt

fine_tie_open : (i : InstanceSoFar) (p : List ℕ) (s : Sign) → Fine (TieOpen i p) s (from_tie_open i p s)
fine_tie_open i p (Of (Name n)) = quiet (TieOpen i p) (ActualRead i p (to_net n)) (Of (Name n)) refl tt
fine_tie_open i p (Of (Bit b)) = quiet (TieOpen i p) (ActualRead i p (to_constant b)) (Of (Bit b)) refl tt
fine_tie_open i p (Of Closing) = quiet (TieOpen i p) (TieRead (with_tie i p None)) (Of Closing) refl tt
fine_tie_open i p _ = tt

fine_actual_read : (i : InstanceSoFar) (p : List ℕ) (a : Actual) (s : Sign) → Fine (ActualRead i p a) s (from_actual_read i p a s)
fine_actual_read i p a (Of Closing) = quiet (ActualRead i p a) (TieRead (with_tie i p (Some a))) (Of Closing) refl tt
fine_actual_read i p a _ = tt

fine_tie_read : (i : InstanceSoFar) (s : Sign) → Fine (TieRead i) s (from_tie_read i s)
fine_tie_read i Comma = quiet (TieRead i) (TieWanted i) Comma refl tt
fine_tie_read i (Of Closing) =
    tells (TieRead i) (InstanceRead i.line i.module_name) (Of Closing) (has (instance i.line i.module_name i.ties) ∷ []) refl refl (one_event (has (instance i.line i.module_name i.ties)) tt) tt
fine_tie_read i _ = tt

fine_instance_read : (l : ℕ) (m : List ℕ) (s : Sign) → Fine (InstanceRead l m) s (from_instance_read l m s)
fine_instance_read l m Comma = quiet (InstanceRead l m) (InstanceWanted l m) Comma refl tt
fine_instance_read l m Semicolon = quiet (InstanceRead l m) Body Semicolon refl tt
fine_instance_read l m _ = tt

-- ---- all places

pub fine : (p : Place) (line : ℕ) (s : Sign) → Fine p s (step p line s)
fine Outside line s = fine_outside line s
fine Body line s = fine_body line s
fine (ModuleWord l) line s = fine_module_word l s
fine (ModuleName l) line s = fine_module_name l s
fine (PortWanted l d) line s = fine_port_wanted l d s
fine (PortDirection l e) line s = fine_port_direction l e s
fine (PortWire l e) line s = fine_port_wire l e s
fine (PortRead l d) line s = fine_port_read l d s
fine PortsRead line s = fine_ports_read s
fine (DirectionWord l e) line s = fine_direction_word l e s
fine (NameWanted l d) line s = fine_name_wanted l d s
fine (NameRead l d) line s = fine_name_read l d s
fine (TargetWanted l) line s = fine_target_wanted l s
fine (TargetRead l n) line s = fine_target_read l n s
fine (ValueOpen l n r) line s = fine_value_open l n r s
fine (GateWanted l k) line s = fine_gate_wanted l k s
fine (GateNamed l k) line s = fine_gate_named l k s
fine (OutputWanted l k) line s = fine_output_wanted l k s
fine (OutputRead l k o) line s = fine_output_read l k o s
fine (TerminalWanted g) line s = fine_terminal_wanted g s
fine (TerminalOpen g n r) line s = fine_terminal_open g n r s
fine (GateRead l k) line s = fine_gate_read l k s
fine (InstanceWanted l m) line s = fine_instance_wanted l m s
fine (InstanceNamed l m) line s = fine_instance_named l m s
fine (TieWanted i) line s = fine_tie_wanted i s
fine (TieDot i) line s = fine_tie_dot i s
fine (TiePort i p) line s = fine_tie_port i p s
fine (TieOpen i p) line s = fine_tie_open i p s
fine (ActualRead i p a) line s = fine_actual_read i p a s
fine (TieRead i) line s = fine_tie_read i s
fine (InstanceRead l m) line s = fine_instance_read l m s
