-- A token is refused exactly where no text of modules begins so.
use Rattle.std.proofs.Common.{◌≡◌, ◌++◌, ◌∷◌, [], ℕ, List, Option, Some, None, option_map, map, refl, ap, sym, ◌∙◌, append_assoc}
use Rattle.verilog_expression.specs.Grammar.Formula.{a_net}
use Rattle.verilog_expression.specs.Readings.{Reading, nothing as nothing_waits, start, with_operand}
use Rattle.verilog_expression.proofs.Begun.{ends_by}
use Rattle.verilog_source.specs.Grammar.{Begins, closing, name, named, opening, port_entries, signs}
use Rattle.verilog_source.specs.Modules.{Actual, Entry}
use Rattle.verilog_source.specs.declared.position.Direction.{Direction}
use Rattle.verilog_source.specs.Modules.Entry.{assigned, gate, instance}
use Rattle.verilog_source.specs.Places.{Event, GateSoFar, InstanceSoFar, Place, Step, behind_step, events_from, events_of, reached, step, value_read, with_tie}
use Rattle.verilog_source.specs.Places.Event.{begins, has, ends}
use Rattle.verilog_source.specs.Places.Place.{Outside, Body, ModuleWord, ModuleName, PortWanted, PortDirection, PortWire, PortRead, PortsRead, DirectionWord, NameWanted, NameRead, TargetWanted, TargetRead, ValueOpen, GateWanted, GateNamed, OutputWanted, OutputRead, TerminalWanted, TerminalOpen, GateRead, InstanceWanted, InstanceNamed, TieWanted, TieDot, TiePort, TieOpen, ActualRead, TieRead, InstanceRead}
use Rattle.verilog_source.proofs.Complete.{Runs, at, closing_step, joins, read_all, run_tokens, source_run, terminal_run, value_run}
use Rattle.verilog_source.proofs.Complete.Runs.{stop, go}
use Rattle.verilog_source.proofs.Sound.{found}
use Rattle.verilog_tokens.specs.Signs.{Part, Sign, Token}
use Rattle.verilog_tokens.specs.Signs.Sign.{Of, Comma, Semicolon, Dot, Equals, EndModule}
use Rattle.verilog_tokens.specs.declared.token.GateKind.{GateKind}

-- signs that end a statement from a place
record ToBody (p : Place) : Type 0 where
  ss : List Sign
  es : List Event
  runs : Runs p ss es Body

before : (p q : Place) (s : Sign) (es : List Event) → ((line : ℕ) → step p line s ≡ Some (at q es)) → ToBody q → ToBody p
before p q s es e b = record { ss = s ∷ b.ss; es = es ++ b.es; runs = go es e b.runs }

at_body : ToBody Body
at_body = record { ss = []; es = []; runs = stop }

-- ---- modules and names

ports_read : ToBody PortsRead
ports_read = before PortsRead Body Semicolon [] (λ line. refl) at_body

port_read : (l : ℕ) (d : Option Direction) → ToBody (PortRead l d)
port_read l d = before (PortRead l d) PortsRead closing [] (λ line. refl) ports_read

port_wanted : (l : ℕ) (d : Option Direction) → ToBody (PortWanted l d)
port_wanted l d = before (PortWanted l d) (PortRead l d) (name []) (map has (port_entries l d [])) (λ line. refl) (port_read l d)

port_direction : (l : ℕ) (e : Direction) → ToBody (PortDirection l e)
port_direction l e = before (PortDirection l e) (PortRead l (Some e)) (name []) (map has (port_entries l (Some e) [])) (λ line. refl) (port_read l (Some e))

port_wire : (l : ℕ) (e : Direction) → ToBody (PortWire l e)
port_wire l e = before (PortWire l e) (PortRead l (Some e)) (name []) (map has (port_entries l (Some e) [])) (λ line. refl) (port_read l (Some e))

module_name : (l : ℕ) → ToBody (ModuleName l)
module_name l = before (ModuleName l) Body Semicolon [] (λ line. refl) at_body

name_read : (l : ℕ) (d : Option Direction) → ToBody (NameRead l d)
name_read l d = before (NameRead l d) Body Semicolon [] (λ line. refl) at_body

name_wanted : (l : ℕ) (d : Option Direction) → ToBody (NameWanted l d)
name_wanted l d = before (NameWanted l d) (NameRead l d) (name []) (map has (named l d [])) (λ line. refl) (name_read l d)

direction_word : (l : ℕ) (e : Direction) → ToBody (DirectionWord l e)
direction_word l e = before (DirectionWord l e) (NameRead l (Some e)) (name []) (map has (named l (Some e) [])) (λ line. refl) (name_read l (Some e))

-- ---- values and gates

value_open : (l : ℕ) (n : List ℕ) (r : Reading) → ToBody (ValueOpen l n r)
value_open l n r =
    let x = ends_by r.inner r.outer r.operand in
    let y = read_all r x.rest x.formula x.is in
    record {
      ss = map Of x.rest ++ Semicolon ∷ [];
      es = has (assigned l n x.formula) ∷ [];
      runs = joins (value_run l n x.rest r y.reading y.reads) (go (has (assigned l n x.formula) ∷ []) (λ line. ap (value_read l n Body) y.ends_there) stop);
    }

target_read : (l : ℕ) (n : List ℕ) → ToBody (TargetRead l n)
target_read l n = before (TargetRead l n) (ValueOpen l n start) Equals [] (λ line. refl) (value_open l n start)

target_wanted : (l : ℕ) → ToBody (TargetWanted l)
target_wanted l = before (TargetWanted l) (TargetRead l []) (name []) [] (λ line. refl) (target_read l [])

gate_read : (l : ℕ) (k : GateKind) → ToBody (GateRead l k)
gate_read l k = before (GateRead l k) Body Semicolon [] (λ line. refl) at_body

terminal_open : (g : GateSoFar) (n : Option (List ℕ)) (r : Reading) → ToBody (TerminalOpen g n r)
terminal_open g n r =
    let x = ends_by r.inner r.outer r.operand in
    let y = read_all r x.rest x.formula x.is in
    let z = terminal_run g n x.rest r y.reading y.reads in
    let b = gate_read g.line g.kind in
    let es : List Event = has (gate g.line g.kind g.outputs (g.inputs ++ x.formula ∷ [])) ∷ [] in
    record { ss = map Of x.rest ++ closing ∷ b.ss; es = es ++ b.es; runs = joins z.runs (go es (closing_step g z.so_far y.reading x.formula y.ends_there) b.runs) }

terminal_wanted : (g : GateSoFar) → ToBody (TerminalWanted g)
terminal_wanted g =
    let r = with_operand nothing_waits [] (a_net []) in before (TerminalWanted g) (TerminalOpen g (Some []) r) (name []) [] (λ line. refl) (terminal_open g (Some []) r)

output_read : (l : ℕ) (k : GateKind) (o : List ℕ) → ToBody (OutputRead l k o)
output_read l k o =
    let g : GateSoFar = record { line = l; kind = k; outputs = o ∷ []; inputs = [] } in before (OutputRead l k o) (TerminalWanted g) Comma [] (λ line. refl) (terminal_wanted g)

output_wanted : (l : ℕ) (k : GateKind) → ToBody (OutputWanted l k)
output_wanted l k = before (OutputWanted l k) (OutputRead l k []) (name []) [] (λ line. refl) (output_read l k [])

gate_named : (l : ℕ) (k : GateKind) → ToBody (GateNamed l k)
gate_named l k = before (GateNamed l k) (OutputWanted l k) opening [] (λ line. refl) (output_wanted l k)

gate_wanted : (l : ℕ) (k : GateKind) → ToBody (GateWanted l k)
gate_wanted l k = before (GateWanted l k) (OutputWanted l k) opening [] (λ line. refl) (output_wanted l k)

-- ---- instances

instance_read : (l : ℕ) (m : List ℕ) → ToBody (InstanceRead l m)
instance_read l m = before (InstanceRead l m) Body Semicolon [] (λ line. refl) at_body

tie_read : (i : InstanceSoFar) → ToBody (TieRead i)
tie_read i =
    before (TieRead i) (InstanceRead i.line i.module_name) closing (has (instance i.line i.module_name i.ties) ∷ []) (λ line. refl) (instance_read i.line i.module_name)

actual_read : (i : InstanceSoFar) (p : List ℕ) (a : Actual) → ToBody (ActualRead i p a)
actual_read i p a = before (ActualRead i p a) (TieRead (with_tie i p (Some a))) closing [] (λ line. refl) (tie_read (with_tie i p (Some a)))

tie_open : (i : InstanceSoFar) (p : List ℕ) → ToBody (TieOpen i p)
tie_open i p = before (TieOpen i p) (TieRead (with_tie i p None)) closing [] (λ line. refl) (tie_read (with_tie i p None))

tie_port : (i : InstanceSoFar) (p : List ℕ) → ToBody (TiePort i p)
tie_port i p = before (TiePort i p) (TieOpen i p) opening [] (λ line. refl) (tie_open i p)

tie_dot : (i : InstanceSoFar) → ToBody (TieDot i)
tie_dot i = before (TieDot i) (TiePort i []) (name []) [] (λ line. refl) (tie_port i [])

tie_wanted : (i : InstanceSoFar) → ToBody (TieWanted i)
tie_wanted i = before (TieWanted i) (TieDot i) Dot [] (λ line. refl) (tie_dot i)

instance_named : (l : ℕ) (m : List ℕ) → ToBody (InstanceNamed l m)
instance_named l m =
    let i : InstanceSoFar = record { line = l; module_name = m; ties = [] } in before (InstanceNamed l m) (TieWanted i) opening [] (λ line. refl) (tie_wanted i)

instance_wanted : (l : ℕ) (m : List ℕ) → ToBody (InstanceWanted l m)
instance_wanted l m = before (InstanceWanted l m) (InstanceNamed l m) (name []) [] (λ line. refl) (instance_named l m)

-- ---- texts

token : Sign → Token
token s = record { line = 0; sign = s }

same_signs : (ss : List Sign) → signs (map token ss) ≡ ss
unfolding token
same_signs [] = refl
same_signs (s ∷ ss) = ap (λ us. s ∷ us) (same_signs ss)

-- tokens that end a text from a place
record ToEnd (p : Place) : Type 0 where
  rest : List Token
  events : List Event
  is : events_from rest p ≡ Some events

from_body : (p : Place) → ToBody p → ToEnd p
from_body p b = record {
  rest = map token b.ss ++ record { line = 0; sign = EndModule } ∷ [];
  events = b.es ++ ends ∷ [];
  is = run_tokens b.runs (map token b.ss) (record { line = 0; sign = EndModule } ∷ []) (same_signs b.ss);
}

module_word : (l : ℕ) → ToEnd (ModuleWord l)
module_word l =
    let x = from_body (ModuleName l) (module_name l) in
    record { rest = record { line = 0; sign = name [] } ∷ x.rest; events = begins l [] ∷ x.events; is = ap (option_map (λ xs. (begins l [] ∷ []) ++ xs)) x.is }

to_end : (p : Place) → ToEnd p
to_end Outside = record { rest = []; events = []; is = refl }
to_end Body = from_body Body at_body
to_end (ModuleWord l) = module_word l
to_end (ModuleName l) = from_body (ModuleName l) (module_name l)
to_end (PortWanted l d) = from_body (PortWanted l d) (port_wanted l d)
to_end (PortDirection l e) = from_body (PortDirection l e) (port_direction l e)
to_end (PortWire l e) = from_body (PortWire l e) (port_wire l e)
to_end (PortRead l d) = from_body (PortRead l d) (port_read l d)
to_end PortsRead = from_body PortsRead ports_read
to_end (DirectionWord l e) = from_body (DirectionWord l e) (direction_word l e)
to_end (NameWanted l d) = from_body (NameWanted l d) (name_wanted l d)
to_end (NameRead l d) = from_body (NameRead l d) (name_read l d)
to_end (TargetWanted l) = from_body (TargetWanted l) (target_wanted l)
to_end (TargetRead l n) = from_body (TargetRead l n) (target_read l n)
to_end (ValueOpen l n r) = from_body (ValueOpen l n r) (value_open l n r)
to_end (GateWanted l k) = from_body (GateWanted l k) (gate_wanted l k)
to_end (GateNamed l k) = from_body (GateNamed l k) (gate_named l k)
to_end (OutputWanted l k) = from_body (OutputWanted l k) (output_wanted l k)
to_end (OutputRead l k o) = from_body (OutputRead l k o) (output_read l k o)
to_end (TerminalWanted g) = from_body (TerminalWanted g) (terminal_wanted g)
to_end (TerminalOpen g n r) = from_body (TerminalOpen g n r) (terminal_open g n r)
to_end (GateRead l k) = from_body (GateRead l k) (gate_read l k)
to_end (InstanceWanted l m) = from_body (InstanceWanted l m) (instance_wanted l m)
to_end (InstanceNamed l m) = from_body (InstanceNamed l m) (instance_named l m)
to_end (TieWanted i) = from_body (TieWanted i) (tie_wanted i)
to_end (TieDot i) = from_body (TieDot i) (tie_dot i)
to_end (TiePort i p) = from_body (TiePort i p) (tie_port i p)
to_end (TieOpen i p) = from_body (TieOpen i p) (tie_open i p)
to_end (ActualRead i p a) = from_body (ActualRead i p a) (actual_read i p a)
to_end (TieRead i) = from_body (TieRead i) (tie_read i)
to_end (InstanceRead l m) = from_body (InstanceRead l m) (instance_read l m)

-- what is told behind tokens that can stand there
record Later (ts : List Token) (p : Place) (rest : List Token) : Type 0 where
  events : List Event
  is : events_from (ts ++ rest) p ≡ Some events

none_reached : {q : Place} (ts : List Token) → reached None ts ≡ Some q → ⊥
none_reached [] e = cc
none_reached (t ∷ ts) e = cc

same_place : (p q : Place) → Some p ≡ Some q → p ≡ q
same_place p q e = cc

abbrev place_of : Option Step → Option Place
place_of o = option_map (λ (s : Step). s.place) o

goes_later : (ts rest : List Token) (p q : Place) (es : List Event) → reached (Some p) ts ≡ Some q → events_from rest q ≡ Some es → Later ts p rest
goes_later [] rest p q es h e = record { events = es; is = ap (events_from rest) (same_place p q h) ∙ e }
goes_later (t ∷ ts) rest p q es h e = by_step (step p t.line t.sign) refl h (λ r k. goes_later ts rest r q es k e) where
  by_step : (o : Option Step) → step p t.line t.sign ≡ o → reached (place_of o) ts ≡ Some q → ((r : Place) → reached (Some r) ts ≡ Some q → Later ts r rest)
      → Later (t ∷ ts) p rest
  by_step None k r later = absurd (none_reached ts r)
  by_step (Some s) k r later =
      let x = later s.place r in
      record { events = s.events ++ x.events; is = ap (behind_step (events_from (ts ++ rest))) k ∙ ap (option_map (λ xs. s.events ++ xs)) x.is }

-- what is refused is never told
never_told : (ts rest : List Token) (p : Place) → reached (Some p) ts ≡ None → events_from (ts ++ rest) p ≡ None
never_told [] rest p h = cc
never_told (t ∷ ts) rest p h = by_step (step p t.line t.sign) refl h (λ r k. never_told ts rest r k) where
  by_step : (o : Option Step) → step p t.line t.sign ≡ o → reached (place_of o) ts ≡ None → ((r : Place) → reached (Some r) ts ≡ None → events_from (ts ++ rest) r ≡ None)
      → events_from ((t ∷ ts) ++ rest) p ≡ None
  by_step None k r later = ap (behind_step (events_from (ts ++ rest))) k
  by_step (Some s) k r later = ap (behind_step (events_from (ts ++ rest))) k ∙ ap (option_map (λ xs. s.events ++ xs)) (later s.place r)

pub refused : (ts : List Token) → reached (Some Outside) ts ≡ None → Begins ts → ⊥
refused ts h b = clash (sym (source_run b.whole) ∙ never_told ts b.rest Outside h) where
  clash : {X : Type 0} {x : X} → Some x ≡ None → ⊥
  clash e = cc

pub begun : (ts : List Token) → (reached (Some Outside) ts ≡ None → ⊥) → Begins ts
begun ts n = by_reached (reached (Some Outside) ts) refl where
  by_reached : (o : Option Place) → reached (Some Outside) ts ≡ o → Begins ts
  by_reached None e = absurd (n e)
  by_reached (Some p) e =
      let x = to_end p in
      let y = goes_later ts x.rest Outside p x.events e x.is in
      let z = found (ts ++ x.rest) y.events y.is in
      record { rest = x.rest; modules = z.modules; whole = z.are }
