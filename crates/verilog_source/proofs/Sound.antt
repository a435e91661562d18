-- What is read token by token is a text of modules.
use Rattle.std.proofs.Common.{◌≡◌, ◌++◌, ◌∷◌, [], ℕ, List, Bool, true, false, cond, Option, Some, None, option_map, map, flat_map, refl, ap, sym, subst, ◌∙◌, append-nil, append_assoc}
use Rattle.verilog_expression.specs.Grammar.{Formula, IsExpression}
use Rattle.verilog_expression.specs.Kept.{is_inside}
use Rattle.verilog_expression.specs.Readings.{Reading, ended, formula_of, reached as read_to, read_on, start, taken}
use Rattle.verilog_expression.proofs.Begun.{read_reached}
use Rattle.verilog_expression.proofs.Sound.{sound as expression_sound}
use Rattle.verilog_source.specs.Grammar.{ArePorts, IsAssign, IsBody, IsFormula, IsGate, IsInstance, IsLabel, IsName, IsPort, IsPortList, IsSource, IsStatement, IsTerminals, IsTie, IsWire, Lists, actual_sign, closing, direction_sign, has_one_input, name, named, opening, port_entries, signs}
use Rattle.verilog_source.specs.Grammar.ArePorts.{last_port, more_ports}
use Rattle.verilog_source.specs.Grammar.IsAssign.{an_assign}
use Rattle.verilog_source.specs.Grammar.IsBody.{ends as body_ends, goes_on}
use Rattle.verilog_source.specs.Grammar.IsFormula.{spelled}
use Rattle.verilog_source.specs.Grammar.IsGate.{a_gate}
use Rattle.verilog_source.specs.Grammar.IsInstance.{an_instance}
use Rattle.verilog_source.specs.Grammar.IsLabel.{no_label, a_label}
use Rattle.verilog_source.specs.Grammar.IsName.{a_name}
use Rattle.verilog_source.specs.Grammar.IsPort.{a_port, with_direction}
use Rattle.verilog_source.specs.Grammar.IsPortList.{no_ports, ports}
use Rattle.verilog_source.specs.Grammar.IsSource.{nothing, a_module}
use Rattle.verilog_source.specs.Grammar.IsStatement.{directions, wires, assigns, gates, instances}
use Rattle.verilog_source.specs.Grammar.IsTerminals.{inputs, input, output}
use Rattle.verilog_source.specs.Grammar.IsTie.{a_tie, no_tie}
use Rattle.verilog_source.specs.Grammar.IsWire.{no_wire, a_wire}
use Rattle.verilog_source.specs.Grammar.Lists.{last, more}
use Rattle.verilog_source.specs.Modules.{Actual, Entry, Module, PortTie}
use Rattle.verilog_source.specs.declared.position.Direction.{Direction}
use Rattle.verilog_source.specs.Modules.Actual.{to_net, to_constant}
use Rattle.verilog_source.specs.declared.position.Direction.TheVariants.{Inputs, Outputs}
use Rattle.verilog_source.specs.Modules.Entry.{assigned, gate, instance}
use Rattle.verilog_source.specs.Places.{Event, GateSoFar, InstanceSoFar, Place, Step, Tells, at_end, behind_step, events_from, events_of, from_actual_read, from_body, from_direction_word, from_gate_named, from_gate_read, from_gate_wanted, from_instance_named, from_instance_read, from_instance_wanted, from_module_name, from_module_word, from_name_read, from_name_wanted, from_outside, from_output_read, from_output_wanted, from_port_direction, from_port_read, from_port_wanted, from_port_wire, from_ports_read, from_target_read, from_target_wanted, from_terminal_open, from_terminal_wanted, from_tie_dot, from_tie_open, from_tie_port, from_tie_read, from_tie_wanted, from_value_open, gate_read, in_terminal, input_read, output_read, plain, step, value_read, with_input, with_output, with_tie}
use Rattle.verilog_source.specs.Places.Event.{begins, has, ends}
use Rattle.verilog_source.specs.Places.Place.{Outside, Body, ModuleWord, ModuleName, PortWanted, PortDirection, PortWire, PortRead, PortsRead, DirectionWord, NameWanted, NameRead, TargetWanted, TargetRead, ValueOpen, GateWanted, GateNamed, OutputWanted, OutputRead, TerminalWanted, TerminalOpen, GateRead, InstanceWanted, InstanceNamed, TieWanted, TieDot, TiePort, TieOpen, ActualRead, TieRead, InstanceRead}
use Rattle.verilog_tokens.specs.Signs.{Part, Sign, Token}
use Rattle.verilog_tokens.specs.Signs.Part.{Name, Bit, Tilde, Ampersand, Caret, Bar, Question, Colon, Opening, Closing}
use Rattle.verilog_tokens.specs.Signs.Sign.{Of, Comma, Semicolon, Dot, Equals, Module as ModuleSign, EndModule, Input, Output, Wire, Assign, Gate}
use Rattle.verilog_tokens.specs.declared.token.GateKind.{GateKind}

-- ---- expressions

-- what is read behind these parts
abbrev Reads : Reading → List Part → Type 0
Reads r ps = read_to (Some start) ps ≡ Some r

read_behind : (ps qs : List Part) (o : Option Reading) → read_to o (ps ++ qs) ≡ read_to (read_to o ps) qs
read_behind ps qs None = none_behind qs where
  none_behind : (qs : List Part) → None ≡ read_to None qs
  none_behind [] = refl
  none_behind (q ∷ qs) = refl
read_behind [] qs (Some r) = refl
read_behind (p ∷ ps) qs (Some r) = read_behind ps qs (taken r p)

-- one part more
reads_more : (r next : Reading) (ps : List Part) (p : Part) → Reads r ps → taken r p ≡ Some next → Reads next (ps ++ p ∷ [])
reads_more r next ps p reads e = read_behind ps (p ∷ []) (Some start) ∙ ap (λ o. read_to o (p ∷ [])) reads ∙ one (taken r p) e where
  one : (o : Option Reading) → o ≡ Some next → read_to o [] ≡ Some next
  one None h = h
  one (Some r) h = h

-- the end of an expression
whole : (r : Reading) (ps : List Part) (f : Formula) → Reads r ps → ended r ≡ Some f → IsExpression ps f
unfolding formula_of
whole r ps f reads e =
    expression_sound ps f (ap (read_on (Some start)) (sym (append-nil ps)) ∙ read_reached ps [] (Some start) ∙ ap (λ o. read_on o []) reads ∙ e)

moved : (ps : List Part) (p : Part) (us : List Sign) → map Of (ps ++ p ∷ []) ++ us ≡ map Of ps ++ Of p ∷ us
moved [] p us = refl
moved (q ∷ qs) p us = ap (λ ss. Of q ∷ ss) (moved qs p us)

-- ---- what ends a statement from a place

record Listing {X : Type 0} (Form : List Sign → X → Type 0) (entries : List X → List Entry) (us : List Sign) (xs : List Entry) : Type 0 where
  items : List X
  are : Lists Form Semicolon us items
  is : xs ≡ entries items

abbrev Names : ℕ → Option Direction → List Sign → List Entry → Type 0
Names line d = Listing IsName (flat_map (named line d))

abbrev Assigns : ℕ → List Sign → List Entry → Type 0
Assigns line = Listing IsAssign (map (λ (x : List ℕ × Formula). assigned line x.0 x.1))

abbrev Gates : ℕ → GateKind → List Sign → List Entry → Type 0
Gates line kind = Listing (IsGate kind) (map (λ (x : List (List ℕ) × List Formula). gate line kind x.0 x.1))

abbrev Instances : ℕ → List ℕ → List Sign → List Entry → Type 0
Instances line m = Listing IsInstance (map (instance line m))

-- a `;`, or a comma and more
data Behind (More : List Sign → List Entry → Type 0) : List Sign → List Entry → Type 0 where
  stops : Behind More (Semicolon ∷ []) []
  continues : {us : List Sign} {xs : List Entry} → More us xs → Behind More (Comma ∷ us) xs

-- an item before them
item_behind : {X : Type 0} (Form : List Sign → X → Type 0) (entry : X → Entry) (ss vs : List Sign) (x : X) (ys : List Entry) → Form ss x
    → Behind (Listing Form (map entry)) vs ys → Listing Form (map entry) (ss ++ vs) (entry x ∷ ys)
item_behind Form entry ss _ x _ form stops = record { items = x ∷ []; are = last form; is = refl }
item_behind Form entry ss _ x _ form (continues l) = record { items = x ∷ l.items; are = more form l.are; is = ap (λ es. entry x ∷ es) l.is }

-- the terminals of a gate, and what is behind it
record Terminals (g : GateSoFar) (us : List Sign) (xs : List Entry) : Type 0 where
  ss : List Sign
  vs : List Sign
  os : List (List ℕ)
  fs : List Formula
  ys : List Entry
  cut : us ≡ ss ++ vs
  are : IsTerminals g.kind ss os fs
  later : Behind (Gates g.line g.kind) vs ys
  is : xs ≡ gate g.line g.kind (g.outputs ++ os) (g.inputs ++ fs) ∷ ys

-- the ties of an instance, and what is behind it
record Ties (i : InstanceSoFar) (us : List Sign) (xs : List Entry) : Type 0 where
  ss : List Sign
  vs : List Sign
  ts : List PortTie
  ys : List Entry
  cut : us ≡ ss ++ vs
  are : Lists IsTie closing ss ts
  later : Behind (Instances i.line i.module_name) vs ys
  is : xs ≡ instance i.line i.module_name (i.ties ++ ts) ∷ ys

data TiesRead (i : InstanceSoFar) : List Sign → List Entry → Type 0 where
  no_more : {vs : List Sign} {ys : List Entry} → Behind (Instances i.line i.module_name) vs ys → TiesRead i (closing ∷ vs) (instance i.line i.module_name i.ties ∷ ys)
  further : {us : List Sign} {xs : List Entry} → Ties i us xs → TiesRead i (Comma ∷ us) xs

-- the parts of a terminal that is a plain name
abbrev IsPlain : Option (List ℕ) → List Part → Type 0
IsPlain None ps = Unit {0}
IsPlain (Some n) ps = ps ≡ Name n ∷ []

abbrev Ends : Place → List Sign → List Entry → Type 0
Ends Outside us xs = ⊥
Ends Body us xs = ⊥
Ends (ModuleWord l) us xs = ⊥
Ends (ModuleName l) us xs = IsPortList l us xs
Ends (PortWanted l d) us xs = ArePorts l d us xs
Ends (PortDirection l e) us xs = (d : Option Direction) → ArePorts l d (direction_sign e ∷ us) xs
Ends (PortWire l e) us xs = (d : Option Direction) → ArePorts l d (direction_sign e ∷ Wire ∷ us) xs
Ends (PortRead l e) us xs = (d : Option Direction) (ss : List Sign) (n : List ℕ) → IsPort d ss n e → ArePorts l d (ss ++ us) (port_entries l e n ++ xs)
Ends PortsRead us xs = (us ≡ Semicolon ∷ []) × (xs ≡ [])
Ends (DirectionWord l e) us xs = IsStatement l (direction_sign e ∷ us) xs
Ends (NameWanted l d) us xs = Names l d us xs
Ends (NameRead l d) us xs = (n : List ℕ) → Names l d (name n ∷ us) (named l d n ++ xs)
Ends (TargetWanted l) us xs = Assigns l us xs
Ends (TargetRead l n) us xs = Assigns l (name n ∷ us) xs
Ends (ValueOpen l n r) us xs = (ps : List Part) → Reads r ps → Assigns l (name n ∷ Equals ∷ (map Of ps ++ us)) xs
Ends (GateWanted l k) us xs = Gates l k us xs
Ends (GateNamed l k) us xs = (n : List ℕ) → Gates l k (name n ∷ us) xs
Ends (OutputWanted l k) us xs = (ls : List Sign) → IsLabel ls → Gates l k (ls ++ opening ∷ us) xs
Ends (OutputRead l k o) us xs = (ls : List Sign) → IsLabel ls → Gates l k (ls ++ opening ∷ name o ∷ us) xs
Ends (TerminalWanted g) us xs = Terminals g us xs
Ends (TerminalOpen g n r) us xs = (ps : List Part) → Reads r ps → IsPlain n ps → Terminals g (map Of ps ++ us) xs
Ends (GateRead l k) us xs = Behind (Gates l k) us xs
Ends (InstanceWanted l m) us xs = Instances l m us xs
Ends (InstanceNamed l m) us xs = (n : List ℕ) → Instances l m (name n ∷ us) xs
Ends (TieWanted i) us xs = Ties i us xs
Ends (TieDot i) us xs = Ties i (Dot ∷ us) xs
Ends (TiePort i p) us xs = Ties i (Dot ∷ name p ∷ us) xs
Ends (TieOpen i p) us xs = Ties i (Dot ∷ name p ∷ opening ∷ us) xs
Ends (ActualRead i p a) us xs = Ties i (Dot ∷ name p ∷ opening ∷ actual_sign a ∷ us) xs
Ends (TieRead i) us xs = TiesRead i us xs
Ends (InstanceRead l m) us xs = Behind (Instances l m) us xs

-- ---- what ends a text from a place

record EndsOutside (ts : List Token) (es : List Event) : Type 0 where
  modules : List Module
  are : IsSource ts modules
  is : es ≡ events_of modules

record EndsBody (ts : List Token) (es : List Event) : Type 0 where
  body : List Token
  rest : List Token
  entries : List Entry
  modules : List Module
  cut : ts ≡ body ++ rest
  are : IsBody body entries
  later : IsSource rest modules
  is : es ≡ map has entries ++ ends ∷ events_of modules

-- behind `module`
record EndsModule (line : ℕ) (ts : List Token) (es : List Event) : Type 0 where
  modules : List Module
  are : IsSource (record { line = line; sign = ModuleSign } ∷ ts) modules
  is : es ≡ events_of modules

record EndsStatement (place : Place) (ts : List Token) (es : List Event) : Type 0 where
  head : List Token
  rest : List Token
  entries : List Entry
  events : List Event
  cut : ts ≡ head ++ rest
  are : Ends place (signs head) entries
  later : EndsBody rest events
  is : es ≡ map has entries ++ events

abbrev EndsText : Place → List Token → List Event → Type 0
EndsText Outside ts es = EndsOutside ts es
EndsText Body ts es = EndsBody ts es
EndsText (ModuleWord l) ts es = EndsModule l ts es
EndsText place ts es = EndsStatement place ts es

abbrev token : ℕ → Sign → Token
token line sign = record { line = line; sign = sign }

-- a step leads from what ends the text behind it to what ends it before
abbrev Turns : Place → ℕ → Sign → Option Step → Type 0
Turns place line s None = Unit {0}
Turns place line s (Some st) = (ts : List Token) (later : List Event) → EndsText st.place ts later → EndsText place (token line s ∷ ts) (st.events ++ later)

-- ---- kinds of steps

pub events_join : (xs ys : List Entry) (es : List Event) → map has (xs ++ ys) ++ es ≡ map has xs ++ (map has ys ++ es)
events_join [] ys es = refl
events_join (x ∷ xs) ys es = ap (λ zs. has x ∷ zs) (events_join xs ys es)

-- within a statement
within : (p q : Place) (line : ℕ) (s : Sign) (zs : List Entry) → ((us : List Sign) (xs : List Entry) → Ends q us xs → Ends p (s ∷ us) (zs ++ xs))
    → (ts : List Token) (later : List Event) → EndsStatement q ts later → EndsStatement p (token line s ∷ ts) (map has zs ++ later)
within p q line s zs f ts later e = record {
  head = token line s ∷ e.head;
  rest = e.rest;
  entries = zs ++ e.entries;
  events = e.events;
  cut = ap (λ xs. token line s ∷ xs) e.cut;
  are = f (signs e.head) e.entries e.are;
  later = e.later;
  is = ap (λ es. map has zs ++ es) e.is ∙ sym (events_join zs e.entries e.events);
}

-- the end of a statement
finishes : (p : Place) (line : ℕ) (s : Sign) (zs : List Entry) → Ends p (s ∷ []) zs → (ts : List Token) (later : List Event) → EndsBody ts later
    → EndsStatement p (token line s ∷ ts) (map has zs ++ later)
finishes p line s zs h ts later e = record { head = token line s ∷ []; rest = ts; entries = zs; events = later; cut = refl; are = h; later = e; is = refl }

-- the beginning of a statement
starts : (q : Place) (line : ℕ) (s : Sign) → ((us : List Sign) (xs : List Entry) → Ends q us xs → IsStatement line (s ∷ us) xs) → (ts : List Token) (later : List Event)
    → EndsStatement q ts later → EndsBody (token line s ∷ ts) later
starts q line s f ts later e = record {
  body = (token line s ∷ e.head) ++ e.later.body;
  rest = e.later.rest;
  entries = e.entries ++ e.later.entries;
  modules = e.later.modules;
  cut = ap (λ xs. token line s ∷ xs) (e.cut ∙ ap (λ xs. e.head ++ xs) e.later.cut ∙ sym (append_assoc e.head e.later.body e.later.rest));
  are = goes_on (token line s) e.head (f (signs e.head) e.entries e.are) e.later.are;
  later = e.later.later;
  is = e.is ∙ ap (λ es. map has e.entries ++ es) e.later.is ∙ sym (events_join e.entries e.later.entries (ends ∷ events_of e.later.modules));
}

-- ---- modules

turns_outside : (line : ℕ) (s : Sign) → Turns Outside line s (from_outside line s)
turns_outside line ModuleSign = λ ts later e. record { modules = e.modules; are = e.are; is = e.is }
turns_outside line _ = tt

turns_module_word : (l line : ℕ) (s : Sign) → Turns (ModuleWord l) line s (from_module_word l s)
turns_module_word l line (Of (Name n)) = λ ts later e.
    let es = e.entries in
    let b = e.later in
    record {
      modules = record { line = l; name = n; entries = es ++ b.entries } ∷ b.modules;
      are = subst (λ xs. IsSource (token l ModuleSign ∷ token line (name n) ∷ xs) (record { line = l; name = n; entries = es ++ b.entries } ∷ b.modules))
          (sym (e.cut ∙ ap (λ xs. e.head ++ xs) b.cut)) (a_module e.head e.are b.are b.later);
      is = ap (λ xs. begins l n ∷ xs) (e.is ∙ ap (λ xs. map has es ++ xs) b.is ∙ sym (events_join es b.entries (ends ∷ events_of b.modules)));
    }
turns_module_word l line _ = tt

turns_module_name : (l line : ℕ) (s : Sign) → Turns (ModuleName l) line s (from_module_name l s)
turns_module_name l line Semicolon = finishes (ModuleName l) line Semicolon [] no_ports
turns_module_name l line (Of Opening) = within (ModuleName l) (PortWanted l None) line opening [] (λ us xs h. ports h)
turns_module_name l line _ = tt

turns_port_wanted : (l : ℕ) (d : Option Direction) (line : ℕ) (s : Sign) → Turns (PortWanted l d) line s (from_port_wanted l d s)
turns_port_wanted l d line (Of (Name n)) = within (PortWanted l d) (PortRead l d) line (name n) (port_entries l d n) (λ us xs h. h d (name n ∷ []) n a_port)
turns_port_wanted l d line Input = within (PortWanted l d) (PortDirection l Inputs) line Input [] (λ us xs h. h d)
turns_port_wanted l d line Output = within (PortWanted l d) (PortDirection l Outputs) line Output [] (λ us xs h. h d)
turns_port_wanted l d line _ = tt

turns_port_direction : (l : ℕ) (e : Direction) (line : ℕ) (s : Sign) → Turns (PortDirection l e) line s (from_port_direction l e s)
turns_port_direction l e line (Of (Name n)) =
    within (PortDirection l e) (PortRead l (Some e)) line (name n) (port_entries l (Some e) n) (λ us xs h d. h d (direction_sign e ∷ name n ∷ []) n (with_direction no_wire))
turns_port_direction l e line Wire = within (PortDirection l e) (PortWire l e) line Wire [] (λ us xs h. h)
turns_port_direction l e line _ = tt

turns_port_wire : (l : ℕ) (e : Direction) (line : ℕ) (s : Sign) → Turns (PortWire l e) line s (from_port_wire l e s)
turns_port_wire l e line (Of (Name n)) =
    within (PortWire l e) (PortRead l (Some e)) line (name n) (port_entries l (Some e) n) (λ us xs h d. h d (direction_sign e ∷ Wire ∷ name n ∷ []) n (with_direction a_wire))
turns_port_wire l e line _ = tt

-- the ports end with `);`
ports_end : (l : ℕ) (e : Option Direction) (us : List Sign) (xs : List Entry) → us ≡ Semicolon ∷ [] → xs ≡ [] → Ends (PortRead l e) (closing ∷ us) xs
ports_end l e us xs cut is d ss n p =
    subst (λ vs. ArePorts l d (ss ++ closing ∷ vs) (port_entries l e n ++ xs)) (sym cut)
    (subst (λ zs. ArePorts l d (ss ++ closing ∷ Semicolon ∷ []) (port_entries l e n ++ zs)) (sym is)
    (subst (ArePorts l d (ss ++ closing ∷ Semicolon ∷ [])) (sym (append-nil (port_entries l e n))) (last_port p)))

more_port : (l : ℕ) (e : Option Direction) (us : List Sign) (xs : List Entry) → ArePorts l e us xs → Ends (PortRead l e) (Comma ∷ us) xs
more_port l e us xs h d ss n p = more_ports p h

turns_port_read : (l : ℕ) (d : Option Direction) (line : ℕ) (s : Sign) → Turns (PortRead l d) line s (from_port_read l d s)
turns_port_read l d line Comma = within (PortRead l d) (PortWanted l d) line Comma [] (more_port l d)
turns_port_read l d line (Of Closing) = within (PortRead l d) PortsRead line closing [] (λ us xs h. ports_end l d us xs h.0 h.1)
turns_port_read l d line _ = tt

turns_ports_read : (line : ℕ) (s : Sign) → Turns PortsRead line s (from_ports_read s)
turns_ports_read line Semicolon = finishes PortsRead line Semicolon [] (refl, refl)
turns_ports_read line _ = tt

-- ---- names

statement_of : (line : ℕ) (s : List Sign) (xs ys : List Entry) → xs ≡ ys → IsStatement line s ys → IsStatement line s xs
statement_of line s xs ys e h = subst (IsStatement line s) (sym e) h

with_wire : (line : ℕ) (e : Direction) (us : List Sign) (xs : List Entry) → Names line (Some e) us xs → IsStatement line (direction_sign e ∷ Wire ∷ us) xs
with_wire line e us xs h = statement_of line _ xs _ h.is (directions e a_wire h.are)

without_wire : (line : ℕ) (e : Direction) (us : List Sign) (xs : List Entry) → Names line (Some e) us xs → IsStatement line (direction_sign e ∷ us) xs
without_wire line e us xs h = statement_of line _ xs _ h.is (directions e no_wire h.are)

turns_direction_word : (l : ℕ) (e : Direction) (line : ℕ) (s : Sign) → Turns (DirectionWord l e) line s (from_direction_word l e s)
turns_direction_word l e line Wire = within (DirectionWord l e) (NameWanted l (Some e)) line Wire [] (with_wire l e)
turns_direction_word l e line (Of (Name n)) =
    within (DirectionWord l e) (NameRead l (Some e)) line (name n) (named l (Some e) n) (λ us xs h. without_wire l e (name n ∷ us) (named l (Some e) n ++ xs) (h n))
turns_direction_word l e line _ = tt

turns_name_wanted : (l : ℕ) (d : Option Direction) (line : ℕ) (s : Sign) → Turns (NameWanted l d) line s (from_name_wanted l d s)
turns_name_wanted l d line (Of (Name n)) = within (NameWanted l d) (NameRead l d) line (name n) (named l d n) (λ us xs h. h n)
turns_name_wanted l d line _ = tt

more_names : (l : ℕ) (d : Option Direction) (us : List Sign) (xs : List Entry) → Names l d us xs → Ends (NameRead l d) (Comma ∷ us) xs
more_names l d us xs h n = record { items = n ∷ h.items; are = more a_name h.are; is = ap (λ ys. named l d n ++ ys) h.is }

last_name : (l : ℕ) (d : Option Direction) → Ends (NameRead l d) (Semicolon ∷ []) []
last_name l d n = record { items = n ∷ []; are = last a_name; is = refl }

turns_name_read : (l : ℕ) (d : Option Direction) (line : ℕ) (s : Sign) → Turns (NameRead l d) line s (from_name_read l d s)
turns_name_read l d line Comma = within (NameRead l d) (NameWanted l d) line Comma [] (more_names l d)
turns_name_read l d line Semicolon = finishes (NameRead l d) line Semicolon [] (last_name l d)
turns_name_read l d line _ = tt

-- ---- assigns

turns_target_wanted : (l line : ℕ) (s : Sign) → Turns (TargetWanted l) line s (from_target_wanted l s)
turns_target_wanted l line (Of (Name n)) = within (TargetWanted l) (TargetRead l n) line (name n) [] (λ us xs h. h)
turns_target_wanted l line _ = tt

turns_target_read : (l : ℕ) (n : List ℕ) (line : ℕ) (s : Sign) → Turns (TargetRead l n) line s (from_target_read l n s)
turns_target_read l n line Equals = within (TargetRead l n) (ValueOpen l n start) line Equals [] (λ us xs h. h [] refl)
turns_target_read l n line _ = tt

value_goes_on : (l : ℕ) (n : List ℕ) (r next : Reading) (p : Part) → taken r p ≡ Some next → (us : List Sign) (xs : List Entry) → Ends (ValueOpen l n next) us xs
    → Ends (ValueOpen l n r) (Of p ∷ us) xs
value_goes_on l n r next p e us xs h ps reads =
    subst (λ ss. Assigns l (name n ∷ Equals ∷ ss) xs) (moved ps p us) (h (ps ++ p ∷ []) (reads_more r next ps p reads e))

value_then : (l : ℕ) (n : List ℕ) (r : Reading) (f : Formula) → ended r ≡ Some f → (us : List Sign) (xs : List Entry) → Assigns l us xs
    → Ends (ValueOpen l n r) (Comma ∷ us) (assigned l n f ∷ xs)
value_then l n r f e us xs h ps reads =
    record { items = (n, f) ∷ h.items; are = more (an_assign (spelled (whole r ps f reads e))) h.are; is = ap (λ ys. assigned l n f ∷ ys) h.is }

value_last : (l : ℕ) (n : List ℕ) (r : Reading) (f : Formula) → ended r ≡ Some f → Ends (ValueOpen l n r) (Semicolon ∷ []) (assigned l n f ∷ [])
value_last l n r f e ps reads = record { items = (n, f) ∷ []; are = last (an_assign (spelled (whole r ps f reads e))); is = refl }

value_part : (l : ℕ) (n : List ℕ) (r : Reading) (line : ℕ) (p : Part) (o : Option Reading) → taken r p ≡ o
    → Turns (ValueOpen l n r) line (Of p) (option_map (λ next. record { place = ValueOpen l n next; events = [] }) o)
value_part l n r line p None e = tt
value_part l n r line p (Some next) e = within (ValueOpen l n r) (ValueOpen l n next) line (Of p) [] (value_goes_on l n r next p e)

value_comma : (l : ℕ) (n : List ℕ) (r : Reading) (line : ℕ) (o : Option Formula) → ended r ≡ o → Turns (ValueOpen l n r) line Comma (value_read l n (TargetWanted l) o)
value_comma l n r line None e = tt
value_comma l n r line (Some f) e = within (ValueOpen l n r) (TargetWanted l) line Comma (assigned l n f ∷ []) (value_then l n r f e)

value_end : (l : ℕ) (n : List ℕ) (r : Reading) (line : ℕ) (o : Option Formula) → ended r ≡ o → Turns (ValueOpen l n r) line Semicolon (value_read l n Body o)
value_end l n r line None e = tt
value_end l n r line (Some f) e = finishes (ValueOpen l n r) line Semicolon (assigned l n f ∷ []) (value_last l n r f e)

turns_value_open : (l : ℕ) (n : List ℕ) (r : Reading) (line : ℕ) (s : Sign) → Turns (ValueOpen l n r) line s (from_value_open l n r s)
turns_value_open l n r line (Of p) = value_part l n r line p (taken r p) refl
turns_value_open l n r line Comma = value_comma l n r line (ended r) refl
turns_value_open l n r line Semicolon = value_end l n r line (ended r) refl
turns_value_open l n r line _ = tt

-- ---- gates

turns_gate_wanted : (l : ℕ) (k : GateKind) (line : ℕ) (s : Sign) → Turns (GateWanted l k) line s (from_gate_wanted l k s)
turns_gate_wanted l k line (Of (Name n)) = within (GateWanted l k) (GateNamed l k) line (name n) [] (λ us xs h. h n)
turns_gate_wanted l k line (Of Opening) = within (GateWanted l k) (OutputWanted l k) line opening [] (λ us xs h. h [] no_label)
turns_gate_wanted l k line _ = tt

turns_gate_named : (l : ℕ) (k : GateKind) (line : ℕ) (s : Sign) → Turns (GateNamed l k) line s (from_gate_named l k s)
turns_gate_named l k line (Of Opening) = within (GateNamed l k) (OutputWanted l k) line opening [] (λ us xs h n. h (name n ∷ []) a_label)
turns_gate_named l k line _ = tt

turns_output_wanted : (l : ℕ) (k : GateKind) (line : ℕ) (s : Sign) → Turns (OutputWanted l k) line s (from_output_wanted l k s)
turns_output_wanted l k line (Of (Name o)) = within (OutputWanted l k) (OutputRead l k o) line (name o) [] (λ us xs h. h)
turns_output_wanted l k line _ = tt

abbrev first_output : ℕ → GateKind → List ℕ → GateSoFar
first_output l k o = record { line = l; kind = k; outputs = o ∷ []; inputs = [] }

gate_begins : (l : ℕ) (k : GateKind) (o : List ℕ) (us : List Sign) (xs : List Entry) → Terminals (first_output l k o) us xs → Ends (OutputRead l k o) (Comma ∷ us) xs
gate_begins l k o us xs t ls label =
    subst (λ vs. Gates l k (ls ++ opening ∷ name o ∷ Comma ∷ vs) xs) (sym t.cut)
    (subst (λ vs. Gates l k vs xs) (append_assoc ls (opening ∷ name o ∷ Comma ∷ t.ss) t.vs)
    (subst (Gates l k ((ls ++ opening ∷ name o ∷ Comma ∷ t.ss) ++ t.vs)) (sym t.is)
    (item_behind (IsGate k) (λ (x : List (List ℕ) × List Formula). gate l k x.0 x.1) (ls ++ opening ∷ name o ∷ Comma ∷ t.ss) t.vs (o ∷ t.os, t.fs) t.ys (a_gate label t.are) t.later)))

turns_output_read : (l : ℕ) (k : GateKind) (o : List ℕ) (line : ℕ) (s : Sign) → Turns (OutputRead l k o) line s (from_output_read l k o s)
turns_output_read l k o line Comma = within (OutputRead l k o) (TerminalWanted (first_output l k o)) line Comma [] (gate_begins l k o)
turns_output_read l k o line _ = tt

plain_is : (p : Part) → IsPlain (plain p) (p ∷ [])
plain_is (Name n) = refl
plain_is _ = tt

terminal_begins : (g : GateSoFar) (line : ℕ) (p : Part) (o : Option Reading) → taken start p ≡ o → Turns (TerminalWanted g) line (Of p) (in_terminal g (plain p) o)
terminal_begins g line p None e = tt
terminal_begins g line p (Some r) e =
    within (TerminalWanted g) (TerminalOpen g (plain p) r) line (Of p) [] (λ us xs h. h (p ∷ []) (reads_more start r [] p refl e) (plain_is p))

turns_terminal_wanted : (g : GateSoFar) (line : ℕ) (s : Sign) → Turns (TerminalWanted g) line s (from_terminal_wanted g s)
turns_terminal_wanted g line (Of p) = terminal_begins g line p (taken start p) refl
turns_terminal_wanted g line _ = tt

terminal_goes_on : (g : GateSoFar) (n : Option (List ℕ)) (r : Reading) (line : ℕ) (p : Part) (o : Option Reading) → taken r p ≡ o
    → Turns (TerminalOpen g n r) line (Of p) (in_terminal g None o)
terminal_goes_on g n r line p None e = tt
terminal_goes_on g n r line p (Some next) e =
    within (TerminalOpen g n r) (TerminalOpen g None next) line (Of p) []
    (λ us xs h ps reads is. subst (λ ss. Terminals g ss xs) (moved ps p us) (h (ps ++ p ∷ []) (reads_more r next ps p reads e) tt))

-- the last terminal, with the `)`
last_terminal : (g : GateSoFar) (b : Bool) (ss : List Sign) (f : Formula) → has_one_input g.kind ≡ b → IsFormula ss f → IsTerminals g.kind (ss ++ closing ∷ []) [] (f ∷ [])
last_terminal g true ss f e h = input e h
last_terminal g false ss f e h = inputs e (last h)

gate_ends : (g : GateSoFar) (n : Option (List ℕ)) (r : Reading) (f : Formula) → ended r ≡ Some f → (us : List Sign) (xs : List Entry) → Behind (Gates g.line g.kind) us xs
    → Ends (TerminalOpen g n r) (closing ∷ us) (gate g.line g.kind g.outputs (g.inputs ++ f ∷ []) ∷ xs)
gate_ends g n r f e us xs h ps reads is = record {
  ss = map Of ps ++ closing ∷ [];
  vs = us;
  os = [];
  fs = f ∷ [];
  ys = xs;
  cut = sym (append_assoc (map Of ps) (closing ∷ []) us);
  are = last_terminal g (has_one_input g.kind) (map Of ps) f refl (spelled (whole r ps f reads e));
  later = h;
  is = ap (λ os. gate g.line g.kind os (g.inputs ++ f ∷ []) ∷ xs) (sym (append-nil g.outputs));
}

turns_gate_end : (g : GateSoFar) (n : Option (List ℕ)) (r : Reading) (line : ℕ) (o : Option Formula) → ended r ≡ o → Turns (TerminalOpen g n r) line closing (gate_read g o)
turns_gate_end g n r line None e = tt
turns_gate_end g n r line (Some f) e =
    within (TerminalOpen g n r) (GateRead g.line g.kind) line closing (gate g.line g.kind g.outputs (g.inputs ++ f ∷ []) ∷ []) (gate_ends g n r f e)

turns_closing : (g : GateSoFar) (n : Option (List ℕ)) (r : Reading) (line : ℕ) (b : Bool)
    → Turns (TerminalOpen g n r) line closing (cond b (in_terminal g None (taken r Closing)) (gate_read g (ended r)))
turns_closing g n r line true = terminal_goes_on g n r line Closing (taken r Closing) refl
turns_closing g n r line false = turns_gate_end g n r line (ended r) refl

further_output : (g : GateSoFar) (o : List ℕ) (r : Reading) → has_one_input g.kind ≡ true → (us : List Sign) (xs : List Entry) → Terminals (with_output g o) us xs
    → Ends (TerminalOpen g (Some o) r) (Comma ∷ us) xs
further_output g o r one us xs t ps reads is =
    subst (λ qs. Terminals g (map Of qs ++ Comma ∷ us) xs) (sym is) (record {
      ss = name o ∷ Comma ∷ t.ss;
      vs = t.vs;
      os = o ∷ t.os;
      fs = t.fs;
      ys = t.ys;
      cut = ap (λ vs. name o ∷ Comma ∷ vs) t.cut;
      are = output one t.are;
      later = t.later;
      is = t.is ∙ ap (λ os. gate g.line g.kind os (g.inputs ++ t.fs) ∷ t.ys) (append_assoc g.outputs (o ∷ []) t.os);
    })

turns_output : (g : GateSoFar) (n : Option (List ℕ)) (r : Reading) (line : ℕ) → has_one_input g.kind ≡ true → Turns (TerminalOpen g n r) line Comma (output_read g n)
turns_output g None r line one = tt
turns_output g (Some o) r line one = within (TerminalOpen g (Some o) r) (TerminalWanted (with_output g o)) line Comma [] (further_output g o r one)

-- inputs of a gate of several, with one before them
more_inputs : (kind : GateKind) (ss ts : List Sign) (f : Formula) (os : List (List ℕ)) (fs : List Formula) → has_one_input kind ≡ false → IsFormula ss f → IsTerminals kind ts os fs
    → (os ≡ []) × IsTerminals kind (ss ++ Comma ∷ ts) [] (f ∷ fs)
more_inputs kind ss _ f _ fs e h (inputs several are) = (refl, inputs e (more h are))
more_inputs kind ss _ f _ _ e h (input one g) = absurd (clash (sym e ∙ one)) where
  clash : false ≡ true → ⊥
  clash c = cc
more_inputs kind ss _ f _ fs e h (output one t) = absurd (clash (sym e ∙ one)) where
  clash : false ≡ true → ⊥
  clash c = cc

further_input : (g : GateSoFar) (n : Option (List ℕ)) (r : Reading) (f : Formula) → has_one_input g.kind ≡ false → ended r ≡ Some f → (us : List Sign) (xs : List Entry)
    → Terminals (with_input g f) us xs → Ends (TerminalOpen g n r) (Comma ∷ us) xs
further_input g n r f several e us xs t ps reads is =
    let m = more_inputs g.kind (map Of ps) t.ss f t.os t.fs several (spelled (whole r ps f reads e)) t.are in
    record {
      ss = map Of ps ++ Comma ∷ t.ss;
      vs = t.vs;
      os = [];
      fs = f ∷ t.fs;
      ys = t.ys;
      cut = ap (λ vs. map Of ps ++ Comma ∷ vs) t.cut ∙ sym (append_assoc (map Of ps) (Comma ∷ t.ss) t.vs);
      are = m.1;
      later = t.later;
      is = t.is ∙ ap (λ fs. gate g.line g.kind (g.outputs ++ t.os) fs ∷ t.ys) (append_assoc g.inputs (f ∷ []) t.fs)
          ∙ ap (λ os. gate g.line g.kind (g.outputs ++ os) (g.inputs ++ f ∷ t.fs) ∷ t.ys) m.0;
    }

turns_input : (g : GateSoFar) (n : Option (List ℕ)) (r : Reading) (line : ℕ) (o : Option Formula) → has_one_input g.kind ≡ false → ended r ≡ o
    → Turns (TerminalOpen g n r) line Comma (input_read g o)
turns_input g n r line None several e = tt
turns_input g n r line (Some f) several e = within (TerminalOpen g n r) (TerminalWanted (with_input g f)) line Comma [] (further_input g n r f several e)

turns_terminal_comma : (g : GateSoFar) (n : Option (List ℕ)) (r : Reading) (line : ℕ) (b : Bool) → has_one_input g.kind ≡ b
    → Turns (TerminalOpen g n r) line Comma (cond b (output_read g n) (input_read g (ended r)))
turns_terminal_comma g n r line true e = turns_output g n r line e
turns_terminal_comma g n r line false e = turns_input g n r line (ended r) e refl

turns_terminal_open : (g : GateSoFar) (n : Option (List ℕ)) (r : Reading) (line : ℕ) (s : Sign) → Turns (TerminalOpen g n r) line s (from_terminal_open g n r s)
turns_terminal_open g n r line (Of Closing) = turns_closing g n r line (is_inside r)
turns_terminal_open g n r line (Of (Name m)) = terminal_goes_on g n r line (Name m) (taken r (Name m)) refl
turns_terminal_open g n r line (Of (Bit b)) = terminal_goes_on g n r line (Bit b) (taken r (Bit b)) refl
turns_terminal_open g n r line (Of Tilde) = terminal_goes_on g n r line Tilde (taken r Tilde) refl
turns_terminal_open g n r line (Of Ampersand) = terminal_goes_on g n r line Ampersand (taken r Ampersand) refl
turns_terminal_open g n r line (Of Caret) = terminal_goes_on g n r line Caret (taken r Caret) refl
turns_terminal_open g n r line (Of Bar) = terminal_goes_on g n r line Bar (taken r Bar) refl
turns_terminal_open g n r line (Of Question) = terminal_goes_on g n r line Question (taken r Question) refl
turns_terminal_open g n r line (Of Colon) = terminal_goes_on g n r line Colon (taken r Colon) refl
turns_terminal_open g n r line (Of Opening) = terminal_goes_on g n r line Opening (taken r Opening) refl
turns_terminal_open g n r line Comma = turns_terminal_comma g n r line (has_one_input g.kind) refl
turns_terminal_open g n r line _ = tt

turns_gate_read : (l : ℕ) (k : GateKind) (line : ℕ) (s : Sign) → Turns (GateRead l k) line s (from_gate_read l k s)
turns_gate_read l k line Comma = within (GateRead l k) (GateWanted l k) line Comma [] (λ us xs h. continues h)
turns_gate_read l k line Semicolon = finishes (GateRead l k) line Semicolon [] stops
turns_gate_read l k line _ = tt

-- ---- instances

turns_instance_wanted : (l : ℕ) (m : List ℕ) (line : ℕ) (s : Sign) → Turns (InstanceWanted l m) line s (from_instance_wanted l m s)
turns_instance_wanted l m line (Of (Name n)) = within (InstanceWanted l m) (InstanceNamed l m) line (name n) [] (λ us xs h. h n)
turns_instance_wanted l m line _ = tt

abbrev no_ties : ℕ → List ℕ → InstanceSoFar
no_ties l m = record { line = l; module_name = m; ties = [] }

instance_begins : (l : ℕ) (m : List ℕ) (us : List Sign) (xs : List Entry) → Ties (no_ties l m) us xs → Ends (InstanceNamed l m) (opening ∷ us) xs
instance_begins l m us xs t n =
    subst (λ vs. Instances l m (name n ∷ opening ∷ vs) xs) (sym t.cut)
    (subst (Instances l m (name n ∷ opening ∷ (t.ss ++ t.vs))) (sym t.is)
    (item_behind IsInstance (instance l m) (name n ∷ opening ∷ t.ss) t.vs t.ts t.ys (an_instance t.are) t.later))

turns_instance_named : (l : ℕ) (m : List ℕ) (line : ℕ) (s : Sign) → Turns (InstanceNamed l m) line s (from_instance_named l m s)
turns_instance_named l m line (Of Opening) = within (InstanceNamed l m) (TieWanted (no_ties l m)) line opening [] (instance_begins l m)
turns_instance_named l m line _ = tt

turns_tie_wanted : (i : InstanceSoFar) (line : ℕ) (s : Sign) → Turns (TieWanted i) line s (from_tie_wanted i s)
turns_tie_wanted i line Dot = within (TieWanted i) (TieDot i) line Dot [] (λ us xs h. h)
turns_tie_wanted i line _ = tt

turns_tie_dot : (i : InstanceSoFar) (line : ℕ) (s : Sign) → Turns (TieDot i) line s (from_tie_dot i s)
turns_tie_dot i line (Of (Name p)) = within (TieDot i) (TiePort i p) line (name p) [] (λ us xs h. h)
turns_tie_dot i line _ = tt

turns_tie_port : (i : InstanceSoFar) (p : List ℕ) (line : ℕ) (s : Sign) → Turns (TiePort i p) line s (from_tie_port i p s)
turns_tie_port i p line (Of Opening) = within (TiePort i p) (TieOpen i p) line opening [] (λ us xs h. h)
turns_tie_port i p line _ = tt

-- a tie before what is behind it
tie_before : (i : InstanceSoFar) (ss : List Sign) (p : List ℕ) (a : Option Actual) → IsTie ss (record { port = p; actual = a }) → (us : List Sign) (xs : List Entry)
    → TiesRead (with_tie i p a) us xs → Ties i (ss ++ us) xs
tie_before i ss p a tie _ _ (no_more {vs} {ys} h) = record {
  ss = ss ++ closing ∷ [];
  vs = vs;
  ts = record { port = p; actual = a } ∷ [];
  ys = ys;
  cut = sym (append_assoc ss (closing ∷ []) vs);
  are = last tie;
  later = h;
  is = refl;
}
tie_before i ss p a tie _ _ (further {us} {xs} t) = record {
  ss = ss ++ Comma ∷ t.ss;
  vs = t.vs;
  ts = record { port = p; actual = a } ∷ t.ts;
  ys = t.ys;
  cut = ap (λ vs. ss ++ Comma ∷ vs) t.cut ∙ sym (append_assoc ss (Comma ∷ t.ss) t.vs);
  are = more tie t.are;
  later = t.later;
  is = t.is ∙ ap (λ ts. instance i.line i.module_name ts ∷ t.ys) (append_assoc i.ties (record { port = p; actual = a } ∷ []) t.ts);
}

turns_tie_open : (i : InstanceSoFar) (p : List ℕ) (line : ℕ) (s : Sign) → Turns (TieOpen i p) line s (from_tie_open i p s)
turns_tie_open i p line (Of (Name n)) = within (TieOpen i p) (ActualRead i p (to_net n)) line (name n) [] (λ us xs h. h)
turns_tie_open i p line (Of (Bit b)) = within (TieOpen i p) (ActualRead i p (to_constant b)) line (Of (Bit b)) [] (λ us xs h. h)
turns_tie_open i p line (Of Closing) =
    within (TieOpen i p) (TieRead (with_tie i p None)) line closing [] (tie_before i (Dot ∷ name p ∷ opening ∷ closing ∷ []) p None no_tie)
turns_tie_open i p line _ = tt

turns_actual_read : (i : InstanceSoFar) (p : List ℕ) (a : Actual) (line : ℕ) (s : Sign) → Turns (ActualRead i p a) line s (from_actual_read i p a s)
turns_actual_read i p a line (Of Closing) =
    within (ActualRead i p a) (TieRead (with_tie i p (Some a))) line closing [] (tie_before i (Dot ∷ name p ∷ opening ∷ actual_sign a ∷ closing ∷ []) p (Some a) a_tie)
turns_actual_read i p a line _ = tt

turns_tie_read : (i : InstanceSoFar) (line : ℕ) (s : Sign) → Turns (TieRead i) line s (from_tie_read i s)
turns_tie_read i line Comma = within (TieRead i) (TieWanted i) line Comma [] (λ us xs h. further h)
turns_tie_read i line (Of Closing) =
    within (TieRead i) (InstanceRead i.line i.module_name) line closing (instance i.line i.module_name i.ties ∷ []) (λ us xs h. no_more h)
turns_tie_read i line _ = tt

turns_instance_read : (l : ℕ) (m : List ℕ) (line : ℕ) (s : Sign) → Turns (InstanceRead l m) line s (from_instance_read l m s)
turns_instance_read l m line Comma = within (InstanceRead l m) (InstanceWanted l m) line Comma [] (λ us xs h. continues h)
turns_instance_read l m line Semicolon = finishes (InstanceRead l m) line Semicolon [] stops
turns_instance_read l m line _ = tt

-- ---- statements

begin_gates : (line : ℕ) (k : GateKind) (us : List Sign) (xs : List Entry) → Gates line k us xs → IsStatement line (Gate k ∷ us) xs
begin_gates line k us xs h = statement_of line (Gate k ∷ us) xs _ h.is (gates h.are)

begin_instances : (line : ℕ) (m : List ℕ) (us : List Sign) (xs : List Entry) → Instances line m us xs → IsStatement line (name m ∷ us) xs
begin_instances line m us xs h = statement_of line (name m ∷ us) xs _ h.is (instances h.are)

begin_assigns : (line : ℕ) (us : List Sign) (xs : List Entry) → Assigns line us xs → IsStatement line (Assign ∷ us) xs
begin_assigns line us xs h = statement_of line (Assign ∷ us) xs _ h.is (assigns h.are)

begin_wires : (line : ℕ) (us : List Sign) (xs : List Entry) → Names line None us xs → IsStatement line (Wire ∷ us) xs
begin_wires line us xs h = statement_of line (Wire ∷ us) xs _ h.is (wires h.are)

turns_body : (line : ℕ) (s : Sign) → Turns Body line s (from_body line s)
turns_body line EndModule = λ ts later e. record {
  body = token line EndModule ∷ [];
  rest = ts;
  entries = [];
  modules = e.modules;
  cut = refl;
  are = body_ends;
  later = e.are;
  is = ap (λ es. ends ∷ es) e.is;
}
turns_body line Input = starts (DirectionWord line Inputs) line Input (λ us xs h. h)
turns_body line Output = starts (DirectionWord line Outputs) line Output (λ us xs h. h)
turns_body line Wire = starts (NameWanted line None) line Wire (begin_wires line)
turns_body line Assign = starts (TargetWanted line) line Assign (begin_assigns line)
turns_body line (Gate k) = starts (GateWanted line k) line (Gate k) (begin_gates line k)
turns_body line (Of (Name m)) = starts (InstanceWanted line m) line (name m) (begin_instances line m)
turns_body line _ = tt

-- ---- all places

turns : (place : Place) (line : ℕ) (s : Sign) → Turns place line s (step place line s)
turns Outside line s = turns_outside line s
turns Body line s = turns_body line s
turns (ModuleWord l) line s = turns_module_word l line s
turns (ModuleName l) line s = turns_module_name l line s
turns (PortWanted l d) line s = turns_port_wanted l d line s
turns (PortDirection l e) line s = turns_port_direction l e line s
turns (PortWire l e) line s = turns_port_wire l e line s
turns (PortRead l d) line s = turns_port_read l d line s
turns PortsRead line s = turns_ports_read line s
turns (DirectionWord l e) line s = turns_direction_word l e line s
turns (NameWanted l d) line s = turns_name_wanted l d line s
turns (NameRead l d) line s = turns_name_read l d line s
turns (TargetWanted l) line s = turns_target_wanted l line s
turns (TargetRead l n) line s = turns_target_read l n line s
turns (ValueOpen l n r) line s = turns_value_open l n r line s
turns (GateWanted l k) line s = turns_gate_wanted l k line s
turns (GateNamed l k) line s = turns_gate_named l k line s
turns (OutputWanted l k) line s = turns_output_wanted l k line s
turns (OutputRead l k o) line s = turns_output_read l k o line s
turns (TerminalWanted g) line s = turns_terminal_wanted g line s
turns (TerminalOpen g n r) line s = turns_terminal_open g n r line s
turns (GateRead l k) line s = turns_gate_read l k line s
turns (InstanceWanted l m) line s = turns_instance_wanted l m line s
turns (InstanceNamed l m) line s = turns_instance_named l m line s
turns (TieWanted i) line s = turns_tie_wanted i line s
turns (TieDot i) line s = turns_tie_dot i line s
turns (TiePort i p) line s = turns_tie_port i p line s
turns (TieOpen i p) line s = turns_tie_open i p line s
turns (ActualRead i p a) line s = turns_actual_read i p a line s
turns (TieRead i) line s = turns_tie_read i line s
turns (InstanceRead l m) line s = turns_instance_read l m line s

-- ---- texts

all_outside : (place : Place) (es : List Event) → at_end place ≡ Some es → EndsText place [] es
all_outside Outside es e = record { modules = []; are = nothing; is = same e } where
  same : Some [] ≡ Some es → es ≡ []
  same h = cc
all_outside _ es e = absurd (clash e) where
  clash : {X : Type 0} {x : X} → None ≡ Some x → ⊥
  clash h = cc

one_step : (place : Place) (t : Token) (ts : List Token) (es : List Event) (o : Option Step) (turn : Turns place t.line t.sign o)
    → ((q : Place) (later : List Event) → events_from ts q ≡ Some later → EndsText q ts later) → behind_step (events_from ts) o ≡ Some es → EndsText place (t ∷ ts) es
one_step place t ts es None turn ih e = absurd (clash e) where
  clash : {X : Type 0} {x : X} → None ≡ Some x → ⊥
  clash h = cc
one_step place t ts es (Some st) turn ih e = by_later (events_from ts st.place) refl e where
  by_later : (o : Option (List Event)) → events_from ts st.place ≡ o → option_map (λ later. st.events ++ later) o ≡ Some es → EndsText place (t ∷ ts) es
  by_later None h k = absurd (clash k) where
    clash : {X : Type 0} {x : X} → None ≡ Some x → ⊥
    clash c = cc
  by_later (Some later) h k = subst (EndsText place (t ∷ ts)) (same k) (turn ts later (ih st.place later h)) where
    same : Some (st.events ++ later) ≡ Some es → st.events ++ later ≡ es
    same c = cc

ends_text : (ts : List Token) (place : Place) (es : List Event) → events_from ts place ≡ Some es → EndsText place ts es
ends_text [] place es e = all_outside place es e
ends_text (t ∷ ts) place es e = one_step place t ts es (step place t.line t.sign) (turns place t.line t.sign) (ends_text ts) e

-- what is read is a text of modules, and the events are theirs
pub found : (ts : List Token) (es : List Event) → events_from ts Outside ≡ Some es → Tells ts es
found ts es e = let x = ends_text ts Outside es e in record { modules = x.modules; are = x.are; is = x.is }
