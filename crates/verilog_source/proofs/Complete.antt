-- Each text of modules is read.
use Rattle.std.proofs.Common.{◌≡◌, ◌++◌, ◌∷◌, [], ℕ, List, Bool, true, false, cond, Option, Some, None, is_some, option_map, map, flat_map, refl, ap, sym, subst, ◌∙◌, append-nil, append_assoc}
use Rattle.verilog_expression.specs.Grammar.{Formula, IsExpression}
use Rattle.verilog_expression.specs.Grammar.Formula.{a_net}
use Rattle.verilog_expression.specs.Kept.{is_inside}
use Rattle.verilog_expression.specs.Readings.{Around, Reading, Waiting, closed, ended, ended_by, ended_in, formula_of, reached as read_to, nothing as nothing_waits, read_on, start, taken, taken_by, up_to_or, with_operand}
use Rattle.verilog_expression.specs.Readings.Around.{parentheses, condition, branch}
use Rattle.verilog_expression.proofs.Begun.{read_reached}
use Rattle.verilog_expression.proofs.Complete.{found as expression_found}
use Rattle.verilog_source.specs.Grammar.{ArePorts, IsAssign, IsBody, IsFormula, IsGate, IsInstance, IsLabel, IsName, IsPort, IsPortList, IsSource, IsStatement, IsTerminals, IsTie, IsWire, Lists, actual_sign, closing, direction_sign, has_one_input, name, named, opening, port_entries, signs}
use Rattle.verilog_source.specs.Grammar.ArePorts.{last_port, more_ports}
use Rattle.verilog_source.specs.Grammar.IsAssign.{an_assign}
use Rattle.verilog_source.specs.Grammar.IsBody.{ends as body_ends, goes_on}
use Rattle.verilog_source.specs.Grammar.IsFormula.{spelled}
use Rattle.verilog_source.specs.Grammar.IsGate.{a_gate}
use Rattle.verilog_source.specs.Grammar.IsInstance.{an_instance}
use Rattle.verilog_source.specs.Grammar.IsLabel.{no_label, a_label}
use Rattle.verilog_source.specs.Grammar.IsName.{a_name}
use Rattle.verilog_source.specs.Grammar.IsPort.{a_port, with_direction}
use Rattle.verilog_source.specs.Grammar.IsPortList.{no_ports, ports}
use Rattle.verilog_source.specs.Grammar.IsSource.{nothing, a_module}
use Rattle.verilog_source.specs.Grammar.IsStatement.{directions, wires, assigns, gates, instances}
use Rattle.verilog_source.specs.Grammar.IsTerminals.{inputs, input, output}
use Rattle.verilog_source.specs.Grammar.IsTie.{a_tie, no_tie}
use Rattle.verilog_source.specs.Grammar.IsWire.{no_wire, a_wire}
use Rattle.verilog_source.specs.Grammar.Lists.{last, more}
use Rattle.verilog_source.specs.Modules.{Actual, Entry, Module, PortTie}
use Rattle.verilog_source.specs.declared.position.Direction.{Direction}
use Rattle.verilog_source.specs.Modules.Actual.{to_net, to_constant}
use Rattle.verilog_source.specs.declared.position.Direction.TheVariants.{Inputs, Outputs}
use Rattle.verilog_source.specs.Modules.Entry.{assigned, gate, instance}
use Rattle.verilog_source.specs.Places.{Event, GateSoFar, InstanceSoFar, Place, Step, behind_step, events_from, events_of, gate_read, in_terminal, input_read, output_read, plain, step, value_read, with_input, with_output, with_tie}
use Rattle.verilog_source.specs.Places.Event.{begins, has, ends}
use Rattle.verilog_source.specs.Places.Place.{Outside, Body, ModuleWord, ModuleName, PortWanted, PortDirection, PortWire, PortRead, PortsRead, DirectionWord, NameWanted, NameRead, TargetWanted, TargetRead, ValueOpen, GateWanted, GateNamed, OutputWanted, OutputRead, TerminalWanted, TerminalOpen, GateRead, InstanceWanted, InstanceNamed, TieWanted, TieDot, TiePort, TieOpen, ActualRead, TieRead, InstanceRead}
use Rattle.verilog_source.proofs.Sound.{events_join}
use Rattle.verilog_tokens.specs.Signs.{Part, Sign, Token}
use Rattle.verilog_tokens.specs.Signs.Part.{Name, Bit, Tilde, Ampersand, Caret, Bar, Question, Colon, Opening, Closing}
use Rattle.verilog_tokens.specs.Signs.Sign.{Of, Comma, Semicolon, Dot, Equals, Module as ModuleSign, EndModule, Input, Output, Wire, Assign, Gate}
use Rattle.verilog_tokens.specs.declared.token.GateKind.{GateKind}

abbrev pub at : Place → List Event → Step
at place events = record { place = place; events = events }

-- signs lead from a place to another, on whatever lines they stand, and tell these events
pub data Runs : Place → List Sign → List Event → Place → Type 0 where
  stop : {p : Place} → Runs p [] [] p
  go :
      {p q r : Place} {s : Sign} {ss : List Sign} (es : List Event) {fs : List Event} → ((line : ℕ) → step p line s ≡ Some (at q es)) → Runs q ss fs r
      → Runs p (s ∷ ss) (es ++ fs) r

pub told : {p q : Place} {ss : List Sign} (es fs : List Event) → es ≡ fs → Runs p ss es q → Runs p ss fs q
told {p} {q} {ss} es fs e r = subst (λ xs. Runs p ss xs q) e r

pub joins : {p q r : Place} {ss ts : List Sign} {es fs : List Event} → Runs p ss es q → Runs q ts fs r → Runs p (ss ++ ts) (es ++ fs) r
joins stop b = b
joins {fs = fs} (go es {fs = gs} e a) b = told (es ++ (gs ++ fs)) ((es ++ gs) ++ fs) (sym (append_assoc es gs fs)) (go es e (joins a b))

has_join : (xs ys : List Entry) → map has (xs ++ ys) ≡ map has xs ++ map has ys
has_join [] ys = refl
has_join (x ∷ xs) ys = ap (λ zs. has x ∷ zs) (has_join xs ys)

-- ---- expressions

-- parts of an expression are read, and it can end
pub record ReadTo (r : Reading) (ps : List Part) (f : Formula) : Type 0 where
  pub reading : Reading
  pub reads : read_to (Some r) ps ≡ Some reading
  pub ends_there : ended reading ≡ Some f

pub read_all : (r : Reading) (ps : List Part) (f : Formula) → read_on (Some r) ps ≡ Some f → ReadTo r ps f
read_all r ps f e = by_reached (read_to (Some r) ps) refl where
  at_the_end : read_on (read_to (Some r) ps) [] ≡ Some f
  at_the_end = sym (read_reached ps [] (Some r)) ∙ ap (read_on (Some r)) (append-nil ps) ∙ e

  by_reached : (o : Option Reading) → read_to (Some r) ps ≡ o → ReadTo r ps f
  by_reached None h = absurd (clash (sym (ap (λ x. read_on x []) h) ∙ at_the_end)) where
    clash : None ≡ Some f → ⊥
    clash c = cc
  by_reached (Some q) h = record { reading = q; reads = h; ends_there = sym (ap (λ x. read_on x []) h) ∙ at_the_end }

spelled_reads : (ps : List Part) (f : Formula) → IsExpression ps f → ReadTo start ps f
unfolding formula_of
spelled_reads ps f s = read_all start ps f (expression_found ps f s)

same_reading : (a b : Reading) → Some a ≡ Some b → a ≡ b
same_reading a b e = cc

none_read : (r : Reading) (ps : List Part) → read_to None ps ≡ Some r → ⊥
none_read r [] e = cc
none_read r (p ∷ ps) e = cc

pub value_run : (l : ℕ) (n : List ℕ) (ps : List Part) (r q : Reading) → read_to (Some r) ps ≡ Some q → Runs (ValueOpen l n r) (map Of ps) [] (ValueOpen l n q)
value_run l n [] r q e = subst (λ x. Runs (ValueOpen l n r) [] [] (ValueOpen l n x)) (same_reading r q e) stop
value_run l n (p ∷ ps) r q e = by_taken (taken r p) refl e (λ next k. value_run l n ps next q k) where
  by_taken : (o : Option Reading) → taken r p ≡ o → read_to o ps ≡ Some q
      → ((next : Reading) → read_to (Some next) ps ≡ Some q → Runs (ValueOpen l n next) (map Of ps) [] (ValueOpen l n q)) → Runs (ValueOpen l n r) (map Of (p ∷ ps)) [] (ValueOpen l n q)
  by_taken None h k later = absurd (none_read q ps k)
  by_taken (Some next) h k later = go [] (λ line. ap (option_map (λ x. at (ValueOpen l n x) [])) h) (later next k)

-- ---- the statements of names and values

names_run : (l : ℕ) (d : Option Direction) {ss : List Sign} {ns : List (List ℕ)} → Lists IsName Semicolon ss ns
    → Runs (NameWanted l d) ss (map has (flat_map (named l d) ns)) Body
names_run l d (last (a_name {n})) =
    told (map has (named l d n) ++ []) (map has (named l d n ++ [])) (sym (has_join (named l d n) [])) (go (map has (named l d n)) (λ line. refl) (go [] (λ line. refl) stop))
names_run l d (more {xs = ns} (a_name {n}) rest) =
    told (map has (named l d n) ++ map has (flat_map (named l d) ns)) (map has (named l d n ++ flat_map (named l d) ns)) (sym (has_join (named l d n) (flat_map (named l d) ns)))
    (go (map has (named l d n)) (λ line. refl) (go [] (λ line. refl) (names_run l d rest)))

-- names behind a direction
without_wire : (l : ℕ) (e : Direction) {ss : List Sign} {ns : List (List ℕ)} → Lists IsName Semicolon ss ns
    → Runs (DirectionWord l e) ss (map has (flat_map (named l (Some e)) ns)) Body
without_wire l e (last (a_name {n})) = go (map has (named l (Some e) n)) (λ line. refl) (go [] (λ line. refl) stop)
without_wire l e (more {xs = ns} (a_name {n}) rest) = go (map has (named l (Some e) n)) (λ line. refl) (go [] (λ line. refl) (names_run l (Some e) rest))

abbrev assigned_entry : ℕ → List ℕ × Formula → Entry
assigned_entry l x = assigned l x.0 x.1

assigns_run : (l : ℕ) {ss : List Sign} {xs : List (List ℕ × Formula)} → Lists IsAssign Semicolon ss xs → Runs (TargetWanted l) ss (map has (map (assigned_entry l) xs)) Body
assigns_run l (last (an_assign {n} (spelled {ps} {f} s))) =
    let x = spelled_reads ps f s in
    go [] (λ line. refl) (go [] (λ line. refl)
    (joins (value_run l n ps start x.reading x.reads) (go (has (assigned l n f) ∷ []) (λ line. ap (value_read l n Body) x.ends_there) stop)))
assigns_run l (more (an_assign {n} (spelled {ps} {f} s)) rest) =
    let x = spelled_reads ps f s in
    go [] (λ line. refl) (go [] (λ line. refl)
    (joins (value_run l n ps start x.reading x.reads) (go (has (assigned l n f) ∷ []) (λ line. ap (value_read l n (TargetWanted l)) x.ends_there) (assigns_run l rest))))

-- ---- gates

not_closed : (outer : List Around) (f g : Formula) → ended_in outer f ≡ Some g → is_some (closed outer f) ≡ false
not_closed [] f g e = refl
not_closed (branch c h ∷ outer) f g e = not_closed outer _ g e
not_closed (condition c ∷ outer) f g e = refl
not_closed (parentheses w ∷ outer) f g e = cc

not_inside_by : (w : Waiting) (outer : List Around) (o : Option Formula) (g : Formula) → ended_by w outer o ≡ Some g → is_some (taken_by w outer o Closing) ≡ false
not_inside_by w outer None g e = refl
not_inside_by w outer (Some f) g e = not_closed outer (up_to_or w f) g e

-- where an expression can end, a `)` does not belong to it
not_inside : (r : Reading) (g : Formula) → ended r ≡ Some g → is_inside r ≡ false
not_inside r g e = not_inside_by r.inner r.outer r.operand g e

open_step : (g : GateSoFar) (n : Option (List ℕ)) (r q : Reading) (p : Part) → taken r p ≡ Some q → (line : ℕ) → step (TerminalOpen g n r) line (Of p) ≡ Some (at (TerminalOpen g None q) [])
open_step g n r q (Name m) e line = ap (in_terminal g None) e
open_step g n r q (Bit b) e line = ap (in_terminal g None) e
open_step g n r q Tilde e line = ap (in_terminal g None) e
open_step g n r q Ampersand e line = ap (in_terminal g None) e
open_step g n r q Caret e line = ap (in_terminal g None) e
open_step g n r q Bar e line = ap (in_terminal g None) e
open_step g n r q Question e line = ap (in_terminal g None) e
open_step g n r q Colon e line = ap (in_terminal g None) e
open_step g n r q Opening e line = ap (in_terminal g None) e
open_step g n r q Closing e line =
    ap (λ b. cond b (in_terminal g None (taken r Closing)) (gate_read g (ended r))) (ap is_some e) ∙ ap (in_terminal g None) e

-- a terminal that is read on
pub record TerminalRuns (g : GateSoFar) (n : Option (List ℕ)) (r : Reading) (ps : List Part) (q : Reading) : Type 0 where
  pub so_far : Option (List ℕ)
  pub runs : Runs (TerminalOpen g n r) (map Of ps) [] (TerminalOpen g so_far q)

pub terminal_run : (g : GateSoFar) (n : Option (List ℕ)) (ps : List Part) (r q : Reading) → read_to (Some r) ps ≡ Some q → TerminalRuns g n r ps q
terminal_run g n [] r q e = record { so_far = n; runs = subst (λ x. Runs (TerminalOpen g n r) [] [] (TerminalOpen g n x)) (same_reading r q e) stop }
terminal_run g n (p ∷ ps) r q e = by_taken (taken r p) refl e (λ next k. terminal_run g None ps next q k) where
  by_taken : (o : Option Reading) → taken r p ≡ o → read_to o ps ≡ Some q → ((next : Reading) → read_to (Some next) ps ≡ Some q → TerminalRuns g None next ps q)
      → TerminalRuns g n r (p ∷ ps) q
  by_taken None h k later = absurd (none_read q ps k)
  by_taken (Some next) h k later = let x = later next k in record { so_far = x.so_far; runs = go [] (open_step g n r next p h) x.runs }

-- a terminal from its first part on
record WholeTerminal (g : GateSoFar) (ps : List Part) (f : Formula) : Type 0 where
  so_far : Option (List ℕ)
  reading : Reading
  runs : Runs (TerminalWanted g) (map Of ps) [] (TerminalOpen g so_far reading)
  ends_there : ended reading ≡ Some f

whole_terminal : (g : GateSoFar) (ps : List Part) (f : Formula) → IsExpression ps f → WholeTerminal g ps f
whole_terminal g ps f s = by_parts ps (spelled_reads ps f s) where
  by_first : (p : Part) (qs : List Part) (r : Reading) (o : Option Reading) → taken start p ≡ o → read_to o qs ≡ Some r → ended r ≡ Some f → WholeTerminal g (p ∷ qs) f
  by_first p qs r None h k e = absurd (none_read r qs k)
  by_first p qs r (Some next) h k e =
      let x = terminal_run g (plain p) qs next r k in
      record { so_far = x.so_far; reading = r; runs = go [] (λ line. ap (in_terminal g (plain p)) h) x.runs; ends_there = e }

  by_parts : (ps : List Part) → ReadTo start ps f → WholeTerminal g ps f
  by_parts [] x = absurd (clash (ap ended (same_reading start x.reading x.reads) ∙ x.ends_there)) where
    clash : None ≡ Some f → ⊥
    clash c = cc
  by_parts (p ∷ qs) x = by_first p qs x.reading (taken start p) refl x.reads x.ends_there

pub closing_step : (g : GateSoFar) (n : Option (List ℕ)) (r : Reading) (f : Formula) → ended r ≡ Some f → (line : ℕ)
    → step (TerminalOpen g n r) line closing ≡ Some (at (GateRead g.line g.kind) (has (gate g.line g.kind g.outputs (g.inputs ++ f ∷ [])) ∷ []))
closing_step g n r f e line =
    ap (λ b. cond b (in_terminal g None (taken r Closing)) (gate_read g (ended r))) (not_inside r f e) ∙ ap (gate_read g) e

abbrev gate_event : GateSoFar → List (List ℕ) → List Formula → List Event
gate_event g os fs = has (gate g.line g.kind os fs) ∷ []

-- the last terminal
last_run : (g : GateSoFar) (ps : List Part) (f : Formula) → IsExpression ps f
    → Runs (TerminalWanted g) (map Of ps ++ closing ∷ []) (gate_event g (g.outputs ++ []) (g.inputs ++ f ∷ [])) (GateRead g.line g.kind)
last_run g ps f s =
    let x = whole_terminal g ps f s in
    told (gate_event g g.outputs (g.inputs ++ f ∷ [])) (gate_event g (g.outputs ++ []) (g.inputs ++ f ∷ [])) (ap (λ os. gate_event g os (g.inputs ++ f ∷ [])) (sym (append-nil g.outputs)))
    (joins x.runs (go (gate_event g g.outputs (g.inputs ++ f ∷ [])) (closing_step g x.so_far x.reading f x.ends_there) stop))

-- a plain name, read as an expression
abbrev name_read : List ℕ → Reading
name_read o = with_operand nothing_waits [] (a_net o)

inputs_run : (g : GateSoFar) {ss : List Sign} {fs : List Formula} → has_one_input g.kind ≡ false → Lists IsFormula closing ss fs
    → Runs (TerminalWanted g) ss (gate_event g (g.outputs ++ []) (g.inputs ++ fs)) (GateRead g.line g.kind)
inputs_run g several (last (spelled {ps} {f} s)) = last_run g ps f s
inputs_run g several (more {xs = fs} (spelled {ps} {f} s) rest) =
    let x = whole_terminal g ps f s in
    told (gate_event g (g.outputs ++ []) ((g.inputs ++ f ∷ []) ++ fs)) (gate_event g (g.outputs ++ []) (g.inputs ++ f ∷ fs))
    (ap (λ gs. gate_event g (g.outputs ++ []) gs) (append_assoc g.inputs (f ∷ []) fs))
    (joins x.runs (go [] (λ line. ap (λ b. cond b (output_read g x.so_far) (input_read g (ended x.reading))) several ∙ ap (input_read g) x.ends_there) (inputs_run (with_input g f) several rest)))

terminals_run : {kind : GateKind} {ss : List Sign} {os : List (List ℕ)} {fs : List Formula} → IsTerminals kind ss os fs → (g : GateSoFar) → g.kind ≡ kind
    → Runs (TerminalWanted g) ss (gate_event g (g.outputs ++ os) (g.inputs ++ fs)) (GateRead g.line g.kind)
terminals_run (inputs several are) g e = inputs_run g (ap has_one_input e ∙ several) are
terminals_run (input one (spelled {ps} {f} s)) g e = last_run g ps f s
terminals_run (output {o} {ss} {os} {fs} one rest) g e =
    told (gate_event g ((g.outputs ++ o ∷ []) ++ os) (g.inputs ++ fs)) (gate_event g (g.outputs ++ o ∷ os) (g.inputs ++ fs))
    (ap (λ ps. gate_event g ps (g.inputs ++ fs)) (append_assoc g.outputs (o ∷ []) os))
    (go [] (λ line. refl) (go [] (λ line. ap (λ b. cond b (output_read g (Some o)) (input_read g (ended (name_read o)))) (ap has_one_input e ∙ one)) (terminals_run rest (with_output g o) e)))

abbrev gate_of : ℕ → GateKind → List (List ℕ) × List Formula → Entry
gate_of l k x = gate l k x.0 x.1

gate_run : (l : ℕ) (k : GateKind) {ss : List Sign} {x : List (List ℕ) × List Formula} → IsGate k ss x → Runs (GateWanted l k) ss (has (gate_of l k x) ∷ []) (GateRead l k)
gate_run l k (a_gate {o = o} no_label t) =
    go [] (λ line. refl) (go [] (λ line. refl) (go [] (λ line. refl) (terminals_run t (record { line = l; kind = k; outputs = o ∷ []; inputs = [] }) refl)))
gate_run l k (a_gate {o = o} a_label t) =
    go [] (λ line. refl) (go [] (λ line. refl) (go [] (λ line. refl) (go [] (λ line. refl) (terminals_run t (record { line = l; kind = k; outputs = o ∷ []; inputs = [] }) refl))))

gates_run : (l : ℕ) (k : GateKind) {ss : List Sign} {xs : List (List (List ℕ) × List Formula)} → Lists (IsGate k) Semicolon ss xs
    → Runs (GateWanted l k) ss (map has (map (gate_of l k) xs)) Body
gates_run l k (last g) = joins (gate_run l k g) (go [] (λ line. refl) stop)
gates_run l k (more g rest) = joins (gate_run l k g) (go [] (λ line. refl) (gates_run l k rest))

-- ---- instances

abbrev instance_event : InstanceSoFar → List PortTie → List Event
instance_event i ts = has (instance i.line i.module_name ts) ∷ []

tie_run : (i : InstanceSoFar) {ss : List Sign} {t : PortTie} → IsTie ss t → Runs (TieWanted i) ss [] (TieRead (with_tie i t.port t.actual))
tie_run i (a_tie {p} {a = to_net n}) = go [] (λ line. refl) (go [] (λ line. refl) (go [] (λ line. refl) (go [] (λ line. refl) (go [] (λ line. refl) stop))))
tie_run i (a_tie {p} {a = to_constant b}) = go [] (λ line. refl) (go [] (λ line. refl) (go [] (λ line. refl) (go [] (λ line. refl) (go [] (λ line. refl) stop))))
tie_run i (no_tie {p}) = go [] (λ line. refl) (go [] (λ line. refl) (go [] (λ line. refl) (go [] (λ line. refl) stop)))

ties_run : (i : InstanceSoFar) {ss : List Sign} {ts : List PortTie} → Lists IsTie closing ss ts → Runs (TieWanted i) ss (instance_event i (i.ties ++ ts)) (InstanceRead i.line i.module_name)
ties_run i (last {x = t} tie) = joins (tie_run i tie) (go (instance_event i (i.ties ++ t ∷ [])) (λ line. refl) stop)
ties_run i (more {x = t} {xs = ts} tie rest) =
    told (instance_event i ((i.ties ++ t ∷ []) ++ ts)) (instance_event i (i.ties ++ t ∷ ts)) (ap (instance_event i) (append_assoc i.ties (t ∷ []) ts))
    (joins (tie_run i tie) (go [] (λ line. refl) (ties_run (with_tie i t.port t.actual) rest)))

instance_run : (l : ℕ) (m : List ℕ) {ss : List Sign} {ts : List PortTie} → IsInstance ss ts → Runs (InstanceWanted l m) ss (has (instance l m ts) ∷ []) (InstanceRead l m)
instance_run l m (an_instance t) = go [] (λ line. refl) (go [] (λ line. refl) (ties_run (record { line = l; module_name = m; ties = [] }) t))

instances_run : (l : ℕ) (m : List ℕ) {ss : List Sign} {xs : List (List PortTie)} → Lists IsInstance Semicolon ss xs
    → Runs (InstanceWanted l m) ss (map has (map (instance l m) xs)) Body
instances_run l m (last x) = joins (instance_run l m x) (go [] (λ line. refl) stop)
instances_run l m (more x rest) = joins (instance_run l m x) (go [] (λ line. refl) (instances_run l m rest))

-- ---- ports

read_port : (l : ℕ) (d : Option Direction) (n : List ℕ) (p : Place) → ((line : ℕ) → step p line (name n) ≡ Some (at (PortRead l d) (map has (port_entries l d n))))
    → Runs p (name n ∷ []) (map has (port_entries l d n)) (PortRead l d)
read_port l d n p e = told (map has (port_entries l d n) ++ []) (map has (port_entries l d n)) (append-nil _) (go (map has (port_entries l d n)) e stop)

port_run : (l : ℕ) {d e : Option Direction} {ss : List Sign} {n : List ℕ} → IsPort d ss n e → Runs (PortWanted l d) ss (map has (port_entries l e n)) (PortRead l e)
port_run l (a_port {d} {n}) = read_port l d n (PortWanted l d) (λ line. refl)
port_run l (with_direction {d} {e = Inputs} {n = n} no_wire) = go [] (λ line. refl) (read_port l (Some Inputs) n (PortDirection l Inputs) (λ line. refl))
port_run l (with_direction {d} {e = Outputs} {n = n} no_wire) = go [] (λ line. refl) (read_port l (Some Outputs) n (PortDirection l Outputs) (λ line. refl))
port_run l (with_direction {d} {e = Inputs} {n = n} a_wire) = go [] (λ line. refl) (go [] (λ line. refl) (read_port l (Some Inputs) n (PortWire l Inputs) (λ line. refl)))
port_run l (with_direction {d} {e = Outputs} {n = n} a_wire) = go [] (λ line. refl) (go [] (λ line. refl) (read_port l (Some Outputs) n (PortWire l Outputs) (λ line. refl)))

ports_run : (l : ℕ) {d : Option Direction} {ss : List Sign} {es : List Entry} → ArePorts l d ss es → Runs (PortWanted l d) ss (map has es) Body
ports_run l (last_port {d} {e} {ss} {n} p) =
    told (map has (port_entries l e n) ++ []) (map has (port_entries l e n)) (append-nil _) (joins (port_run l p) (go [] (λ line. refl) (go [] (λ line. refl) stop)))
ports_run l (more_ports {d} {e} {ss} {ts} {n} {es} p rest) =
    told (map has (port_entries l e n) ++ map has es) (map has (port_entries l e n ++ es)) (sym (has_join (port_entries l e n) es))
    (joins (port_run l p) (go [] (λ line. refl) (ports_run l rest)))

list_run : (l : ℕ) {ss : List Sign} {es : List Entry} → IsPortList l ss es → Runs (ModuleName l) ss (map has es) Body
list_run l no_ports = go [] (λ line. refl) stop
list_run l (ports p) = go [] (λ line. refl) (ports_run l p)

-- ---- statements

record Started (line : ℕ) (s : Sign) (ss : List Sign) (es : List Entry) : Type 0 where
  place : Place
  first : step Body line s ≡ Some (at place [])
  runs : Runs place ss (map has es) Body

statement_run : (line : ℕ) {s : Sign} {ss : List Sign} {es : List Entry} → IsStatement line (s ∷ ss) es → Started line s ss es
statement_run line (directions Inputs no_wire ns) = record { place = DirectionWord line Inputs; first = refl; runs = without_wire line Inputs ns }
statement_run line (directions Outputs no_wire ns) = record { place = DirectionWord line Outputs; first = refl; runs = without_wire line Outputs ns }
statement_run line (directions Inputs a_wire ns) = record { place = DirectionWord line Inputs; first = refl; runs = go [] (λ l. refl) (names_run line (Some Inputs) ns) }
statement_run line (directions Outputs a_wire ns) = record { place = DirectionWord line Outputs; first = refl; runs = go [] (λ l. refl) (names_run line (Some Outputs) ns) }
statement_run line (wires ns) = record { place = NameWanted line None; first = refl; runs = names_run line None ns }
statement_run line (assigns xs) = record { place = TargetWanted line; first = refl; runs = assigns_run line xs }
statement_run line (gates {kind} xs) = record { place = GateWanted line kind; first = refl; runs = gates_run line kind xs }
statement_run line (instances {m} xs) = record { place = InstanceWanted line m; first = refl; runs = instances_run line m xs }

-- ---- texts

maps_join : (es fs : List Event) (o : Option (List Event)) → option_map (λ later. es ++ later) (option_map (λ later. fs ++ later) o) ≡ option_map (λ later. (es ++ fs) ++ later) o
maps_join es fs None = refl
maps_join es fs (Some later) = ap Some (sym (append_assoc es fs later))

map_none : (o : Option (List Event)) → o ≡ option_map (λ later. [] ++ later) o
map_none None = refl
map_none (Some later) = refl

same_first : {X : Type 0} {x y : X} {xs ys : List X} → x ∷ xs ≡ y ∷ ys → x ≡ y
same_first e = cc

same_rest : {X : Type 0} {x y : X} {xs ys : List X} → x ∷ xs ≡ y ∷ ys → xs ≡ ys
same_rest e = cc

no_signs : {X : Type 0} {x : X} {xs : List X} → [] ≡ x ∷ xs → ⊥
no_signs e = cc

-- tokens of these signs
pub run_tokens : {p q : Place} {ss : List Sign} {es : List Event} → Runs p ss es q → (ts rest : List Token) → signs ts ≡ ss
    → events_from (ts ++ rest) p ≡ option_map (λ later. es ++ later) (events_from rest q)
run_tokens {p} stop [] rest h = map_none (events_from rest p)
run_tokens stop (t ∷ ts) rest h = absurd (no_signs (sym h))
run_tokens (go es e r) [] rest h = absurd (no_signs h)
run_tokens {p} (go {q} {r = after} {s} es {fs} e r) (t ∷ ts) rest h =
    ap (behind_step (events_from (ts ++ rest))) (ap (step p t.line) (same_first h) ∙ e t.line)
    ∙ ap (option_map (λ later. es ++ later)) (run_tokens r ts rest (same_rest h)) ∙ maps_join es fs (events_from rest after)

body_run : {body : List Token} {fs : List Entry} → IsBody body fs → (rest : List Token) → events_from (body ++ rest) Body ≡ option_map (λ later. map has fs ++ ends ∷ later) (events_from rest Outside)
body_run body_ends rest = refl
body_run (goes_on t ts {rest = body} {es} {fs} s b) rest =
    let x = statement_run t.line s in
    ap (λ us. events_from (t ∷ us) Body) (append_assoc ts body rest)
    ∙ ap (behind_step (events_from (ts ++ (body ++ rest)))) x.first
    ∙ sym (map_none (events_from (ts ++ (body ++ rest)) x.place))
    ∙ run_tokens x.runs ts (body ++ rest) refl
    ∙ ap (option_map (λ later. map has es ++ later)) (body_run b rest)
    ∙ joined (events_from rest Outside) where
      joined : (o : Option (List Event)) → option_map (λ later. map has es ++ later) (option_map (λ later. map has fs ++ ends ∷ later) o)
          ≡ option_map (λ later. map has (es ++ fs) ++ ends ∷ later) o
      joined None = refl
      joined (Some later) = ap Some (sym (events_join es fs (ends ∷ later)))

pub source_run : {ts : List Token} {ms : List Module} → IsSource ts ms → events_from ts Outside ≡ Some (events_of ms)
source_run nothing = refl
source_run (a_module {line} {named_on} {n} ts {body} {rest} {es} {fs} {ms} p b later) =
    let at_rest = source_run later in
    let at_body = body_run b rest ∙ ap (option_map (λ xs. map has fs ++ ends ∷ xs)) at_rest in
    let at_list = run_tokens (list_run line p) ts (body ++ rest) refl ∙ ap (option_map (λ xs. map has es ++ xs)) at_body in
    ap (λ o. option_map (λ xs. [] ++ xs) (option_map (λ xs. (begins line n ∷ []) ++ xs) o)) at_list
    ∙ ap (λ xs. Some (begins line n ∷ xs)) (sym (events_join es fs (ends ∷ events_of ms)))

-- ---- one list of modules

clash : {X : Type 0} (e : Entry) (xs ys : List Event) → ends ∷ xs ≡ has e ∷ ys → X
clash e xs ys h = cc

same_has : (a b : Entry) (xs ys : List Event) → has a ∷ xs ≡ has b ∷ ys → a ≡ b
same_has a b xs ys h = cc

split : (es fs : List Entry) (xs ys : List Event) → map has es ++ ends ∷ xs ≡ map has fs ++ ends ∷ ys → (es ≡ fs) × (xs ≡ ys)
split [] [] xs ys h = (refl, same_rest h)
split [] (f ∷ fs) xs ys h = clash f xs (map has fs ++ ends ∷ ys) h
split (e ∷ es) [] xs ys h = clash e ys (map has es ++ ends ∷ xs) (sym h)
split (e ∷ es) (f ∷ fs) xs ys h =
    let x = split es fs xs ys (same_rest h) in
    (ap (λ a. a ∷ es) (same_has e f (map has es ++ ends ∷ xs) (map has fs ++ ends ∷ ys) h) ∙ ap (λ as'. f ∷ as') x.0, x.1)

same_line : (l k : ℕ) (n m : List ℕ) (xs ys : List Event) → begins l n ∷ xs ≡ begins k m ∷ ys → l ≡ k
same_line l k n m xs ys h = cc

same_name : (l k : ℕ) (n m : List ℕ) (xs ys : List Event) → begins l n ∷ xs ≡ begins k m ∷ ys → n ≡ m
same_name l k n m xs ys h = cc

same_module : (l k : ℕ) (n m : List ℕ) (es fs : List Entry) → l ≡ k → n ≡ m → es ≡ fs
    → (let a : Module = record { line = l; name = n; entries = es } in a) ≡ record { line = k; name = m; entries = fs }
same_module l k n m es fs a b c = cc

same_modules : (ms ns : List Module) → events_of ms ≡ events_of ns → ms ≡ ns
same_modules [] [] h = refl
same_modules [] (n ∷ ns) h = absurd (no_signs h)
same_modules (m ∷ ms) [] h = absurd (no_signs (sym h))
same_modules (m ∷ ms) (n ∷ ns) h =
    let x = split m.entries n.entries (events_of ms) (events_of ns) (same_rest h) in
    ap (λ a. a ∷ ms) (same_module m.line n.line m.name n.name m.entries n.entries (same_line _ _ m.name n.name _ _ h) (same_name m.line n.line _ _ _ _ h) x.0)
    ∙ ap (λ as'. n ∷ as') (same_modules ms ns x.1)

same_events : (a b : List Event) → Some a ≡ Some b → a ≡ b
same_events a b e = cc

-- tokens are a text of one list of modules at most
pub one : (ts : List Token) (ms ns : List Module) → IsSource ts ms → IsSource ts ns → ms ≡ ns
one ts ms ns a b = same_modules ms ns (same_events (events_of ms) (events_of ns) (sym (source_run a) ∙ source_run b))
