-- The gates of a text of modules have an input, and `buf` and `not` no more.
use Rattle.std.proofs.Common.{◌≡◌, ◌≤◌, ℕ, Bool, true, false, List, [], ◌∷◌, ◌++◌, map, flat_map, length, All, Option, Some, None, refl, arith}
use Rattle.std.proofs.lemmas.List.Elements.{All-append, All-cons, All-map, All-nil}
use Rattle.verilog_expression.specs.Grammar.{Formula}
use Rattle.verilog_meaning.specs.Terminals.{HasTerminals, IsWhole}
use Rattle.verilog_source.specs.Grammar.{ArePorts, IsBody, IsGate, IsPortList, IsSource, IsStatement, IsTerminals, Lists, has_one_input, named, port_entries}
use Rattle.verilog_source.specs.Grammar.ArePorts.{last_port, more_ports}
use Rattle.verilog_source.specs.Grammar.IsBody.{ends, goes_on}
use Rattle.verilog_source.specs.Grammar.IsGate.{a_gate}
use Rattle.verilog_source.specs.Grammar.IsPortList.{no_ports, ports}
use Rattle.verilog_source.specs.Grammar.IsSource.{nothing, a_module}
use Rattle.verilog_source.specs.Grammar.IsStatement.{directions, wires, assigns, gates, instances}
use Rattle.verilog_source.specs.Grammar.IsTerminals.{inputs, input, output}
use Rattle.verilog_source.specs.Grammar.Lists.{last, more}
use Rattle.verilog_source.specs.Modules.{Entry, Module, PortTie}
use Rattle.verilog_source.specs.Modules.Entry.{listed, directed, assigned, gate, instance}
use Rattle.verilog_source.specs.declared.position.Direction.{Direction}
use Rattle.verilog_tokens.specs.Signs.{Sign, Token}
use Rattle.verilog_tokens.specs.declared.token.GateKind.{GateKind}

-- ---- lists

each_of : {X : Type 0} {Form : List Sign → X → Type 0} {end : Sign} (P : X → Type 0) → ((ss : List Sign) (x : X) → Form ss x → P x) → {ss : List Sign} {xs : List X} → Lists Form end ss xs → All P xs
each_of P f (last {ss} {x} h) = All-cons P x [] (f ss x h) (All-nil P)
each_of P f (more {ss} {ts} {x} {xs} h hs) = All-cons P x xs (f ss x h) (each_of P f hs)

some_item : {X : Type 0} {Form : List Sign → X → Type 0} {end : Sign} {ss : List Sign} {xs : List X} → Lists Form end ss xs → 1 ≤ length xs
some_item (last h) = omega arith
some_item (more {ss} {ts} {x} {xs} h hs) = omega arith

-- ---- gates

clash : (b : Bool) → b ≡ false → b ≡ true → ⊥
clash true e h = cc
clash false e h = cc

terminals_are : {kind : GateKind} {ss : List Sign} {os : List (List ℕ)} {fs : List Formula} → IsTerminals kind ss os fs → HasTerminals kind (length fs)
terminals_are {kind} (inputs e l) = record { some = some_item l; one = λ h. absurd (clash (has_one_input kind) e h) }
terminals_are (input e f) = record { some = omega arith; one = λ h. refl }
terminals_are (output e t) = terminals_are t

gate_is : (kind : GateKind) (ss : List Sign) (x : List (List ℕ) × List Formula) → IsGate kind ss x → HasTerminals kind (length x.1) × (1 ≤ length x.0)
gate_is kind _ _ (a_gate {ls} {ss} {o} {os} {fs} l t) = (terminals_are t, omega arith)

-- ---- statements

named_whole : (line : ℕ) (d : Option Direction) (n : List ℕ) → All IsWhole (named line d n)
named_whole line None n = All-nil IsWhole
named_whole line (Some d) n = All-cons IsWhole (directed line d n) [] tt (All-nil IsWhole)

names_whole : (line : ℕ) (d : Option Direction) (ns : List (List ℕ)) → All IsWhole (flat_map (named line d) ns)
names_whole line d [] = All-nil IsWhole
names_whole line d (n ∷ ns) = All-append IsWhole (named line d n) (flat_map (named line d) ns) (named_whole line d n) (names_whole line d ns)

assigns_whole : (line : ℕ) (xs : List (List ℕ × Formula)) → All IsWhole (map (λ (x : List ℕ × Formula). assigned line x.0 x.1) xs)
assigns_whole line [] = All-nil IsWhole
assigns_whole line (x ∷ xs) = All-cons IsWhole (assigned line x.0 x.1) (map (λ (x : List ℕ × Formula). assigned line x.0 x.1) xs) tt (assigns_whole line xs)

instances_whole : (line : ℕ) (m : List ℕ) (xs : List (List PortTie)) → All IsWhole (map (instance line m) xs)
instances_whole line m [] = All-nil IsWhole
instances_whole line m (x ∷ xs) = All-cons IsWhole (instance line m x) (map (instance line m) xs) tt (instances_whole line m xs)

statement_whole : {line : ℕ} {ss : List Sign} {es : List Entry} → IsStatement line ss es → All IsWhole es
statement_whole {line} (directions d {ws} {ss} {ns} w l) = names_whole line (Some d) ns
statement_whole {line} (wires {ss} {ns} l) = names_whole line None ns
statement_whole {line} (assigns {ss} {xs} l) = assigns_whole line xs
statement_whole {line} (gates {kind} {ss} {xs} l) =
    All-map IsWhole (λ (x : List (List ℕ) × List Formula). gate line kind x.0 x.1) xs
    (each_of (λ (x : List (List ℕ) × List Formula). HasTerminals kind (length x.1) × (1 ≤ length x.0)) (gate_is kind) l)
statement_whole {line} (instances {m} {ss} {xs} l) = instances_whole line m xs

-- ---- modules

port_whole : (line : ℕ) (d : Option Direction) (n : List ℕ) → All IsWhole (port_entries line d n)
port_whole line d n = All-cons IsWhole (listed n) (named line d n) tt (named_whole line d n)

ports_whole : {line : ℕ} {d : Option Direction} {ss : List Sign} {es : List Entry} → ArePorts line d ss es → All IsWhole es
ports_whole {line} (last_port {d} {e} {ss} {n} p) = port_whole line e n
ports_whole {line} (more_ports {d} {e} {ss} {ts} {n} {es} p ps) = All-append IsWhole (port_entries line e n) es (port_whole line e n) (ports_whole ps)

list_whole : {line : ℕ} {ss : List Sign} {es : List Entry} → IsPortList line ss es → All IsWhole es
list_whole no_ports = All-nil IsWhole
list_whole (ports p) = ports_whole p

body_whole : {ts : List Token} {es : List Entry} → IsBody ts es → All IsWhole es
body_whole ends = All-nil IsWhole
body_whole (goes_on t ts {rest} {es} {fs} s b) = All-append IsWhole es fs (statement_whole s) (body_whole b)

pub source_whole : {ts : List Token} {ms : List Module} → IsSource ts ms → All (λ (m : Module). All IsWhole m.entries) ms
source_whole nothing = All-nil (λ (m : Module). All IsWhole m.entries)
source_whole (a_module {line} {named_on} {n} ts {body} {rest} {es} {fs} {ms} p b later) =
    All-cons (λ (m : Module). All IsWhole m.entries) (record { line = line; name = n; entries = es ++ fs }) ms (All-append IsWhole es fs (list_whole p) (body_whole b)) (source_whole later)
