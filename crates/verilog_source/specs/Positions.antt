-- The places of the reader, without where they lie in memory.
use Rattle.std.specs.Prelude.{◌≡◌, ℕ, List, [], ◌∷◌, ◌++◌, Bool, true, false, map, Option, Some, None, option_map, cond}
use Rattle.verilog_expression.specs.Grammar.{Formula, seen}
use Rattle.verilog_expression.specs.Kept.{seen_progress}
use Rattle.verilog_source.specs.Grammar.{named, port_entries}
use Rattle.verilog_source.specs.Modules.{Actual, Entry, PortTie}
use Rattle.verilog_source.specs.Modules.Actual.{to_net, to_constant}
use Rattle.verilog_source.specs.Modules.Entry.{assigned, gate, instance}
use Rattle.verilog_source.specs.Places.{Event, GateSoFar, InstanceSoFar, Place, Step}
use Rattle.verilog_source.specs.Places.Event.{begins, has, ends}
use Rattle.verilog_source.specs.Places.Place.{Outside, Body, ModuleWord, ModuleName, PortWanted, PortDirection, PortWire, PortRead, PortsRead, DirectionWord, NameWanted, NameRead, TargetWanted, TargetRead, ValueOpen, GateWanted, GateNamed, OutputWanted, OutputRead, TerminalWanted, TerminalOpen, GateRead, InstanceWanted, InstanceNamed, TieWanted, TieDot, TiePort, TieOpen, ActualRead, TieRead, InstanceRead}
use Rattle.verilog_source.specs.declared.position.Actual.{Actual as KeptActual}
use Rattle.verilog_source.specs.declared.position.Actual.TheVariants.{Net, Constant}
use Rattle.verilog_source.specs.declared.position.Assign.{Assign}
use Rattle.verilog_source.specs.declared.position.Assign.TheVariants as A
use Rattle.verilog_source.specs.declared.position.Gate.{Gate}
use Rattle.verilog_source.specs.declared.position.Gate.TheVariants as G
use Rattle.verilog_source.specs.declared.position.Header.{Header}
use Rattle.verilog_source.specs.declared.position.Header.TheVariants as H
use Rattle.verilog_source.specs.declared.position.Instance.{Instance}
use Rattle.verilog_source.specs.declared.position.Instance.TheVariants as I
use Rattle.verilog_source.specs.declared.position.Listing.{Listing}
use Rattle.verilog_source.specs.declared.position.Listing.TheVariants as L
use Rattle.verilog_source.specs.declared.position.Next.{Next}
use Rattle.verilog_source.specs.declared.position.PortTie.{PortTie as KeptTie}
use Rattle.verilog_source.specs.declared.position.Position.{Position}
use Rattle.verilog_source.specs.declared.position.Position.TheVariants as P
use Rattle.verilog_source.specs.declared.position.Told.{Told}
use Rattle.verilog_source.specs.declared.position.Told.TheVariants as T
use Rattle.verilog_source.specs.declared.position.Work.{Work}
use Rattle.verilog_tokens.specs.declared.token.GateKind.{GateKind}

abbrev pub seen_actual : KeptActual → Actual
seen_actual (Net n) = to_net n
seen_actual (Constant b) = to_constant b

abbrev pub seen_tie : KeptTie → PortTie
seen_tie t = record { port = t.port; actual = option_map seen_actual t.actual }

abbrev pub gate_so_far : ℕ → GateKind → Work → GateSoFar
gate_so_far line kind w = record { line = line; kind = kind; outputs = w.outputs; inputs = map seen w.inputs }

abbrev pub instance_so_far : ℕ → Work → InstanceSoFar
instance_so_far line w = record { line = line; module_name = w.module; ties = map seen_tie w.ties }

-- a terminal that is so far a plain name
abbrev pub plain_name : Bool → List ℕ → Option (List ℕ)
plain_name true n = Some n
plain_name false n = None

-- the actual that is read; one is there where it is asked for
abbrev pub actual_read : Option KeptActual → Actual
actual_read None = to_constant false
actual_read (Some a) = seen_actual a

abbrev pub header_place : Header → Place
header_place (H.Word l) = ModuleWord l
header_place (H.Name l) = ModuleName l
header_place (H.PortWanted l d) = PortWanted l d
header_place (H.PortDirection l e) = PortDirection l e
header_place (H.PortWire l e) = PortWire l e
header_place (H.PortRead l d) = PortRead l d
header_place H.Ends = PortsRead

abbrev pub names_place : Listing → Place
names_place (L.Word l e) = DirectionWord l e
names_place (L.Wanted l d) = NameWanted l d
names_place (L.Read l d) = NameRead l d

abbrev pub assign_place : Assign → Work → Place
assign_place (A.Wanted l) w = TargetWanted l
assign_place (A.Read l) w = TargetRead l w.name
assign_place (A.Open l) w = ValueOpen l w.name (seen_progress w.progress)

abbrev pub gate_place : Gate → Work → Place
gate_place (G.Wanted l k) w = GateWanted l k
gate_place (G.Named l k) w = GateNamed l k
gate_place (G.OutputWanted l k) w = OutputWanted l k
gate_place (G.OutputRead l k) w = OutputRead l k w.name
gate_place (G.TerminalWanted l k) w = TerminalWanted (gate_so_far l k w)
gate_place (G.TerminalOpen l k plain) w = TerminalOpen (gate_so_far l k w) (plain_name plain w.name) (seen_progress w.progress)
gate_place (G.Read l k) w = GateRead l k

abbrev pub instance_place : Instance → Work → Place
instance_place (I.Wanted l) w = InstanceWanted l w.module
instance_place (I.Named l) w = InstanceNamed l w.module
instance_place (I.TieWanted l) w = TieWanted (instance_so_far l w)
instance_place (I.TieDot l) w = TieDot (instance_so_far l w)
instance_place (I.TiePort l) w = TiePort (instance_so_far l w) w.name
instance_place (I.TieOpen l) w = TieOpen (instance_so_far l w) w.name
instance_place (I.ActualRead l) w = ActualRead (instance_so_far l w) w.name (actual_read w.actual)
instance_place (I.TieRead l) w = TieRead (instance_so_far l w)
instance_place (I.Read l) w = InstanceRead l w.module

abbrev pub place : Position → Work → Place
place P.Outside w = Outside
place P.Body w = Body
place (P.Header h) w = header_place h
place (P.Names n) w = names_place n
place (P.Assign a) w = assign_place a w
place (P.Gate g) w = gate_place g w
place (P.Instance i) w = instance_place i w

-- what a token of these bytes tells, with what is read of the statement
abbrev pub events : Told → List ℕ → Work → List Event
events T.Nothing bytes w = []
events (T.Begins l) bytes w = begins l bytes ∷ []
events (T.Port l d) bytes w = map has (port_entries l d bytes)
events (T.Named l d) bytes w = map has (named l d bytes)
events (T.Assigned l) bytes w = map (λ e. has (assigned l w.name (seen e))) w.inputs
events (T.Gate l k) bytes w = has (gate l k w.outputs (map seen w.inputs)) ∷ []
events (T.Instance l) bytes w = has (instance l w.module (map seen_tie w.ties)) ∷ []
events T.Ends bytes w = ends ∷ []

-- the step that a token of these bytes takes, with what is read of the statement then
abbrev pub step_seen : Option Next → List ℕ → Work → Option Step
step_seen None bytes w = None
step_seen (Some next) bytes w = Some (record { place = place next.position w; events = events next.told bytes w })
