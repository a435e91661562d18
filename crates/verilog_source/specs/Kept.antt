-- What the reader knows, without where it lies in memory.
use Rattle.std.specs.Prelude.{ℕ, List, [], Option, Some, None}
use Rattle.verilog_source.specs.Known.{Gathered, Known}
use Rattle.verilog_source.specs.Places.{Event, Step}
use Rattle.verilog_source.specs.Positions.{events, place}
use Rattle.verilog_source.specs.declared.known.Gathering.{Gathering}
use Rattle.verilog_source.specs.declared.known.Known.{Known as KeptKnown}
use Rattle.verilog_source.specs.declared.position.Position.{Position}
use Rattle.verilog_source.specs.declared.position.Told.{Told}
use Rattle.verilog_source.specs.declared.position.Work.{Work}

abbrev pub gathered : Gathering → Gathered
gathered g = record { once = g.once; again = g.again }

abbrev pub seen_known : KeptKnown → Known
seen_known k = record { place = place k.position k.work; counts = k.counts; modules = k.modules; line = k.line; ports = gathered k.ports; directions = gathered k.directions }

-- the step that a token took, which told this, or none
abbrev pub step_told : Option Told → List ℕ → Position → Work → Option Step
step_told None bytes position w = None
step_told (Some told) bytes position w = Some (record { place = place position w; events = events told bytes w })

abbrev pub told_events : Option Step → List Event
told_events None = []
told_events (Some s) = s.events
