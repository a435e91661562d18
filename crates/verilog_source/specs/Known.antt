-- What the tokens so far tell of the next.
use Rattle.std.specs.Prelude.{ℕ, List, [], ◌∷◌, ◌++◌, Bool, if◌then◌else◌, Option, Some, None, unwrap_or}
use Rattle.names.specs.Names.{with_name}
use Rattle.verilog_expression.specs.Limits.{counts_behind, uncounted}
use Rattle.verilog_expression.specs.declared.limits.Counts.{Counts}
use Rattle.verilog_source.specs.Modules.{Entry}
use Rattle.verilog_source.specs.Modules.Entry.{listed, directed, assigned, gate, instance}
use Rattle.verilog_source.specs.Places.{Event, Place, Step, step}
use Rattle.verilog_source.specs.Places.Event.{begins, has, ends}
use Rattle.verilog_source.specs.Places.Place.{Outside, ValueOpen, TerminalWanted, TerminalOpen}
use Rattle.verilog_tokens.specs.Signs.{Sign, Token}
use Rattle.verilog_tokens.specs.Signs.Sign.{Of}
use Rattle.vrt_model.specs.Lists.{has_name}

-- names, each once, and those of them that came again
pub record Gathered : Type 0 where
  pub once : List (List ℕ)
  pub again : List (List ℕ)

abbrev pub with_one : Gathered → List ℕ → Gathered
with_one g n = if has_name g.once n then record { once = g.once; again = with_name g.again n } else record { once = with_name g.once n; again = g.again }

abbrev pub none_gathered : Gathered
none_gathered = record { once = []; again = [] }

-- Where the text stands, what is counted of the expression that is open, the names of all modules, and of the last module
-- its line, its listed ports and the names with directions.
pub record Known : Type 0 where
  pub place : Place
  pub counts : Counts
  pub modules : List (List ℕ)
  pub line : ℕ
  pub ports : Gathered
  pub directions : Gathered

abbrev pub nothing_known : Known
nothing_known = record { place = Outside; counts = uncounted; modules = []; line = 0; ports = none_gathered; directions = none_gathered }

abbrev pub with_entry : Known → Entry → Known
with_entry k (listed n) = record k { ports = with_one k.ports n }
with_entry k (directed l d n) = record k { directions = with_one k.directions n }
with_entry k (assigned l n f) = k
with_entry k (gate l g os fs) = k
with_entry k (instance l m ts) = k

abbrev pub with_event : Known → Event → Known
with_event k (begins l n) = record k { modules = with_name k.modules n; line = l; ports = none_gathered; directions = none_gathered }
with_event k (has e) = with_entry k e
with_event k ends = k

abbrev pub with_events : Known → List Event → Known
with_events k [] = k
with_events k (e ∷ es) = with_events (with_event k e) es

-- what is counted of an expression behind a token, none where a limit of it is passed
abbrev pub counts_of_sign : Counts → Sign → Option Counts
counts_of_sign c (Of part) = counts_behind c part
counts_of_sign c s = Some uncounted

abbrev pub counted : Place → Counts → Sign → Option Counts
counted (ValueOpen l n r) c s = counts_of_sign c s
counted (TerminalOpen g n r) c s = counts_of_sign c s
counted (TerminalWanted g) c s = counts_of_sign uncounted s
counted place c s = Some uncounted

-- what is known behind a token that can stand there
abbrev pub learned_by : Known → Token → Option Step → Known
learned_by k t None = k
learned_by k t (Some s) = with_events (record k { place = s.place; counts = unwrap_or (counted k.place k.counts t.sign) uncounted }) s.events

abbrev pub learned : Known → Token → Known
learned k t = learned_by k t (step k.place t.line t.sign)

abbrev pub known_from : Known → List Token → Known
known_from k [] = k
known_from k (t ∷ ts) = known_from (learned k t) ts

-- what tokens tell
unfoldable pub known_by : List Token → Known
known_by tokens = known_from nothing_known tokens
