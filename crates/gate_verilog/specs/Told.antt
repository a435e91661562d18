-- What the tokens of a text tell, one by one.
use Rattle.std.specs.Prelude.{List, [], ◌∷◌, ◌++◌}
use Rattle.verilog_source.specs.Kept.{told_events}
use Rattle.verilog_source.specs.Known.{Known, learned, nothing_known}
use Rattle.verilog_source.specs.Places.{Event, step}
use Rattle.verilog_tokens.specs.Signs.{Token}

-- what tokens tell behind those that tell what is known
abbrev pub told_from : Known → List Token → List Event
told_from k [] = []
told_from k (t ∷ ts) = told_events (step k.place t.line t.sign) ++ told_from (learned k t) ts

unfoldable pub told_by : List Token → List Event
told_by tokens = told_from nothing_known tokens
