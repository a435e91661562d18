-- The limits of an expression: 1,000 operators, and 64 parentheses that are open at once.
use Rattle.std.specs.Prelude.{◌+◌, ◌-◌, if◌then◌else◌, nat_lt, Option, Some, None}
use Rattle.verilog_expression.specs.declared.limits.Counts.{Counts}
use Rattle.verilog_tokens.specs.Signs.{Part}
use Rattle.verilog_tokens.specs.Signs.Part.{Name, Bit, Tilde, Ampersand, Caret, Bar, Question, Colon, Opening, Closing}

abbrev pub more_operators : Counts → Option Counts
more_operators c = if nat_lt c.operators 1000 then Some (record { operators = c.operators + 1; depth = c.depth }) else None

abbrev pub deeper : Counts → Option Counts
deeper c = if nat_lt c.depth 64 then Some (record { operators = c.operators; depth = c.depth + 1 }) else None

-- what is counted behind a part of the expression, none where a limit is passed; `?:` is one operator, at its `?`
abbrev pub counts_behind : Counts → Part → Option Counts
counts_behind c Opening = deeper c
counts_behind c Closing = Some (record { operators = c.operators; depth = c.depth - 1 })
counts_behind c Tilde = more_operators c
counts_behind c Ampersand = more_operators c
counts_behind c Caret = more_operators c
counts_behind c Bar = more_operators c
counts_behind c Question = more_operators c
counts_behind c (Name n) = Some c
counts_behind c (Bit b) = Some c
counts_behind c Colon = Some c

-- nothing is counted
abbrev pub uncounted : Counts
uncounted = record { operators = 0; depth = 0 }
