-- The text that a fault of a rules file shows: its line, and what is wrong there.
use Rattle.std.specs.Prelude.{ℕ, ◌++◌, List, Option, None, Some, codes, decimal}
use Rattle.rules_reader.specs.declared.faults.RulesFault.{RulesFault}
use Rattle.rules_reader.specs.declared.faults.RulesFault.TheVariants.{NotText, Word, Number, Expr, Twice, UnknownPhase, UnknownClock, Limit, NoMemory}

-- its line, if it has one
abbrev pub line_of : RulesFault → Option ℕ
line_of (NotText line) = Some line
line_of (Word line) = Some line
line_of (Number line) = Some line
line_of (Expr line) = Some line
line_of (Twice line name) = Some line
line_of (UnknownPhase line name) = Some line
line_of (UnknownClock line name) = Some line
line_of (Limit line) = Some line
line_of NoMemory = None

-- what is wrong there
abbrev pub cause_of : RulesFault → List ℕ
cause_of (NotText line) = codes "byte that is not text"
cause_of (Word line) = codes "line does not fit"
cause_of (Number line) = codes "number does not fit"
cause_of (Expr line) = codes "expression does not fit"
cause_of (Twice line name) = codes "given twice"
cause_of (UnknownPhase line name) = codes "no such phase"
cause_of (UnknownClock line name) = codes "no such clock"
cause_of (Limit line) = codes "limit passed"
cause_of NoMemory = codes "out of memory"

-- the number of a line before what is wrong there
abbrev pub behind_line : Option ℕ → List ℕ → List ℕ
behind_line None cause = cause
behind_line (Some line) cause = codes "line " ++ decimal line ++ codes ": " ++ cause

abbrev pub fault_text : RulesFault → List ℕ
fault_text fault = behind_line (line_of fault) (cause_of fault)
