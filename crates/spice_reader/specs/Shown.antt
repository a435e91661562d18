-- The text that a fault of a netlist shows: its line, and what is wrong there.
use Rattle.std.specs.Prelude.{ℕ, ◌++◌, List, Option, None, Some, codes, decimal}
use Rattle.spice_reader.specs.declared.faults.SpiceFault.{SpiceFault}
use Rattle.spice_reader.specs.declared.faults.SpiceFault.TheVariants.{NotText, Continuation, Unsupported, Short, Nested, NotOpen, EndsName, Unfinished, CellTwice, ElementTwice, PortTwice, Limit, NoMemory}

-- its line, if it has one
abbrev pub line_of : SpiceFault → Option ℕ
line_of (NotText line) = Some line
line_of (Continuation line) = Some line
line_of (Unsupported line word) = Some line
line_of (Short line) = Some line
line_of (Nested line) = Some line
line_of (NotOpen line) = Some line
line_of (EndsName line) = Some line
line_of (Unfinished line) = Some line
line_of (CellTwice line name) = Some line
line_of (ElementTwice line name) = Some line
line_of (PortTwice line name) = Some line
line_of (Limit line) = Some line
line_of NoMemory = None

-- what is wrong there
abbrev pub cause_of : SpiceFault → List ℕ
cause_of (NotText line) = codes "byte that is not text"
cause_of (Continuation line) = codes "nothing to continue"
cause_of (Unsupported line word) = codes "card not supported"
cause_of (Short line) = codes "too few words"
cause_of (Nested line) = codes "cell within a cell"
cause_of (NotOpen line) = codes ".ends outside a cell"
cause_of (EndsName line) = codes ".ends names another cell"
cause_of (Unfinished line) = codes "cell not ended"
cause_of (CellTwice line name) = codes "cell twice"
cause_of (ElementTwice line name) = codes "element twice"
cause_of (PortTwice line name) = codes "port twice"
cause_of (Limit line) = codes "limit passed"
cause_of NoMemory = codes "out of memory"

-- the number of a line before what is wrong there
abbrev pub behind_line : Option ℕ → List ℕ → List ℕ
behind_line None cause = cause
behind_line (Some line) cause = codes "line " ++ decimal line ++ codes ": " ++ cause

abbrev pub fault_text : SpiceFault → List ℕ
fault_text fault = behind_line (line_of fault) (cause_of fault)
