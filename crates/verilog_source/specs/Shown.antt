-- The text that a fault of a Verilog text shows: its line, and what is wrong there.
use Rattle.std.specs.Prelude.{ℕ, ◌++◌, List, Option, None, Some, codes, decimal}
use Rattle.verilog_source.specs.declared.faults.VerilogFault.{VerilogFault}
use Rattle.verilog_source.specs.declared.faults.VerilogFault.TheVariants.{NotText, Unsupported, Syntax, ModuleTwice, PortForm, Unfinished, Limit, NoMemory}

-- its line, if it has one
abbrev pub line_of : VerilogFault → Option ℕ
line_of (NotText line) = Some line
line_of (Unsupported line word) = Some line
line_of (Syntax line) = Some line
line_of (ModuleTwice line name) = Some line
line_of (PortForm line name) = Some line
line_of (Unfinished line) = Some line
line_of (Limit line) = Some line
line_of NoMemory = None

-- what is wrong there
abbrev pub cause_of : VerilogFault → List ℕ
cause_of (NotText line) = codes "byte that is not text"
cause_of (Unsupported line word) = codes "not supported"
cause_of (Syntax line) = codes "statement does not fit"
cause_of (ModuleTwice line name) = codes "module twice"
cause_of (PortForm line name) = codes "port does not fit"
cause_of (Unfinished line) = codes "module not ended"
cause_of (Limit line) = codes "limit passed"
cause_of NoMemory = codes "out of memory"

-- the number of a line before what is wrong there
abbrev pub behind_line : Option ℕ → List ℕ → List ℕ
behind_line None cause = cause
behind_line (Some line) cause = codes "line " ++ decimal line ++ codes ": " ++ cause

abbrev pub fault_text : VerilogFault → List ℕ
fault_text fault = behind_line (line_of fault) (cause_of fault)
