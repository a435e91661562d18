-- The text that a fault of a model shows: its line, and what is wrong there.
use Rattle.std.specs.Prelude.{ℕ, ◌++◌, List, Option, None, Some, codes, decimal}
use Rattle.blif_checks.specs.declared.faults.ModelFault.{ModelFault}
use Rattle.blif_checks.specs.declared.faults.ModelFault.TheVariants.{UnknownModel, Formals, Recursion, Depth, DrivenTwice, Undriven, NoMemory}

-- its line, if it has one
abbrev pub line_of : ModelFault → Option ℕ
line_of (UnknownModel line name) = Some line
line_of (Formals line name) = Some line
line_of (Recursion line name) = Some line
line_of (Depth line depth) = Some line
line_of (DrivenTwice line name) = Some line
line_of (Undriven line name) = Some line
line_of NoMemory = None

-- what is wrong there
abbrev pub cause_of : ModelFault → List ℕ
cause_of (UnknownModel line name) = codes "no such model"
cause_of (Formals line name) = codes "tie does not fit"
cause_of (Recursion line name) = codes "model contains itself"
cause_of (Depth line depth) = codes "deeper than 32"
cause_of (DrivenTwice line name) = codes "two drivers"
cause_of (Undriven line name) = codes "no driver"
cause_of NoMemory = codes "out of memory"

-- the number of a line before what is wrong there
abbrev pub behind_line : Option ℕ → List ℕ → List ℕ
behind_line None cause = cause
behind_line (Some line) cause = codes "line " ++ decimal line ++ codes ": " ++ cause

abbrev pub fault_text : ModelFault → List ℕ
fault_text fault = behind_line (line_of fault) (cause_of fault)
