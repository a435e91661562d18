-- The text that a fault of a BLIF text shows: its line, and what is wrong there.
use Rattle.std.specs.Prelude.{ℕ, ◌++◌, List, Option, None, Some, codes, decimal}
use Rattle.blif_reader.specs.declared.faults.BlifFault.{BlifFault}
use Rattle.blif_reader.specs.declared.faults.BlifFault.TheVariants.{NotText, Unsupported, OutsideModel, Row, MixedRows, LatchForm, Formal, ModelTwice, Short, Limit, NoMemory}

-- its line, if it has one
abbrev pub line_of : BlifFault → Option ℕ
line_of (NotText line) = Some line
line_of (Unsupported line word) = Some line
line_of (OutsideModel line) = Some line
line_of (Row line) = Some line
line_of (MixedRows line) = Some line
line_of (LatchForm line) = Some line
line_of (Formal line) = Some line
line_of (ModelTwice line name) = Some line
line_of (Short line) = Some line
line_of (Limit line) = Some line
line_of NoMemory = None

-- what is wrong there
abbrev pub cause_of : BlifFault → List ℕ
cause_of (NotText line) = codes "byte that is not text"
cause_of (Unsupported line word) = codes "card not supported"
cause_of (OutsideModel line) = codes "outside a model"
cause_of (Row line) = codes "row does not fit"
cause_of (MixedRows line) = codes "rows of both values"
cause_of (LatchForm line) = codes "latch does not fit"
cause_of (Formal line) = codes "tie does not fit"
cause_of (ModelTwice line name) = codes "model twice"
cause_of (Short line) = codes "too few words"
cause_of (Limit line) = codes "limit passed"
cause_of NoMemory = codes "out of memory"

-- the number of a line before what is wrong there
abbrev pub behind_line : Option ℕ → List ℕ → List ℕ
behind_line None cause = cause
behind_line (Some line) cause = codes "line " ++ decimal line ++ codes ": " ++ cause

abbrev pub fault_text : BlifFault → List ℕ
fault_text fault = behind_line (line_of fault) (cause_of fault)
