-- The lines that tell why a file is refused.
use Rattle.std.specs.Prelude.{ℕ, List, [], ◌∷◌, ◌++◌, codes}
use Rattle.std.specs.Fmt.{decimal}
use Rattle.blif_checks.specs.declared.faults.ModelFault.{ModelFault}
use Rattle.blif_checks.specs.declared.faults.ModelFault.TheVariants as models
use Rattle.blif_reader.specs.declared.faults.BlifFault.{BlifFault}
use Rattle.blif_reader.specs.declared.faults.BlifFault.TheVariants as blif
use Rattle.rules_reader.specs.declared.faults.RulesFault.{RulesFault}
use Rattle.rules_reader.specs.declared.faults.RulesFault.TheVariants as rules
use Rattle.spice_reader.specs.declared.faults.SpiceFault.{SpiceFault}
use Rattle.spice_reader.specs.declared.faults.SpiceFault.TheVariants as spice
use Rattle.verilog_source.specs.declared.faults.VerilogFault.{VerilogFault}
use Rattle.verilog_source.specs.declared.faults.VerilogFault.TheVariants as verilog

-- pieces, one behind the other
abbrev pub joined : List (List ℕ) → List ℕ
joined [] = []
joined (piece ∷ pieces) = piece ++ joined pieces

-- a refusal: the file, the line, and the text of the cause in two pieces, of which the second is a name or empty
abbrev pub refusal_line : List ℕ → ℕ → List ℕ → List ℕ → List ℕ
refusal_line file line cause name =
    joined (codes "verity: " ∷ file ∷ codes " line " ∷ decimal line ∷ codes ": " ∷ cause ∷ name ∷ codes "\n" ∷ [])

-- the line of a SPICE fault; want of memory has none
abbrev pub spice_line : List ℕ → SpiceFault → List ℕ
spice_line file (spice.NotText line) = refusal_line file line (codes "byte that is not text") []
spice_line file (spice.Continuation line) = refusal_line file line (codes "nothing to continue") []
spice_line file (spice.Unsupported line word) = refusal_line file line (codes "card not supported: ") word
spice_line file (spice.Short line) = refusal_line file line (codes "too few words") []
spice_line file (spice.Nested line) = refusal_line file line (codes "cell within a cell") []
spice_line file (spice.NotOpen line) = refusal_line file line (codes ".ends outside a cell") []
spice_line file (spice.EndsName line) = refusal_line file line (codes ".ends names another cell") []
spice_line file (spice.Unfinished line) = refusal_line file line (codes "cell not ended") []
spice_line file (spice.CellTwice line name) = refusal_line file line (codes "cell twice: ") name
spice_line file (spice.ElementTwice line name) = refusal_line file line (codes "element twice: ") name
spice_line file (spice.PortTwice line name) = refusal_line file line (codes "port twice: ") name
spice_line file (spice.Limit line) = refusal_line file line (codes "limit passed") []
spice_line file spice.NoMemory = []

-- the line of a BLIF fault; want of memory has none
abbrev pub blif_line : List ℕ → BlifFault → List ℕ
blif_line file (blif.NotText line) = refusal_line file line (codes "byte that is not text") []
blif_line file (blif.Unsupported line word) = refusal_line file line (codes "card not supported: ") word
blif_line file (blif.OutsideModel line) = refusal_line file line (codes "outside a model") []
blif_line file (blif.Row line) = refusal_line file line (codes "row does not fit") []
blif_line file (blif.MixedRows line) = refusal_line file line (codes "rows of both values") []
blif_line file (blif.LatchForm line) = refusal_line file line (codes "latch does not fit") []
blif_line file (blif.Formal line) = refusal_line file line (codes "tie does not fit") []
blif_line file (blif.ModelTwice line name) = refusal_line file line (codes "model twice: ") name
blif_line file (blif.Short line) = refusal_line file line (codes "too few words") []
blif_line file (blif.Limit line) = refusal_line file line (codes "limit passed") []
blif_line file blif.NoMemory = []

-- the line of a fault of modules in Verilog; want of memory has none
abbrev pub verilog_line : List ℕ → VerilogFault → List ℕ
verilog_line file (verilog.NotText line) = refusal_line file line (codes "byte that is not text") []
verilog_line file (verilog.Unsupported line word) = refusal_line file line (codes "not supported: ") word
verilog_line file (verilog.Syntax line) = refusal_line file line (codes "statement does not fit") []
verilog_line file (verilog.ModuleTwice line name) = refusal_line file line (codes "module twice: ") name
verilog_line file (verilog.PortForm line name) = refusal_line file line (codes "port does not fit: ") name
verilog_line file (verilog.Unfinished line) = refusal_line file line (codes "module not ended") []
verilog_line file (verilog.Limit line) = refusal_line file line (codes "limit passed") []
verilog_line file verilog.NoMemory = []

-- the line of a fault of the rules; want of memory has none
abbrev pub rules_line : List ℕ → RulesFault → List ℕ
rules_line file (rules.NotText line) = refusal_line file line (codes "byte that is not text") []
rules_line file (rules.Word line) = refusal_line file line (codes "line does not fit") []
rules_line file (rules.Number line) = refusal_line file line (codes "number does not fit") []
rules_line file (rules.Expr line) = refusal_line file line (codes "expression does not fit") []
rules_line file (rules.Twice line name) = refusal_line file line (codes "given twice: ") name
rules_line file (rules.UnknownPhase line name) = refusal_line file line (codes "no phase ") name
rules_line file (rules.UnknownClock line name) = refusal_line file line (codes "no clock ") name
rules_line file (rules.Limit line) = refusal_line file line (codes "limit passed") []
rules_line file rules.NoMemory = []

-- the line of a fault of models that cannot be unrolled; want of memory has none
abbrev pub models_line : List ℕ → ModelFault → List ℕ
models_line file (models.UnknownModel line name) = refusal_line file line (codes "no model ") name
models_line file (models.Formals line name) = refusal_line file line (codes "tie does not fit: ") name
models_line file (models.Recursion line name) = refusal_line file line (codes "model contains itself: ") name
models_line file (models.Depth line depth) = refusal_line file line (codes "deeper than 32") []
models_line file (models.DrivenTwice line name) = refusal_line file line (codes "two drivers: ") name
models_line file (models.Undriven line name) = refusal_line file line (codes "no driver: ") name
models_line file models.NoMemory = []
