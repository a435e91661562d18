use Rattle.std.proofs.Common.{◌≡◌, take}
use Rattle.verilog_models.specs.Covers.{row_of}
use Rattle.verilog_models.proofs.functions.even_row.Given as goal

abbrev pub invariant-loop-input : goal.invariant-loop-input
invariant-loop-input l = l.row ≡ row_of l.byte (take l._input-index l.inputs)
