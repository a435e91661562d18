use Rattle.std.proofs.Common.{◌≡◌, ◌&&◌, drop}
use Rattle.std.specs.List.{list_all}
use Rattle.blif_reader.specs.Refused.{is_input_byte}
use Rattle.blif_reader.proofs.judge.are_inputs.Given as goal

-- inputs so far
abbrev pub invariant-loop-b : goal.invariant-loop-b
invariant-loop-b l = (list_all is_input_byte (drop l.b-index l.bits) && l.all) ≡ list_all is_input_byte l.bits
