use Rattle.std.proofs.Common.{◌≡◌, find, length}
use Rattle.verilog_source.specs.Kept.{gathered}
use Rattle.verilog_source.specs.Refused.{is_bad_port}
use Rattle.verilog_source.proofs.judge.first_bad.Given as goal

-- none so far
abbrev pub invariant-names : goal.invariant-names
invariant-names l = find (is_bad_port (gathered l.ports) (gathered l.directions)) l.rest ≡ find (is_bad_port (gathered l.ports) (gathered l.directions)) l.fn.names

abbrev pub decreases-names : goal.decreases-names
decreases-names l = length l.rest
