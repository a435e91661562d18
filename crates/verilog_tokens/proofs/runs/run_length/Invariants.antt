use Rattle.std.proofs.Common.{◌≡◌, ◌≤◌, ◌++◌, ◌-◌, length, drop, take}
use Rattle.text_lines.specs.Groups.{up_to}
use Rattle.verilog_tokens.specs.Runs.{ends_run}
use Rattle.verilog_tokens.proofs.runs.run_length.Given as goal

-- no end so far
abbrev pub invariant-bytes : goal.invariant-bytes
invariant-bytes l = (l.at ≤ length l.text) × (take l.at l.text ++ up_to (ends_run l.run) (drop l.at l.text) ≡ up_to (ends_run l.run) l.text)

abbrev pub decreases-bytes : goal.decreases-bytes
decreases-bytes l = length l.text - l.at
