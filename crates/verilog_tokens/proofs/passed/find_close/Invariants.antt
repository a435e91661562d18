use Rattle.std.proofs.Common.{◌≡◌, ◌≤◌, ◌+◌, length}
use Rattle.verilog_tokens.specs.Passed.{behind_close}
use Rattle.verilog_tokens.proofs.passed.find_close.Given as goal

-- no end so far
abbrev pub invariant-bytes : goal.invariant-bytes
invariant-bytes l =
    (l.number + length l.rest ≤ l.fn.line + length l.fn.text) × (behind_close l.close l.number l.rest ≡ behind_close l.close l.fn.line l.fn.text)

abbrev pub decreases-bytes : goal.decreases-bytes
decreases-bytes l = length l.rest
