use Rattle.std.proofs.Common.{◌≡◌, ◌≤◌, ◌+◌, length}
use Rattle.verilog_tokens.specs.Passed.{place_at}
use Rattle.verilog_tokens.specs.Tokens.{tokens_from}
use Rattle.verilog_tokens.proofs.reader.next_token.Given as goal

-- the tokens are the same so far
abbrev pub invariant-passed : goal.invariant-passed
invariant-passed l =
    (l.place.line + length l.place.bytes.now ≤ l.fn.place.line + length l.fn.place.bytes.now)
    × (tokens_from (place_at l.fn.place.line l.fn.place.is_fresh l.fn.place.bytes.now) ≡ tokens_from (place_at l.place.line l.place.is_fresh l.place.bytes.now))

abbrev pub decreases-passed : goal.decreases-passed
decreases-passed l = length l.place.bytes.now
