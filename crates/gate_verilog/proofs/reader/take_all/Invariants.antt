use Rattle.std.proofs.Common.{◌≤◌, ◌+◌, length}
use Rattle.gate_verilog.proofs.ReadLaws.{Reads}
use Rattle.verilog_source.specs.Kept.{seen_known}
use Rattle.verilog_tokens.specs.Passed.{place_at}
use Rattle.verilog_tokens.specs.Tokens.{tokens_from}
use Rattle.gate_verilog.proofs.reader.take_all.Given as goal

-- no token so far has a fault, and the models are those of these tokens
abbrev pub invariant-tokens : goal.invariant-tokens
invariant-tokens l =
    Reads (tokens_from (place_at l.fn.place.line l.fn.place.is_fresh l.fn.place.bytes.now)) (tokens_from (place_at l.place.line l.place.is_fresh l.place.bytes.now)) (seen_known l.known) l.models l.draft
    × (l.place.line + length l.place.bytes.now ≤ l.fn.place.line + length l.fn.place.bytes.now)

abbrev pub decreases-tokens : goal.decreases-tokens
decreases-tokens l = length (tokens_from (place_at l.place.line l.place.is_fresh l.place.bytes.now))
