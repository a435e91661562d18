use Rattle.std.proofs.Common.{◌≡◌, ◌<◌, drop, length}
use Rattle.std.specs.Prelude.{IfSome}
use Rattle.mode_lines.specs.Lists.{last_from, last_place}
use Rattle.mode_lines.proofs.lists.last_place.Given as goal

-- what is found so far is below, and the bytes that are left have the answer of all
abbrev pub invariant-loop-at : goal.invariant-loop-at
invariant-loop-at l = record {
  is : last_from l.byte l.at l.found (drop l.at l.bytes) ≡ last_place l.byte l.bytes;
  low : IfSome l.found (λ at. at < length l.bytes);
}
