use Rattle.std.proofs.Common.{◌≡◌, length}
use Rattle.circuit_faults.specs.Keys.{AreNetRanks}
use Rattle.circuit_faults.proofs.ranking.net_ranks.Given as goal

-- the ranks of the first parts were noted
abbrev pub invariant-loop-part : goal.invariant-loop-part
invariant-loop-part l = record {
  len : length l.ranks.items ≡ l.count;
  noted : AreNetRanks l.parts l.part-index l.ranks.items;
}
