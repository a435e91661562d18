use Rattle.std.proofs.Common.{◌≡◌, ℕ, ◌<◌, length, slice_index}
use Rattle.channel_parts.specs.Ranks.{rank_by}
use Rattle.channel_parts.proofs.ranking.by_net.Given as goal

abbrev pub invariant-loop-net : goal.invariant-loop-net
invariant-loop-net l = record {
  len : length l.table.items ≡ l.net;
  ranks : (n : ℕ) → n < l.net → slice_index l.table.items n ≡ rank_by l.circuit l.least l.ranks n;
}
