use Rattle.std.proofs.Common.{◌≡◌, ℕ, ◌<◌, length, slice_index}
use Rattle.channel_parts.proofs.least.numbers.Given as goal

abbrev pub invariant-loop-net : goal.invariant-loop-net
invariant-loop-net l = record {
  len : length l.labels.items ≡ l.net;
  own : (n : ℕ) → n < l.net → slice_index l.labels.items n ≡ n;
}
