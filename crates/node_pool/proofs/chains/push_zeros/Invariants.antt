use Rattle.std.proofs.Common.{◌≡◌, ◌++◌, replicate, vec_capacity}
use Rattle.node_pool.proofs.chains.push_zeros.Given as goal

abbrev pub invariant-loop : goal.invariant-loop
invariant-loop l = record {
  items : l.words.items ≡ l.initial.words.items ++ replicate l.counter 0;
  capacity : vec_capacity l.words ≡ vec_capacity l.initial.words;
}
