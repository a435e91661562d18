use Rattle.std.proofs.Common.{◌≡◌, ◌++◌, replicate, vec_capacity}
use Rattle.bdd_core.specs.Memo.{no_pair}
use Rattle.bdd_core.proofs.memo.push_empty.Given as goal

abbrev pub invariant-loop : goal.invariant-loop
invariant-loop l = record {
  items : l.pairs.items ≡ l.initial.pairs.items ++ replicate l.counter no_pair;
  capacity : vec_capacity l.pairs ≡ vec_capacity l.initial.pairs;
}
