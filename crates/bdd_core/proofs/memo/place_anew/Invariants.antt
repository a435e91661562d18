use Rattle.std.proofs.Common.{◌≡◌, length, vec_capacity}
use Rattle.bdd_core.specs.Memo.{HoldsOnly}
use Rattle.bdd_core.proofs.memo.place_anew.Given as goal

abbrev pub invariant-loop-at : goal.invariant-loop-at
invariant-loop-at l = record {
  only : HoldsOnly l.initial.pairs.items l.pairs.items;
  len : length l.pairs.items ≡ length l.initial.pairs.items;
  capacity : vec_capacity l.pairs ≡ vec_capacity l.initial.pairs;
}
