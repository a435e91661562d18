use Rattle.std.proofs.Common.{◌≡◌, drop, nat_lt}
use Rattle.std.specs.List.{list_all}
use Rattle.graphs.proofs.levels.all_levelled.Given as goal

-- none without a level so far
abbrev pub invariant-loop-level : goal.invariant-loop-level
invariant-loop-level l = list_all (λ n. nat_lt 0 n) (drop l.level-index l.levels) ≡ list_all (λ n. nat_lt 0 n) l.levels
