use Rattle.std.proofs.Common.{◌≡◌}
use Rattle.whole_circuits.specs.Counts.{bears_below}
use Rattle.whole_circuits.proofs.counts.bears_all.Given as goal

-- the levels so far
abbrev pub invariant-loop-level : goal.invariant-loop-level
invariant-loop-level l = l.all ≡ bears_below l.fn.counts l.fn.drive l.fn.net l.level
