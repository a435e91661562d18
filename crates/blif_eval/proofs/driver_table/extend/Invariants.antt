use Rattle.std.proofs.Common.{◌≡◌, ◌++◌, take}
use Rattle.blif_eval.proofs.driver_table.extend.Given as goal

-- the drivers so far are behind those of before
abbrev pub invariant-loop-driver : goal.invariant-loop-driver
invariant-loop-driver l = l.drivers ≡ l.fn.drivers ++ take l.driver-index l.more
