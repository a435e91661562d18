use Rattle.std.proofs.Common.{◌≡◌, ◌<◌, ℕ, true}
use Rattle.whole_circuits.specs.CellTests.{is_zero_at}
use Rattle.whole_circuits.proofs.cell_tests.names_no_global.Given as goal

-- none is named so far
abbrev pub invariant-loop-at : goal.invariant-loop-at
invariant-loop-at l = (j : ℕ) → j < l.at → is_zero_at l.unrolled.globals j ≡ true
