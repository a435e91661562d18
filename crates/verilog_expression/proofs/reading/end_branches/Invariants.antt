use Rattle.std.proofs.Common.{◌≡◌, vec_len}
use Rattle.verilog_expression.specs.Grammar.{seen}
use Rattle.verilog_expression.specs.Kept.{behind_branches, seen_all, with_branches}
use Rattle.verilog_expression.proofs.reading.end_branches.Given as goal

-- the branches that are left
abbrev pub invariant-branches : goal.invariant-branches
invariant-branches l =
    (with_branches (seen_all l.outer) (seen l.whole) ≡ with_branches (seen_all l.fn.outer) (seen l.fn.e))
    × (behind_branches (seen_all l.outer) ≡ behind_branches (seen_all l.fn.outer))

abbrev pub decreases-branches : goal.decreases-branches
decreases-branches l = vec_len l.outer
