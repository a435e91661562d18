use Rattle.std.proofs.Common.{◌≡◌, ◌≤◌}
use Rattle.blif_eval.specs.FullRows.{agree}
use Rattle.blif_eval.proofs.full_rows.agree.Given as goal

-- the answer is that for what is before
abbrev pub invariant-back : goal.invariant-back
invariant-back l = record {
  most : l.at ≤ l.before;
  same : agree l.at l.first l.second ≡ agree l.before l.first l.second;
}

abbrev pub decreases-back : goal.decreases-back
decreases-back l = l.at
