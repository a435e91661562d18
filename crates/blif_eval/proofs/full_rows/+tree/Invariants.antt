use Rattle.std.proofs.Common.{◌-◌, length}
use Rattle.blif_eval.proofs.full_rows.+tree.Given as goal

-- the inputs from the place on
abbrev pub decreases-tree : goal.decreases-tree
decreases-tree l = length l.inputs.now - l.at
