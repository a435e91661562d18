use Rattle.std.proofs.Common.{◌≡◌, length}
use Rattle.whole_circuits.specs.Insides.{AreMarkedBefore, IsCutAt}
use Rattle.vrt_model.specs.Cut.{Cut}
use Rattle.whole_circuits.proofs.inside.inside_marks.Given as goal

-- the places so far have their marks
abbrev pub invariant-loop-at : goal.invariant-loop-at
invariant-loop-at l = (length l.inside.items ≡ l.at) × ((cut : Cut) → IsCutAt cut l.unrolled l.whole → AreMarkedBefore cut l.at l.inside.items)
