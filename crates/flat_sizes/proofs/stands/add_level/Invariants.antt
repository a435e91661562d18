use Rattle.std.proofs.Common.{drop}
use Rattle.flat_sizes.proofs.StandLaws.{AddingEach}
use Rattle.flat_sizes.specs.Totals.{below}
use Rattle.flat_sizes.proofs.stands.add_level.Given as goal

-- what is added so far, with what stands in the cells that are left
abbrev pub invariant-loop-stand : goal.invariant-loop-stand
invariant-loop-stand l = AddingEach (below l.design) l.level l.fn.stands.items l.stands.items (drop l.stand-index l.level)
