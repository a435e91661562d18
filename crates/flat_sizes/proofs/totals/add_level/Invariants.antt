use Rattle.flat_sizes.proofs.TotalLaws.{CountingAll}
use Rattle.flat_sizes.proofs.totals.add_level.Given as goal

-- what is added so far, with what the cells that are left add
abbrev pub invariant-loop-cell : goal.invariant-loop-cell
invariant-loop-cell l = record {
  next : CountingAll l.design l.level l.fn.next l.next l.cell;
  all : CountingAll l.design l.level l.fn.all l.all l.cell;
}
