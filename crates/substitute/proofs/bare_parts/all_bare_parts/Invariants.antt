use Rattle.substitute.specs.BareParts.{AreBareFrom}
use Rattle.substitute.proofs.bare_parts.all_bare_parts.Given as goal

-- the parts of the phases from one on
abbrev pub invariant-phases : goal.invariant-phases
invariant-phases l = AreBareFrom l.circuit l.phases l.from l.all.items

abbrev pub decreases-phases : goal.decreases-phases
decreases-phases l = l.from
