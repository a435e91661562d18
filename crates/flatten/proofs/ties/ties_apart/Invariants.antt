use Rattle.std.proofs.Common.{◌≡◌, length}
use Rattle.rule_index.specs.Tables.{supply_in}
use Rattle.flatten.specs.Walks.{are_apart}
use Rattle.flatten.proofs.ties.ties_apart.Given as goal

-- those that are left decide
abbrev pub invariant-ports : goal.invariant-ports
invariant-ports l = are_apart (supply_in l.supplies) l.left l.ties ≡ are_apart (supply_in l.supplies) l.ports l.values

abbrev pub decreases-ports : goal.decreases-ports
decreases-ports l = length l.left
