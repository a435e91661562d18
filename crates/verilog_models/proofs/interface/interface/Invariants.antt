use Rattle.std.proofs.Common.{◌≡◌, ◌++◌, length}
use Rattle.rule_index.specs.Firsts.{value_in}
use Rattle.verilog_models.specs.Models.{lines_by, ports_by}
use Rattle.verilog_models.proofs.interface.interface.Given as goal

-- the ports so far, with those that are left
abbrev pub invariant-ports : goal.invariant-ports
invariant-ports l =
    (l.names ++ ports_by (value_in l.directions) l.direction l.left ≡ ports_by (value_in l.directions) l.direction l.fn.ports)
    × (l.lines ++ lines_by (value_in l.directions) l.direction l.left ≡ lines_by (value_in l.directions) l.direction l.fn.ports)

abbrev pub decreases-ports : goal.decreases-ports
decreases-ports l = length l.left
