use Rattle.std.proofs.Common.{◌≡◌, drop}
use Rattle.std.specs.Prelude.{filter_map}
use Rattle.hold_groups.specs.Steps.{earlier, earliest, line_in, instance_line}
use Rattle.hold_groups.proofs.unmatched.instance_line.Given as goal

-- the first so far, with that of the rest
abbrev pub invariant-loop-rule : goal.invariant-loop-rule
invariant-loop-rule l =
    earlier (line_in l.first) (earliest (filter_map (instance_line l.elements.list l.cell) (drop l.rule-index l.rules))) ≡ earliest (filter_map (instance_line l.elements.list l.cell) l.rules)
