use Rattle.std.proofs.Common.{◌≡◌, map, take}
use Rattle.hold_groups.specs.Sources.{name_in}
use Rattle.hold_groups.proofs.variable_names.add_names.Given as goal

-- the names so far
abbrev pub invariant-loop-source : goal.invariant-loop-source
invariant-loop-source l = l.names ≡ map (name_in l.circuit l.elements l.groups) (take l.source-index l.sources)
