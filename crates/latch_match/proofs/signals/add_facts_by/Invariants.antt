use Rattle.std.proofs.Common.{◌≡◌, map, take}
use Rattle.latch_match.specs.Looked.{facts_in}
use Rattle.latch_match.proofs.signals.add_facts_by.Given as goal

-- what is said of the ports so far
abbrev pub invariant-loop-port : goal.invariant-loop-port
invariant-loop-port l = l.facts ≡ map (facts_in l.supplies l.lookups) (take l.port-index l.ports)
