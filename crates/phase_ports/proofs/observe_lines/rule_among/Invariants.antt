use Rattle.std.proofs.Common.{◌≡◌, length}
use Rattle.std.specs.Prelude.{find}
use Rattle.phase_ports.specs.Seen.{is_rule_of}
use Rattle.phase_ports.proofs.observe_lines.rule_among.Given as goal

-- none of the places before is that of a rule of the port
abbrev pub invariant-places : goal.invariant-places
invariant-places l = find (is_rule_of l.rules l.port) l.rest ≡ find (is_rule_of l.rules l.port) l.fn.places

abbrev pub decreases-places : goal.decreases-places
decreases-places l = length l.rest
