use Rattle.std.proofs.Common.{◌≡◌, ◌++◌, length}
use Rattle.std.specs.Prelude.{filter_map}
use Rattle.latch_match.specs.Facts.{role_in}
use Rattle.latch_match.specs.Marked.{has_in}
use Rattle.latch_match.proofs.ports.roles_of.Given as goal

-- the roles so far, and those that are left
abbrev pub invariant-facts : goal.invariant-facts
invariant-facts l = l.roles ++ filter_map (role_in (has_in l.outputs)) l.rest ≡ filter_map (role_in (has_in l.outputs)) l.fn.facts

abbrev pub decreases-facts : goal.decreases-facts
decreases-facts l = length l.rest
