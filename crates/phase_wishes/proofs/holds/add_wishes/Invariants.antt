use Rattle.std.proofs.Common.{◌≡◌, ◌++◌, length}
use Rattle.phase_wishes.specs.Held.{wishes_from}
use Rattle.phase_wishes.proofs.holds.add_wishes.Given as goal

-- the wishes so far, and those that are left
abbrev pub invariant-nets : goal.invariant-nets
invariant-nets l = l.wishes ++ wishes_from l.kind l.number l.rest ≡ l.initial.wishes ++ wishes_from l.kind 0 l.fn.table

abbrev pub decreases-nets : goal.decreases-nets
decreases-nets l = length l.rest
