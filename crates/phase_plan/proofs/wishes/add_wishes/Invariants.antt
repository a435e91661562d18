use Rattle.std.proofs.Common.{◌≡◌, ◌++◌, length}
use Rattle.phase_plan.proofs.wishes.add_wishes.Given as goal

-- the wishes so far, and those that are left
abbrev pub invariant-wishes : goal.invariant-wishes
invariant-wishes l = l.wishes ++ l.rest ≡ l.initial.wishes ++ l.fn.more

abbrev pub decreases-wishes : goal.decreases-wishes
decreases-wishes l = length l.rest
