use Rattle.std.proofs.Common.{◌≡◌, ◌++◌, length}
use Rattle.spice_reader.specs.Cards.{joined_at_equals}
use Rattle.spice_reader.proofs.card.add_joined.Given as goal

-- the parts so far, and those of the rest
abbrev pub invariant-cuts : goal.invariant-cuts
invariant-cuts l = l.out ++ joined_at_equals l.rest ≡ l.fn.out ++ joined_at_equals l.fn.text

abbrev pub decreases-cuts : goal.decreases-cuts
decreases-cuts l = length l.rest
