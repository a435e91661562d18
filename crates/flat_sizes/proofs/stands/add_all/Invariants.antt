use Rattle.std.proofs.Common.{ℕ, drop}
use Rattle.flat_sizes.proofs.StandLaws.{AddingEach}
use Rattle.flat_sizes.proofs.stands.add_all.Given as goal

-- what is added so far, with the stands that are left
abbrev pub invariant-loop-stand : goal.invariant-loop-stand
invariant-loop-stand l = AddingEach (λ (weight : ℕ → ℕ). weight) l.more l.fn.stands.items l.stands.items (drop l.stand-index l.more)
