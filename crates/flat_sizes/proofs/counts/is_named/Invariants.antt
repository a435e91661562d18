use Rattle.flat_sizes.proofs.CountLaws.{Left}
use Rattle.flat_sizes.proofs.counts.is_named.Given as goal

-- the stands that are left decide
abbrev pub invariant-loop-stand : goal.invariant-loop-stand
invariant-loop-stand l = Left l.design l.rules l.name l.stands l.stand-index
