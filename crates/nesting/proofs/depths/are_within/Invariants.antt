use Rattle.std.proofs.Common.{◌≡◌, drop, nat_le}
use Rattle.std.specs.List.{list_all}
use Rattle.nesting.proofs.depths.are_within.Given as goal

-- none deeper so far
abbrev pub invariant-loop-d : goal.invariant-loop-d
invariant-loop-d l = list_all (λ d. nat_le d l.limit) (drop l.d-index l.depths) ≡ list_all (λ d. nat_le d l.limit) l.depths
