use Rattle.std.proofs.Common.{◌≡◌}
use Rattle.std.specs.Prelude.{map}
use Rattle.std.specs.List.{range_with_len}
use Rattle.bdd_ops.specs.Ops.{bits_in}
use Rattle.domino_order.proofs.found.read_bits.Given as goal

-- a bit for each word so far
abbrev pub invariant-loop-x : goal.invariant-loop-x
invariant-loop-x l = l.bits ≡ map (bits_in l.store.words l.words.start) (range_with_len 0 l.x)
