use Rattle.std.proofs.Common.{◌≡◌, length}
use Rattle.known_nets.proofs.SpreadLaws.{IsZeroBut}
use Rattle.known_nets.proofs.amounts.write_zeros.Given as goal

-- only the nets that are left may have amounts
abbrev pub invariant-loop-net : goal.invariant-loop-net
invariant-loop-net l = record {
  size : length l.table.items ≡ length l.initial.table.items;
  zero : IsZeroBut l.table.items l.nets l.net-index;
}
