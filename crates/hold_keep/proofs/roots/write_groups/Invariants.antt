use Rattle.std.proofs.Common.{◌*◌, ◌≤◌, Ok, drop, length}
use Rattle.hold_keep.specs.Rooted.{Rewrites, members_in, with_groups}
use Rattle.hold_keep.proofs.roots.write_groups.Given as goal

-- the groups from a place on
abbrev pub invariant-back : goal.invariant-back
invariant-back l = record {
  most : l.at ≤ length l.groups;
  far :
      Rewrites l.roots.circuit.now l.roots.words (length l.roots.sources.now) (2 * members_in (drop l.at l.groups)) (with_groups l.roots.circuit.now l.roots.phase l.roots.sources.now l.at (drop l.at l.groups))
      l.fn.store l.store (Ok tt);
}

abbrev pub decreases-back : goal.decreases-back
decreases-back l = l.at
