use Rattle.std.proofs.Common.{ℕ, ◌-◌, ◌≤◌, Ok, drop, length}
use Rattle.bdd_core.specs.Diagram.{IsWithin}
use Rattle.bdd_core.specs.Store.{function_of}
use Rattle.hold_keep.specs.Rooted.{Rewrites, WritesHolds, with_holds}
use Rattle.hold_keep.proofs.roots.write_members.Given as goal

-- the members from a place on
abbrev pub invariant-back : goal.invariant-back
invariant-back l = record {
  most : l.at ≤ length l.members;
  writes : WritesHolds l.circuit l.words l.fn.store l.store;
  far : (vars : ℕ) → IsWithin vars (function_of l.fn.store l.bit)
      → Rewrites l.circuit l.words vars (length l.members - l.at) (with_holds (drop l.at l.members) (function_of l.fn.store l.bit)) l.fn.store l.store (Ok tt);
}

abbrev pub decreases-back : goal.decreases-back
decreases-back l = l.at
