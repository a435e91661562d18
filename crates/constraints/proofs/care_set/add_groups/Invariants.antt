use Rattle.std.proofs.Common.{◌*◌, ◌≤◌, Ok, drop, length}
use Rattle.bdd_core.specs.Store.{function_of}
use Rattle.hold_keep.specs.Rooted.{members_in}
use Rattle.constraints.specs.Cared.{AddsHeld, groups_meet}
use Rattle.constraints.proofs.care_set.add_groups.Given as goal

-- the groups from a place on
abbrev pub invariant-back : goal.invariant-back
invariant-back l = record {
  most : l.at ≤ length l.groups;
  far :
      AddsHeld l.entering.sources.now (3 * members_in (drop l.at l.groups)) (function_of l.fn.store l.fn.start)
      (λ bits. groups_meet l.entering.circuit.now l.entering.phase l.entering.sources.now bits l.at (drop l.at l.groups)) l.fn.store l.store (Ok l.all);
}

abbrev pub decreases-back : goal.decreases-back
decreases-back l = l.at
