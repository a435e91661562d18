use Rattle.std.proofs.Common.{◌*◌, ◌-◌, ◌≤◌, Ok, drop, length}
use Rattle.bdd_core.specs.Store.{function_of}
use Rattle.constraints.specs.Cared.{AddsHeld, members_meet}
use Rattle.constraints.proofs.care_set.add_members.Given as goal

-- the members from a place on
abbrev pub invariant-back : goal.invariant-back
invariant-back l = record {
  most : l.at ≤ length l.members;
  far :
      AddsHeld l.entering.sources.now (3 * (length l.members - l.at)) (function_of l.fn.store l.fn.start)
      (λ bits. members_meet l.entering.circuit.now l.entering.phase l.entering.sources.now bits l.number l.group (drop l.at l.members)) l.fn.store l.store (Ok l.all);
}

abbrev pub decreases-back : goal.decreases-back
decreases-back l = l.at
