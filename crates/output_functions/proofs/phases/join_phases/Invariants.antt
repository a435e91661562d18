use Rattle.std.proofs.Common.{◌≡◌}
use Rattle.output_functions.specs.Phases.{AreJoinedIn}
use Rattle.phase_terms.specs.Ready.{comparison_in}
use Rattle.output_functions.proofs.phases.join_phases.Given as goal

-- the phases so far are joined
abbrev pub invariant-loop-phase : goal.invariant-loop-phase
invariant-loop-phase l =
    (l.store.budget ≡ l.fn.store.budget) × AreJoinedIn (comparison_in l.fn.phases.compared) l.fn.phases.plans.now l.phase l.store.budget l.fn.phases.words l.store l.functions.items
