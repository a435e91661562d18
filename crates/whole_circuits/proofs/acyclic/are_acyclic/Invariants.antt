use Rattle.std.proofs.Common.{ℕ, ◌<◌}
use Rattle.whole_circuits.proofs.acyclic.are_acyclic.Given as goal
use Rattle.vrt_model.specs.Known.{HasArc}
use Rattle.vrt_model.specs.Lists.{At}
use Rattle.vrt_model.specs.Unsupported.{IsAcyclic}
use Rattle.vrt_model.specs.declared.rules.Phase.{Phase}

-- none in the phases so far
abbrev pub invariant-loop-at : goal.invariant-loop-at
invariant-loop-at l = (i : ℕ) (phase : Phase) → i < l.at → At l.phases i phase → IsAcyclic (HasArc l.circuit phase)
