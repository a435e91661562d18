-- Circuits with one solution.
use Rattle.std.specs.Prelude.{ℕ, Bool}
use Rattle.channel_parts.specs.OneSolution.{AreDetermined, AreObserved, HasOneSolution}
use Rattle.vrt_model.specs.State.{Setting}
use Rattle.vrt_model.specs.declared.circuit.Circuit.{Circuit}
use Rattle.vrt_model.specs.declared.rules.Phase.{Phase}

-- the circuit has in the phase exactly one solution, for any bits of the inputs and holds, where its whole instances are
-- determined
abbrev pub IsSolvedOnce : Circuit → Phase → Type 0
IsSolvedOnce c phase = (observed : ℕ → Bool) (setting : Setting) → AreObserved c observed → AreDetermined c phase observed → HasOneSolution c phase observed setting
