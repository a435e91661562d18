-- Ranks of nets by a table that has them at the least nets of the parts.
use Rattle.std.specs.Prelude.{ℕ, ◌&&◌, Bool, true, cond, List, Option, is_none, slice_index}
use Rattle.channel_parts.specs.Labels.{IsLeastTogether}
use Rattle.known_nets.specs.Conduction.{is_plain_at}
use Rattle.known_nets.specs.KnownTables.{known_at}
use Rattle.vrt_model.specs.Known.{HasArc, IsCycle, IsPlain}
use Rattle.vrt_model.specs.Reading.{is_in}
use Rattle.vrt_model.specs.declared.circuit.Circuit.{Circuit}
use Rattle.vrt_model.specs.declared.circuit.Device.{Device}
use Rattle.vrt_model.specs.declared.rules.Phase.{Phase}

-- a table has the least nets of the parts of the bare circuit
abbrev pub AreLeast : Circuit → Phase → List ℕ → Type 0
AreLeast c phase least = (n : ℕ) → IsPlain c n → IsLeastTogether c phase true n (slice_index least n)

-- the rank of a plain net is the entry of the least net of its part; of other nets it is 0
abbrev pub rank_by : Circuit → List ℕ → List ℕ → ℕ → ℕ
rank_by c least t n = cond (is_plain_at c n) (slice_index t (slice_index least n)) 0

-- a device of the bare circuit whose gate is not known
abbrev pub has_unknown_gate : List (Option Bool) → Device → Bool
has_unknown_gate known d = is_in true d && is_none (known_at known d.gate.0)

-- the arcs have no cycle
abbrev pub IsAcyclicArcs : Circuit → Phase → Type 0
IsAcyclicArcs c phase = (nets : List ℕ) → ¬ IsCycle (HasArc c phase) nets
