-- What a replay answers.
use Rattle.std.specs.Prelude.{Result, Ok, Err}
use Rattle.channel_parts.specs.PartLists.{net_numbers}
use Rattle.channel_parts.specs.Ranks.{IsAcyclicArcs}
use Rattle.vrt_model.specs.Known.{HasArc, IsFirstCycle}
use Rattle.vrt_model.specs.State.{Setting}
use Rattle.vrt_model.specs.declared.circuit.Circuit.{Circuit}
use Rattle.vrt_model.specs.declared.rules.Phase.{Phase}
use Rattle.witness.specs.Replays.{AreValues}
use Rattle.witness.specs.declared.values.ReplayFault.{ReplayFault}
use Rattle.witness.specs.declared.values.ReplayFault.TheVariants.{Cycle, NoMemory}
use Rattle.witness.specs.declared.values.Values.{Values}

-- The values of the nets, where the arcs have no cycle, or the first cycle of arcs. Want of memory may come in any place.
abbrev pub ReplayGives : Circuit → Phase → Setting → Result Values ReplayFault → Type 0
ReplayGives c phase setting (Ok values) = IsAcyclicArcs c phase × AreValues c phase setting values.bare values.kept
ReplayGives c phase setting (Err (Cycle nets)) = IsFirstCycle (HasArc c phase) (net_numbers nets)
ReplayGives c phase setting (Err NoMemory) = Unit {0}
