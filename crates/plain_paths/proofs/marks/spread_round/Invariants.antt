use Rattle.std.proofs.Common.{◌≡◌, ℕ, ◌<◌, Bool, false}
use Rattle.plain_paths.specs.Channels.{HasChannels}
use Rattle.plain_paths.specs.Marks.{Marked, MarksPass}
use Rattle.plain_paths.specs.declared.channels.Channel.{Channel}
use Rattle.vrt_model.specs.Lists.{At, MarksGrow}
use Rattle.vrt_model.specs.Path.{Network}
use Rattle.plain_paths.proofs.marks.spread_round.Given as goal

abbrev pub invariant-loop-channel : goal.invariant-loop-channel
invariant-loop-channel l = record {
  grown : MarksGrow l.initial.marks l.marks;
  spread : (k : ℕ) → k < l.channel-index → (ch : Channel) → At l.channels k ch → MarksPass l.strengths ch l.initial.marks l.marks;
  marked : (w : Network) (v : Bool) → HasChannels w l.channels → Marked w l.strengths v l.initial.marks → Marked w l.strengths v l.marks;
  same : l.changed ≡ false → l.marks ≡ l.initial.marks;
}
