use Rattle.std.proofs.Common.{◌≡◌, ℕ, ◌<◌, false}
use Rattle.plain_paths.specs.Channels.{HasChannels}
use Rattle.plain_paths.specs.Tables.{HasGrown, HasPassed, IsAttained}
use Rattle.plain_paths.specs.declared.channels.Channel.{Channel}
use Rattle.vrt_model.specs.Lists.{At}
use Rattle.vrt_model.specs.Path.{Network}
use Rattle.plain_paths.proofs.strengths.pass_round.Given as goal

abbrev pub invariant-loop-channel : goal.invariant-loop-channel
invariant-loop-channel l = record {
  grown : HasGrown l.initial.table l.table;
  passed : (k : ℕ) → k < l.channel-index → (ch : Channel) → At l.channels k ch → HasPassed ch l.initial.table l.table;
  attained : (w : Network) → HasChannels w l.channels → IsAttained w l.initial.table → IsAttained w l.table;
  same : l.changed ≡ false → l.table ≡ l.initial.table;
}
