use Rattle.std.proofs.Common.{◌∙◌, sym}
use Rattle.channel_parts.proofs.Labels.{joins_together}
use Rattle.channel_parts.proofs.least.join_ends.Goals as goal

pub returns-then-joins_plain-clause-sound : goal.returns-then-joins_plain-clause-sound
returns-then-joins_plain-clause-sound c phase table there of =
    c.join.ensures.sound c.args.circuit.now phase c.args.bare
    (joins_together c.args.circuit.now phase c.args.known.now c.args.bare c.args.device.now table there (sym c.joins_plain.ensures ∙ c.if-joins_plain.true)) of
