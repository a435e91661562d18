use Rattle.std.proofs.Common.{arith}
use Rattle.blif_checks.specs.Least.{is_bad}
use Rattle.blif_checks.proofs.JudgeLaws.{least_turn}
use Rattle.blif_checks.proofs.judge.least_line.Goals as goal

pub loop-mention-preserved : goal.loop-mention-preserved
loop-mention-preserved c =
    least_turn (is_bad c.args.notes.now) c.args.mentions.now c.loop-mention.mention-index c.loop-mention.least c.with_mention-least.result (omega arith) c.loop-mention.invariant c.with_mention-least.ensures
