use Rattle.mode_lines.proofs.ComparisonLaws.{replay_is}
use Rattle.mode_lines.proofs.ReplayLaws.{replay_moves}
use Rattle.mode_lines.proofs.replaying.replay_at.Goals as goal

pub returns : goal.returns
returns c pairing model are =
    replay_is c.args.at pairing model are c.args.bits.now c.args.phase.now c.replay.result
    (replay_moves c.args.at c.args.phase.now c.args.bits.now c.in-Ok.held c.in-Ok-input_bits.inputs c.replay.result c.in-Ok.ensures c.in-Ok-input_bits.ensures c.replay.ensures)
