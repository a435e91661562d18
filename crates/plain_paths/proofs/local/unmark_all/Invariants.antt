use Rattle.std.proofs.Common.{◌≡◌, ℕ, ◌<◌, true, slice_index}
use Rattle.plain_paths.specs.Local.{IsFit}
use Rattle.plain_paths.specs.declared.channels.Channel.{Channel}
use Rattle.vrt_model.specs.Lists.{At, MarksGrow, mark_at}
use Rattle.plain_paths.proofs.local.unmark_all.Given as goal

abbrev pub invariant-loop-channel : goal.invariant-loop-channel
invariant-loop-channel l = record {
  only : MarksGrow l.marks l.initial.marks;
  kept : (n : ℕ) → mark_at l.initial.marks n ≡ true → slice_index l.strengths n ≡ slice_index l.levels n → mark_at l.marks n ≡ true;
  fits : (k : ℕ) → k < l.channel-index → (ch : Channel) → At l.channels k ch → IsFit l.levels l.strengths l.marks ch.left × IsFit l.levels l.strengths l.marks ch.right;
}
