use Rattle.std.proofs.Common.{◌∙◌, ap}
use Rattle.mode_lines.proofs.ComparisonLaws.{meets_is}
use Rattle.mode_lines.proofs.MeetLaws.{meets_both}
use Rattle.mode_lines.specs.Points.{lines_hold}
use Rattle.mode_lines.proofs.meeting.meets_at.Goals as goal

pub returns : goal.returns
returns c pairing model are =
    c.both.ensures
    ∙ meets_both c.args.at c.args.bits.now c.lines_hold.result c.holds_enter.result (c.lines_hold.ensures ∙ ap (lines_hold c.args.at c.args.bits.now) c.as_slice.ensures) c.holds_enter.ensures
    ∙ meets_is c.args.at pairing model are c.args.bits.now
