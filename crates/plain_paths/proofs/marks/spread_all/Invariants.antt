use Rattle.std.proofs.Common.{slice_index}
use Rattle.plain_paths.specs.Channels.{HasChannels}
use Rattle.plain_paths.specs.Marks.{Marked}
use Rattle.vrt_model.proofs.Clear.{HopFits, RootFits}
use Rattle.vrt_model.proofs.Marks.{HasMarksWithin, HasRootMarks}
use Rattle.vrt_model.specs.Path.{Network}
use Rattle.plain_paths.proofs.marks.spread_all.Given as goal
use Rattle.vrt_model.specs.Lists.{mark_at}

abbrev pub invariant-rounds : goal.invariant-rounds
invariant-rounds l =
    let s = slice_index l.strengths in
    record {
      marked : (w : Network) → HasChannels w l.channels → Marked w l.strengths l.value l.initial.marks → Marked w l.strengths l.value l.marks;
      roots : (w : Network) → HasRootMarks w (RootFits s l.value) (HopFits s) (mark_at l.initial.marks) → HasRootMarks w (RootFits s l.value) (HopFits s) (mark_at l.marks);
      within : (w : Network) → HasChannels w l.channels → HasRootMarks w (RootFits s l.value) (HopFits s) (mark_at l.initial.marks) → HasMarksWithin w (RootFits s l.value) (HopFits s) l._count (mark_at l.marks);
    }
