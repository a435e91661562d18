use Rattle.std.proofs.Common.{◌≡◌, ℕ, ◌<◌, true, slice_index}
use Rattle.plain_paths.specs.Channels.{IsOver}
use Rattle.plain_paths.specs.Marks.{Marked}
use Rattle.vrt_model.specs.Lists.{At, bit_at, MarksGrow, mark_at}
use Rattle.vrt_model.specs.Path.{Network}
use Rattle.vrt_model.specs.declared.circuit.Hold.{Hold}
use Rattle.plain_paths.proofs.marks.mark_holds.Given as goal

abbrev pub invariant-loop-at : goal.invariant-loop-at
invariant-loop-at l = record {
  grown : MarksGrow l.initial.marks l.marks;
  holds : (k : ℕ) → k < l.at → (hold : Hold) → At l.circuit.holds k hold → hold.size ≡ slice_index l.strengths hold.net.0 → bit_at l.held k ≡ l.value → mark_at l.marks hold.net.0 ≡ true;
  marked : (w : Network) → IsOver l.circuit w → w.held ≡ bit_at l.held → Marked w l.strengths l.value l.initial.marks → Marked w l.strengths l.value l.marks;
}
