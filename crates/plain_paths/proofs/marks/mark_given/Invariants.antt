use Rattle.std.proofs.Common.{◌≡◌, ℕ, ◌<◌, true, slice_index}
use Rattle.plain_paths.specs.Channels.{IsOver}
use Rattle.plain_paths.specs.Marks.{Marked}
use Rattle.vrt_model.specs.Levels.{source_level}
use Rattle.vrt_model.specs.Lists.{At, bit_at, MarksGrow, mark_at}
use Rattle.vrt_model.specs.Path.{Network}
use Rattle.vrt_model.specs.Reading.{is_given}
use Rattle.vrt_model.specs.declared.circuit.FlatNet.{FlatNet}
use Rattle.plain_paths.proofs.marks.mark_given.Given as goal

abbrev pub invariant-loop-at : goal.invariant-loop-at
invariant-loop-at l = record {
  grown : MarksGrow l.initial.marks l.marks;
  given : (k : ℕ) → k < l.at → (net : FlatNet) → At l.circuit.nets k net → is_given net.kind ≡ true → slice_index l.strengths k ≡ source_level l.circuit → bit_at l.reading k ≡ l.value → mark_at l.marks k ≡ true;
  marked : (w : Network) → IsOver l.circuit w → w.given ≡ bit_at l.reading → Marked w l.strengths l.value l.initial.marks → Marked w l.strengths l.value l.marks;
}
