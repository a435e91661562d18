use Rattle.std.proofs.Common.{◌≡◌, ℕ, ◌<◌, ◌≤◌, slice_index}
use Rattle.plain_paths.specs.Tables.{HasGrown, IsAttained}
use Rattle.vrt_model.specs.Lists.{At}
use Rattle.vrt_model.specs.Path.{Network}
use Rattle.vrt_model.specs.declared.circuit.Hold.{Hold}
use Rattle.plain_paths.proofs.strengths.add_holds.Given as goal

abbrev pub invariant-loop-hold : goal.invariant-loop-hold
invariant-loop-hold l = record {
  grown : HasGrown l.initial.table l.table;
  holds : (k : ℕ) → k < l.hold-index → (hold : Hold) → At l.circuit.holds k hold → hold.size ≤ slice_index l.table hold.net.0;
  attained : (w : Network) → w.holds ≡ l.circuit.holds → IsAttained w l.initial.table → IsAttained w l.table;
}
