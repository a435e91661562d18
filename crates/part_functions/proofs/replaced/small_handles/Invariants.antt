use Rattle.std.proofs.Common.{◌≡◌, ℕ, ◌<◌, ◌≤◌, length}
use Rattle.std.specs.Prelude.{slice_index}
use Rattle.bdd_core.specs.Store.{AddsNodes}
use Rattle.bdd_ops.specs.Counting.{IsCounted}
use Rattle.part_functions.specs.Replaced.{StandsFor, gate_handle}
use Rattle.part_functions.proofs.replaced.small_handles.Given as goal

abbrev pub invariant-loop-place : goal.invariant-loop-place
invariant-loop-place l = record {
  sized : length l.small ≡ 24;
  adds : AddsNodes l.fn.store l.store;
  live : (i : ℕ) → slice_index l.small i < length l.store.nodes;
  stand : (i : ℕ) → i < l.place → StandsFor l.fn.functions l.store (gate_handle l.fn.handles i) (slice_index l.small i);
  counted : (u : ℕ) → l.fn.functions.count ≤ u → IsCounted u l.place l.fn.store l.store;
}
