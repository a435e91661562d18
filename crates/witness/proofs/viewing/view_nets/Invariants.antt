use Rattle.std.proofs.Common.{◌≡◌, ◌<◌, ℕ, Some, length}
use Rattle.std.specs.Prelude.{slice_get}
use Rattle.vrt_model.specs.Lists.{mark_at}
use Rattle.witness.specs.Views.{view_by}
use Rattle.witness.proofs.viewing.view_nets.Given as goal

-- what the nets so far show
abbrev pub invariant-loop-net : goal.invariant-loop-net
invariant-loop-net l = record {
  len : length l.list ≡ l.net;
  each : (n : ℕ) → n < l.net → slice_get l.list n ≡ Some (view_by (mark_at l.marks n) l.zeros l.ones n);
}
