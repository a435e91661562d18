use Rattle.std.proofs.Common.{◌≡◌, ◌++◌, map, take}
use Rattle.vrt_model.specs.declared.flat_model.FlatLatch.{FlatLatch}
use Rattle.model_rows.proofs.checks.add_latch_outputs.Given as goal

-- the outputs so far
abbrev pub invariant-loop-latch : goal.invariant-loop-latch
invariant-loop-latch l = l.list ≡ l.fn.list ++ map (λ (x : FlatLatch). x.output) (take l.latch-index l.latches)
