use Rattle.std.proofs.Common.{◌≡◌, take}
use Rattle.std.specs.Prelude.{sum_by}
use Rattle.vrt_model.specs.Elements.{element_count}
use Rattle.vrt_model.specs.declared.flat_model.FlatLatch.{FlatLatch}
use Rattle.model_rows.proofs.checks.element_number.Given as goal

-- the elements so far
abbrev pub invariant-loop-at : goal.invariant-loop-at
invariant-loop-at l = l.number ≡ sum_by (λ (x : FlatLatch). element_count x.kind) (take l.at l.latches)
