use Rattle.std.proofs.Common.{◌≡◌, ℕ, ◌<◌}
use Rattle.std.specs.Prelude.{count_by, ◌==◌}
use Rattle.vrt_model.specs.FlatModels.{drivers_of}
use Rattle.model_rows.proofs.checks.have_one_driver.Given as goal

-- the signals so far have one driver each
abbrev pub invariant-loop-s : goal.invariant-loop-s
invariant-loop-s l = (k : ℕ) → k < l.s → count_by (λ d. d == k) (drivers_of l.flat) ≡ 1
