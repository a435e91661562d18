use Rattle.std.proofs.Common.{◌≡◌, drop}
use Rattle.std.specs.Prelude.{filter_map, slice_get}
use Rattle.vrt_model.specs.Models.{driver_fault, driver_fault_in}
use Rattle.blif_checks.proofs.judge.judge_models.Given as goal

-- no model so far has a fault
abbrev pub invariant-loop-model : goal.invariant-loop-model
invariant-loop-model l = slice_get (filter_map (driver_fault_in l.blif) (drop l.model-index l.blif.models)) 0 ≡ driver_fault l.blif
