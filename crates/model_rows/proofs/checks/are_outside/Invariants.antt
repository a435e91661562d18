use Rattle.std.proofs.Common.{◌≡◌, ℕ, ◌<◌, ◌++◌, Bool, Some}
use Rattle.blif_eval.specs.Plans.{entry_of}
use Rattle.vrt_model.specs.Lists.{Among}
use Rattle.model_rows.proofs.checks.are_outside.Given as goal

-- the signals so far that are known are inputs or clocks
abbrev pub invariant-loop-s : goal.invariant-loop-s
invariant-loop-s l = (k : ℕ) (v : Bool) → k < l.s → entry_of l.known k ≡ Some v → Among (l.flat.inputs ++ l.flat.clocks) k
