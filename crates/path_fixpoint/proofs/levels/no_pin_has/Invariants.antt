use Rattle.std.proofs.Common.{ℕ, ◌<◌}
use Rattle.vrt_model.specs.Lists.{At}
use Rattle.vrt_model.specs.declared.whole.Whole.{Whole}
use Rattle.path_fixpoint.specs.Openings.{NoPinHas}
use Rattle.path_fixpoint.proofs.levels.no_pin_has.Given as goal
use Rattle.vrt_model.specs.Levels.{source_level}

abbrev pub invariant-loop-whole : goal.invariant-loop-whole
invariant-loop-whole l = (k : ℕ) → k < l.whole-index → (w : Whole) → At l.circuit.wholes k w → NoPinHas (source_level l.circuit) w.outputs l.fn.level
