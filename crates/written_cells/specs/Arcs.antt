-- The arcs of a written model.
use Rattle.std.specs.Prelude.{ℕ, Bool, Option}
use Rattle.plain_models.specs.Flat.{flat_form}
use Rattle.vrt_model.specs.ModelArcs.{HasModelArc}
use Rattle.vrt_model.specs.Unsupported.{IsAcyclic}
use Rattle.written_models.specs.Written.{IsWritable, Logic, written_model}

-- The law: they have no cycle, in any phase.
abbrev pub WrittenModelsAreAcyclic : Type 0
WrittenModelsAreAcyclic =
    (l : Logic) (given : ℕ → Option Bool) (default_clock : Option Bool) → IsWritable l → IsAcyclic (HasModelArc (flat_form (written_model l)) given default_clock)
