-- The arcs of covers, from their inputs to their outputs.
use Rattle.std.specs.Prelude.{◌≡◌, ℕ, List}
use Rattle.vrt_model.specs.Lists.{Among}
use Rattle.vrt_model.specs.declared.flat_model.Cover.{Cover}

-- from one of some inputs to an output
abbrev pub IsInputArc : List ℕ → ℕ → ℕ → ℕ → Type 0
IsInputArc inputs output from to = Among inputs from × (to ≡ output)

-- from an input of one of some covers to its output
abbrev pub IsCoverArc : List Cover → ℕ → ℕ → Type 0
IsCoverArc covers from to = (cover : Cover) × Among covers cover × Among cover.inputs from × (to ≡ cover.output)
