-- Which names are refused.
use Rattle.std.specs.Prelude.{ℕ, Bool, not, List, [], ◌∷◌, ◌++◌}
use Rattle.model_writer.specs.declared.model.ModelLines.{ModelLines}
use Rattle.written_models.specs.Written.{is_free_name}

-- a name that may not be written
abbrev pub is_refused : List ℕ → Bool
is_refused name = not (is_free_name name)

-- the names that are written: that of the model, and those of its interface
abbrev pub interface_names : ModelLines → List (List ℕ)
interface_names m = (m.name.now ∷ []) ++ m.inputs.now ++ m.clocks.now ++ m.outputs.now
