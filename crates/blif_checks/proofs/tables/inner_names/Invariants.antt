use Rattle.std.proofs.Common.{◌≡◌, [], flat_map, take}
use Rattle.names.specs.Names.{with_names}
use Rattle.blif_checks.specs.Tables.{sub_models}
use Rattle.blif_checks.proofs.tables.inner_names.Given as goal

-- the names so far
abbrev pub invariant-loop-model : goal.invariant-loop-model
invariant-loop-model l = l.names ≡ with_names [] (flat_map sub_models (take l.model-index l.models))
