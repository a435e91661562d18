use Rattle.std.proofs.Common.{◌≡◌, [], drop, map}
use Rattle.names.specs.Names.{with_names}
use Rattle.vrt_model.specs.declared.blif.BlifModel.{BlifModel}
use Rattle.blif_checks.proofs.tables.names_of.Given as goal

-- the names so far, with those of the rest
abbrev pub invariant-loop-model : goal.invariant-loop-model
invariant-loop-model l = with_names l.names (map (λ (m : BlifModel). m.name) (drop l.model-index l.models)) ≡ with_names [] (map (λ (m : BlifModel). m.name) l.models)
