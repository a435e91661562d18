-- The first sub-model that does not fit.
use Rattle.std.specs.Prelude.{[], ◌++◌, ℕ, List, Bool, not, ◌||◌, if◌then◌else◌, map, flat_map, Option, Some, option_map}
use Rattle.std.specs.Option.{option_or}
use Rattle.text_lines.specs.Faults.{first_of}
use Rattle.names.specs.Names.{first_missing}
use Rattle.vrt_model.specs.Lists.{has_name}
use Rattle.vrt_model.specs.FlatBlif.{formals, model_at, model_numbered}
use Rattle.vrt_model.specs.Models.{bad_formal_after, interface_of, is_model}
use Rattle.vrt_model.specs.declared.blif.Blif.{Blif}
use Rattle.vrt_model.specs.declared.blif.BlifModel.{BlifModel}
use Rattle.vrt_model.specs.declared.blif.SubLine.{SubLine}
use Rattle.blif_checks.specs.declared.faults.ModelFault.{ModelFault}
use Rattle.blif_checks.specs.declared.faults.ModelFault.TheVariants.{UnknownModel, Formals}

-- what ties to a model refuse: the first formal that is no interface signal or stands twice, else the first input or
-- clock that is left out
abbrev pub bad_formal_in : BlifModel → List (List ℕ) → Option (List ℕ)
bad_formal_in model tied = option_or (bad_formal_after (interface_of model) [] tied) (first_missing tied (model.inputs ++ model.clocks))

-- the fault of a sub-model: an unknown model, or a formal that does not fit
abbrev pub sub_fault : Blif → SubLine → Option ModelFault
sub_fault blif sub =
    if is_model blif sub.model then option_map (Formals sub.line) (bad_formal_in (model_at blif (model_numbered blif sub.model)) (formals sub))
    else Some (UnknownModel sub.line sub.model)

-- the fault of the first sub-model in file order that has one
abbrev pub subs_fault : Blif → Option ModelFault
subs_fault blif = first_of (map (sub_fault blif) (flat_map (λ (m : BlifModel). m.subs) blif.models))

-- a tied formal is no interface signal or stands among those before it
abbrev pub is_bad_formal : List (List ℕ) → List (List ℕ) → List ℕ → Bool
is_bad_formal signals seen formal = not (has_name signals formal) || has_name seen formal
