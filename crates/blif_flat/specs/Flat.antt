-- What a call that unrolls a model answers.
use Rattle.std.specs.Prelude.{◌≡◌, ◌⊎◌, ℕ, List, [], ◌∷◌, Some, None, Result, Ok, Err}
use Rattle.vrt_model.specs.FlatBlif.{flat_model_of}
use Rattle.vrt_model.specs.FlatModels.{IsFlatModel}
use Rattle.vrt_model.specs.Unsupported.{Limit, model_limits, too_large}
use Rattle.vrt_model.specs.declared.blif.Blif.{Blif}
use Rattle.vrt_model.specs.declared.flat_model.FlatModel.{FlatModel}
use Rattle.blif_flat.specs.declared.faults.FlatModelFault.{FlatModelFault}
use Rattle.blif_flat.specs.declared.faults.FlatModelFault.TheVariants.{Limit as LimitFault, NoMemory}

-- counts of signals, rows of covers and sub-models, with their limits
abbrev pub limits_of : ℕ → ℕ → ℕ → List Limit
limits_of signals rows subs =
    record { count = signals; limit = 20000 } ∷ record { count = rows; limit = 200000 } ∷ record { count = subs; limit = 40000 } ∷ []

-- A call gives the flat model, which is well formed, where no count passes its limit, and else the first such count.
-- Memory may run out.
abbrev pub FlatGives : Blif → ℕ → Result FlatModel FlatModelFault → Type 0
FlatGives blif m (Ok flat) = (too_large (model_limits blif m) ≡ None) × (flat ≡ flat_model_of blif m) × IsFlatModel flat
FlatGives blif m (Err f) = (f ≡ NoMemory) ⊎ ((count : ℕ) × (f ≡ LimitFault count) × (too_large (model_limits blif m) ≡ Some count))
