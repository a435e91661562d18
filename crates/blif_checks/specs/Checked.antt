-- Which models can be unrolled, and with what the others are refused.
use Rattle.std.specs.Prelude.{◌≡◌, ◌⊎◌, None, Some, option_map, Result, Ok, Err}
use Rattle.vrt_model.specs.Models.{AreModels, driver_fault}
use Rattle.vrt_model.specs.declared.blif.Blif.{Blif}
use Rattle.blif_checks.specs.Depths.{AreShallow}
use Rattle.blif_checks.specs.Least.{of_driver}
use Rattle.blif_checks.specs.Nested.{IsNestingFault}
use Rattle.blif_checks.specs.Subs.{subs_fault}
use Rattle.blif_checks.specs.declared.faults.ModelFault.{ModelFault}
use Rattle.blif_checks.specs.declared.faults.ModelFault.TheVariants.{NoMemory}

-- The fault that stands: that of a sub-model that is unknown or does not fit; else that of a model that contains itself
-- or is too deep; else that of a signal with two drivers or none.
abbrev pub IsModelFault : Blif → ModelFault → Type 0
IsModelFault blif f =
    (subs_fault blif ≡ Some f) ⊎ ((subs_fault blif ≡ None) × IsNestingFault blif f)
    ⊎ ((subs_fault blif ≡ None) × AreShallow blif × (option_map of_driver (driver_fault blif) ≡ Some f))

-- A call takes models exactly where none stands. Memory may run out.
abbrev pub ModelsGive : {T : Type 0} → Blif → Result T ModelFault → Type 0
ModelsGive blif (Ok x) = AreModels blif
ModelsGive blif (Err f) = (f ≡ NoMemory) ⊎ IsModelFault blif f
