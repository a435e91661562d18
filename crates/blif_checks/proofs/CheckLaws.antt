-- All faults of models in their order.
use Rattle.std.proofs.Common.{◌≡◌, inl, inr, Option, Some, None, option_map, refl}
use Rattle.std.specs.Prelude.{◌⊎◌, Result, Ok, Err}
use Rattle.vrt_model.specs.Models.{DriverFault, bad_sub, driver_fault}
use Rattle.vrt_model.specs.declared.blif.Blif.{Blif}
use Rattle.blif_checks.specs.Checked.{IsModelFault, ModelsGive}
use Rattle.blif_checks.specs.Depths.{AreShallow}
use Rattle.blif_checks.specs.Judged.{Judges}
use Rattle.blif_checks.specs.Least.{of_driver}
use Rattle.blif_checks.specs.Nested.{IsNestingFault}
use Rattle.blif_checks.specs.Subs.{subs_fault}
use Rattle.blif_checks.specs.declared.faults.ModelFault.{ModelFault}
use Rattle.blif_checks.specs.declared.faults.ModelFault.TheVariants.{NoMemory}

pub sub_told : (blif : Blif) (f : ModelFault) → (f ≡ NoMemory) ⊎ (subs_fault blif ≡ Some f) → (f ≡ NoMemory) ⊎ IsModelFault blif f
sub_told blif f (inl e) = inl e
sub_told blif f (inr e) = inr (inl e)

pub nesting_told : (blif : Blif) (f : ModelFault) → subs_fault blif ≡ None → (f ≡ NoMemory) ⊎ IsNestingFault blif f → (f ≡ NoMemory) ⊎ IsModelFault blif f
nesting_told blif f fit (inl e) = inl e
nesting_told blif f fit (inr n) = inr (inr (inl (fit, n)))

none_is : (o : Option DriverFault) → option_map of_driver o ≡ None → o ≡ None
none_is None e = refl
none_is (Some d) e = cc

pub driver_told : {T : Type 0} (blif : Blif) (r : Result T ModelFault) → subs_fault blif ≡ None → bad_sub blif ≡ None → AreShallow blif → Judges r (option_map of_driver (driver_fault blif)) → ModelsGive blif r
driver_told blif (Ok x) fit subs nested none =
    record { subs = subs; well_founded = nested.well_founded; shallow = nested.depth_limit; drivers = none_is (driver_fault blif) none }
driver_told blif (Err f) fit subs nested (inl e) = inl e
driver_told blif (Err f) fit subs nested (inr e) = inr (inr (inr (fit, nested, e)))
