-- What a call that judges models answers.
use Rattle.std.specs.Prelude.{◌≡◌, ◌⊎◌, Option, Some, None, Result, Ok, Err}
use Rattle.blif_checks.specs.declared.faults.ModelFault.{ModelFault}
use Rattle.blif_checks.specs.declared.faults.ModelFault.TheVariants.{NoMemory}

-- A call refuses with the fault that stands, if one does. Memory may run out.
abbrev pub Judges : {T : Type 0} → Result T ModelFault → Option ModelFault → Type 0
Judges (Ok x) fault = fault ≡ None
Judges (Err f) fault = (f ≡ NoMemory) ⊎ (fault ≡ Some f)
