-- Parts with all that channels join to their nets.
use Rattle.std.specs.Prelude.{ℕ, Bool}
use Rattle.circuit_faults.specs.Scans.{IsInside}
use Rattle.channel_parts.specs.declared.part.Part.{Part}
use Rattle.path_fixpoint.specs.Parts.{IsPart, part_devices}
use Rattle.vrt_model.specs.Known.{IsChannel, IsPlain}
use Rattle.vrt_model.specs.Lists.{Among}
use Rattle.vrt_model.specs.Path.{Joins}
use Rattle.vrt_model.specs.declared.circuit.Circuit.{Circuit}
use Rattle.vrt_model.specs.declared.circuit.Device.{Device}
use Rattle.vrt_model.specs.declared.rules.Phase.{Phase}

-- Plain nets, with all that channels of the bare or of the kept circuit join to them: each plain net that a channel joins
-- to one of them is among them, and the devices are exactly the channels that meet one.
pub record IsWholePart (which : Bool) (c : Circuit) (phase : Phase) (part : Part) : Type 0 where
  pub is : IsPart c part
  pub plain : (n : ℕ) → IsInside part n → IsPlain c n
  pub closed : (d : Device) (m n : ℕ) → IsChannel c phase which d → Joins d m n → IsInside part n → IsPlain c m → IsInside part m
  pub channels : (d : Device) (m n : ℕ) → IsChannel c phase which d → Joins d m n → IsInside part n → Among (part_devices c part) d
  pub devices : (d : Device) → Among (part_devices c part) d → IsChannel c phase which d
