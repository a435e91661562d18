-- Circuits in which one level says how strong each net is that does not float.
use Rattle.std.specs.Prelude.{◌≡◌, ℕ, []}
use Rattle.vrt_model.specs.Lists.{Among}
use Rattle.vrt_model.specs.declared.circuit.Circuit.{Circuit}
use Rattle.vrt_model.specs.declared.circuit.Device.{Device}

-- each device has this level, and given nets alone are roots
pub record HasOneLevel (c : Circuit) (level : ℕ) : Type 0 where
  pub devices : (d : Device) → Among c.devices d → d.level ≡ level
  pub holds : c.holds ≡ []
  pub wholes : c.wholes ≡ []
