-- The nets whose holds take their bits.
use Rattle.std.specs.Prelude.{◌≡◌, ℕ}
use Rattle.vrt_model.specs.Known.{IsPlain}
use Rattle.vrt_model.specs.Lists.{At}
use Rattle.vrt_model.specs.declared.circuit.Circuit.{Circuit}
use Rattle.vrt_model.specs.declared.circuit.Hold.{Hold}

-- a hold is at the net, which is plain
abbrev pub IsPlainHold : Circuit → ℕ → Type 0
IsPlainHold c n = (at : ℕ) × (hold : Hold) × At c.holds at hold × (hold.net.0 ≡ n) × IsPlain c n
