-- Circuits in which whole instances may stand.
use Rattle.vrt_model.specs.Known.{IsPlain}
use Rattle.vrt_model.specs.Lists.{Among}
use Rattle.vrt_model.specs.Networks.{HasRanges}
use Rattle.vrt_model.specs.declared.circuit.Circuit.{Circuit}
use Rattle.vrt_model.specs.declared.whole.Whole.{Whole}
use Rattle.vrt_model.specs.declared.whole.WholePin.{WholePin}

-- each output of a whole instance is at a plain net
abbrev pub AreOutputsPlain : Circuit → Type 0
AreOutputsPlain c = (w : Whole) (pin : WholePin) → Among c.wholes w → Among w.outputs pin → IsPlain c pin.net.0

-- the numbers of nets of a circuit are in range, its levels and sizes are, and the outputs of its whole instances are at plain nets
pub record IsWired (c : Circuit) : Type 0 where
  pub ranges : HasRanges c
  pub outputs : AreOutputsPlain c
