-- Whole instances whose models have no latch and say of which clock or net each input has the bit.
use Rattle.std.specs.Prelude.{◌≡◌, ◌≢◌, ℕ, ◌+◌, ◌++◌, Bool, [], List, Option, None, length, replicate}
use Rattle.vrt_model.specs.FlatModels.{IsFlatModel}
use Rattle.vrt_model.specs.Lists.{Among}
use Rattle.vrt_model.specs.declared.flat_model.FlatModel.{FlatModel}
use Rattle.vrt_model.specs.declared.pairing.ClockedSignal.{ClockedSignal}
use Rattle.vrt_model.specs.declared.whole.Whole.{Whole}
use Rattle.vrt_model.specs.declared.whole.WholePin.{WholePin}

-- an input or a clock of a model
abbrev pub IsModelInput : FlatModel → ℕ → Type 0
IsModelInput flat s = Among (flat.inputs ++ flat.clocks) s

-- a whole instance with a well-formed model without latches; its input pins and the clocks that it carries are at inputs and
-- clocks of the model, and no signal has two of them
pub record IsLogicWhole (w : Whole) : Type 0 where
  pub model : IsFlatModel w.model
  pub latches : w.model.latches ≡ []
  pub clocked : (c : ClockedSignal) → Among w.clocked c → IsModelInput w.model c.signal
  pub tied : (pin : WholePin) → Among w.inputs pin → IsModelInput w.model pin.signal
  pub apart : (c : ClockedSignal) (pin : WholePin) → Among w.clocked c → Among w.inputs pin → c.signal ≢ pin.signal
  pub one_clock : (c d : ClockedSignal) → Among w.clocked c → Among w.clocked d → c.signal ≡ d.signal → c.clock ≡ d.clock
  pub one_net : (pin other : WholePin) → Among w.inputs pin → Among w.inputs other → pin.signal ≡ other.signal → pin.net ≡ other.net

-- nothing is known of the bits of a model's signals, nor of its default clock
abbrev pub nothing_known : FlatModel → List (Option Bool)
nothing_known flat = replicate (length flat.signals + 1) None
