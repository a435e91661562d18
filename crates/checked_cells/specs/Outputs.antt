-- The whole instances of a checked circuit: what drives its nets.
use Rattle.std.specs.Prelude.{◌≡◌, ℕ, ◌<◌, ◌≤◌, Bool, List, Option, length}
use Rattle.channel_parts.specs.OneSolution.{AreDetermined}
use Rattle.known_nets.specs.Wired.{IsWired}
use Rattle.substitution_laws.specs.Agreement.{IsCheckedByFacts}
use Rattle.vrt_model.specs.Checked.{with_circuit}
use Rattle.vrt_model.specs.Comparison.{Comparison, is_observed, phase_at}
use Rattle.vrt_model.specs.Cut.{Cut}
use Rattle.vrt_model.specs.Known.{HasArc, IsHeld, IsPlain}
use Rattle.vrt_model.specs.Levels.{IsDeviceLevel}
use Rattle.vrt_model.specs.Lists.{Among, At}
use Rattle.vrt_model.specs.ModelArcs.{HasModelArc}
use Rattle.vrt_model.specs.Path.{Joins}
use Rattle.vrt_model.specs.State.{OutputPin, output_pins}
use Rattle.vrt_model.specs.Unsupported.{IsAcyclic}
use Rattle.vrt_model.specs.declared.blif.Blif.{Blif}
use Rattle.vrt_model.specs.declared.circuit.Circuit.{Circuit}
use Rattle.vrt_model.specs.declared.circuit.Device.{Device}
use Rattle.vrt_model.specs.declared.whole.CellFacts.{CellFacts}
use Rattle.vrt_model.specs.declared.whole.Drive.{Drive}
use Rattle.vrt_model.specs.declared.whole.Drive.TheVariants.{Soft, Level}
use Rattle.vrt_model.specs.declared.whole.Whole.{Whole}
use Rattle.whole_steps.specs.Logic.{IsLogicWhole}

-- The law: numbers are in range, and outputs are at plain nets.
abbrev pub CheckedCircuitsAreWired : Type 0
CheckedCircuitsAreWired =
    (k : Comparison) (cut : Cut) (blif : Blif) (facts : List CellFacts) (c : Circuit) → IsCheckedByFacts k cut blif facts c → IsWired c

-- no channel meets the net of an output, and it is the only one there
pub record IsAtGates (c : Circuit) (place : ℕ) (out : OutputPin) : Type 0 where
  pub channels : (d : Device) (n : ℕ) → Among c.devices d → ¬ Joins d n out.pin.net.0
  pub alone : (at : ℕ) (other : OutputPin) → At (output_pins c) at other → out.pin.net ≡ other.pin.net → place ≡ at

-- all that an output meets besides gates are devices of at most a level, and outputs of that very drive
pub record IsAtLevel (c : Circuit) (out : OutputPin) (level : ℕ) : Type 0 where
  pub range : IsDeviceLevel c level
  pub channels : (d : Device) (n : ℕ) → Among c.devices d → Joins d n out.pin.net.0 → d.level ≤ level
  pub others : (at : ℕ) (other : OutputPin) → At (output_pins c) at other → out.pin.net ≡ other.pin.net → other.pin.drive ≡ Level level

-- what an output of a drive meets
abbrev pub MeetsByDrive : Circuit → ℕ → OutputPin → Drive → Type 0
MeetsByDrive c place out Soft = IsAtGates c place out
MeetsByDrive c place out (Level level) = IsAtLevel c out level

-- each output is at a plain net without a hold, and meets what its drive allows
pub record HasAllowedOutputs (c : Circuit) : Type 0 where
  pub plain : (place : ℕ) (out : OutputPin) → At (output_pins c) place out → IsPlain c out.pin.net.0
  pub unheld : (place : ℕ) (out : OutputPin) → At (output_pins c) place out → ¬ IsHeld c out.pin.net.0
  pub meets : (place : ℕ) (out : OutputPin) → At (output_pins c) place out → MeetsByDrive c place out out.pin.drive

-- The law: the outputs are such.
abbrev pub CheckedOutputsAreAllowed : Type 0
CheckedOutputsAreAllowed =
    (k : Comparison) (cut : Cut) (blif : Blif) (facts : List CellFacts) (c : Circuit) → IsCheckedByFacts k cut blif facts c → HasAllowedOutputs c

-- The law: in each phase each whole instance is determined by the inputs that are linked to its outputs.
abbrev pub CheckedWholesAreDetermined : Type 0
CheckedWholesAreDetermined =
    (k : Comparison) (cut : Cut) (blif : Blif) (facts : List CellFacts) (c : Circuit) (phase : ℕ)
    → IsCheckedByFacts k cut blif facts c → phase < length k.rules.phases → AreDetermined c (phase_at k.rules phase) (is_observed (with_circuit k c) phase)

-- The law: its model has no latch and says of which clock or net each input has the bit.
abbrev pub CheckedWholesAreLogic : Type 0
CheckedWholesAreLogic =
    (k : Comparison) (cut : Cut) (blif : Blif) (facts : List CellFacts) (c : Circuit) (w : Whole)
    → IsCheckedByFacts k cut blif facts c → Among c.wholes w → IsLogicWhole w

-- The law: the arcs have no cycle in any phase.
abbrev pub CheckedCircuitsAreAcyclic : Type 0
CheckedCircuitsAreAcyclic =
    (k : Comparison) (cut : Cut) (blif : Blif) (facts : List CellFacts) (c : Circuit) (phase : ℕ)
    → IsCheckedByFacts k cut blif facts c → phase < length k.rules.phases → IsAcyclic (HasArc c (phase_at k.rules phase))

-- The law: the model of a whole instance has no cycle, whatever is known of its signals and of its default clock.
abbrev pub CheckedModelsAreAcyclic : Type 0
CheckedModelsAreAcyclic =
    (k : Comparison) (cut : Cut) (blif : Blif) (facts : List CellFacts) (c : Circuit) (w : Whole)
    → IsCheckedByFacts k cut blif facts c → Among c.wholes w → (given : ℕ → Option Bool) (clock : Option Bool) → IsAcyclic (HasModelArc w.model given clock)
