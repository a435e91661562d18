-- What ends at the nets of a circuit with whole instances, and the outputs at whose nets nothing else does.
use Rattle.std.specs.Prelude.{◌≡◌, ℕ, ◌+◌, ◌<◌, ◌==◌, Bool, cond, ◌&&◌, List, filter, flat_map, length}
use Rattle.std.specs.List.{slice_index}
use Rattle.whole_circuits.specs.Counts.{AreCounts, HaveLevels, bears_all}
use Rattle.whole_circuits.specs.WholeCells.{wholes_before}
use Rattle.whole_circuits.specs.declared.ends.NetEnds.{NetEnds}
use Rattle.vrt_model.specs.CheckedParts.{checked_devices}
use Rattle.vrt_model.specs.Cut.{Cut}
use Rattle.vrt_model.specs.Lists.{Among}
use Rattle.vrt_model.specs.WholeInstances.{OutputAt, all_outputs, outputs_of_place}
use Rattle.vrt_model.specs.declared.blif.Blif.{Blif}
use Rattle.vrt_model.specs.declared.circuit.Circuit.{Circuit}
use Rattle.vrt_model.specs.declared.circuit.Device.{Device}
use Rattle.vrt_model.specs.declared.whole.CellFacts.{CellFacts}
use Rattle.vrt_model.specs.declared.whole.Drive.TheVariants.{Soft}
use Rattle.vrt_model.specs.declared.whole.WholePin.{WholePin}

-- the outputs at a net
abbrev pub outputs_at : List OutputAt → ℕ → List OutputAt
outputs_at outputs n = filter (λ (o : OutputAt). o.pin.net.0 == n) outputs

-- each net with a count has the number of those there
abbrev pub AreOutputCounts : List OutputAt → List ℕ → Type 0
AreOutputCounts outputs counts = (n : ℕ) → n < length counts → slice_index counts n ≡ length (outputs_at outputs n)

-- so many nets have counts of the channels of these devices and of these outputs
pub record AreEnds (count : ℕ) (devices : List Device) (outputs : List OutputAt) (ends : NetEnds) : Type 0 where
  pub channels : AreCounts count devices ends.channels.items
  pub each : length ends.outputs.items ≡ count
  pub outputs_are : AreOutputCounts outputs ends.outputs.items

-- nothing but gates and one output is at a net
abbrev pub is_alone : NetEnds → ℕ → Bool
is_alone ends n = bears_all ends.channels.items Soft n && (slice_index ends.outputs.items n == 1)

-- an output pin is soft there
abbrev pub settled_by : NetEnds → WholePin → WholePin
settled_by ends pin = record pin { drive = cond (is_alone ends pin.net.0) Soft pin.drive }

-- what ends at the nets of a circuit, in which the instances of a cut are whole: its devices have levels of devices, and the outputs are at
-- nets of it
pub record HasEnds (cut : Cut) (blif : Blif) (facts : List CellFacts) (c : Circuit) (ends : NetEnds) : Type 0 where
  pub are : AreEnds (length c.nets) (checked_devices cut) (all_outputs cut blif facts) ends
  pub levels : HaveLevels c (checked_devices cut)
  pub within : (o : OutputAt) → Among (all_outputs cut blif facts) o → o.pin.net.0 < length c.nets

-- ---- counting

-- some pins are counted
pub record CountsOf (pins : List WholePin) (old new : List ℕ) : Type 0 where
  pub len : length new ≡ length old
  pub is : (n : ℕ) → n < length old → slice_index new n ≡ slice_index old n + length (filter (λ (p : WholePin). p.net.0 == n) pins)

-- the outputs of the instances at the places before one that are left whole
abbrev pub outputs_before : Cut → Blif → List CellFacts → ℕ → List OutputAt
outputs_before cut blif facts n = flat_map (outputs_of_place cut.top blif facts) (wholes_before cut n)

-- where those were counted, those before the next are
abbrev pub GrowsBy : Cut → Blif → List CellFacts → ℕ → List ℕ → List ℕ → Type 0
GrowsBy cut blif facts n old new = AreOutputCounts (outputs_before cut blif facts n) old → AreOutputCounts (outputs_before cut blif facts (n + 1)) new
