-- One more instance is whole: the drives of the outputs that are there stay.
use Rattle.std.specs.Prelude.{◌≡◌, ℕ, suc, ◌||◌, true, List, ◌==◌}
use Rattle.vrt_model.specs.Checked.{before}
use Rattle.vrt_model.specs.CheckedParts.{checked_devices}
use Rattle.vrt_model.specs.Comparison.{cell_at}
use Rattle.vrt_model.specs.Cut.{Cut, NumberedPlace, is_left_out, numbered_places, shown}
use Rattle.vrt_model.specs.FlatCircuit.{flat_device}
use Rattle.vrt_model.specs.Lists.{Among, At}
use Rattle.vrt_model.specs.WholeInstances.{OutputAt, all_outputs, channels_at, outputs_of_place, settled_drive}
use Rattle.vrt_model.specs.declared.blif.Blif.{Blif}
use Rattle.vrt_model.specs.declared.circuit.Device.{Device}
use Rattle.vrt_model.specs.declared.design.DeviceCard.{DeviceCard}
use Rattle.vrt_model.specs.declared.whole.CellFacts.{CellFacts}

-- the outputs of the instance at a place stand where its devices met anything: each one met a device before, and where a device that
-- goes was at the net of an output of another whole instance, an output of this one is
pub record StandsForDevices (cut : Cut) (blif : Blif) (facts : List CellFacts) (i : ℕ) (p : NumberedPlace) : Type 0 where
  pub met :
      (o : OutputAt) → Among (outputs_of_place cut.top blif facts p) o
      → (d : Device) × Among (channels_at (checked_devices (before cut i)) o.pin.net.0) d
  pub stays :
      (q : NumberedPlace) (card : DeviceCard) (one : OutputAt)
      → Among (shown (before cut i)) q → is_left_out (before cut (suc i)) q ≡ true → Among (cell_at cut.top.design q.at.cell).devices card
      → Among (all_outputs (before cut i) blif facts) one
      → (((flat_device cut.top q.at card).left.0 == one.pin.net.0) || ((flat_device cut.top q.at card).right.0 == one.pin.net.0)) ≡ true
      → (o : OutputAt) × Among (outputs_of_place cut.top blif facts p) o × (o.pin.net.0 ≡ one.pin.net.0)

-- The law: so each output that was there has the drive that it had, soft or not.
abbrev pub DrivesStay : Type 0
DrivesStay =
    (cut : Cut) (blif : Blif) (facts : List CellFacts) (i : ℕ) (p : NumberedPlace) (one : OutputAt)
    → At (numbered_places cut.top) (suc i) p → cut.choice i ≡ true → StandsForDevices cut blif facts i p
    → Among (all_outputs (before cut i) blif facts) one
    → settled_drive (checked_devices (before cut i)) (all_outputs (before cut i) blif facts) one
    ≡ settled_drive (checked_devices (before cut (suc i))) (all_outputs (before cut (suc i)) blif facts) one
