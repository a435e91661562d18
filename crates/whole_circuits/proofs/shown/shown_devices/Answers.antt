use Rattle.std.proofs.Common.{◌≡◌, inl, inr, refl, ◌∙◌}
use Rattle.whole_circuits.proofs.PinLaws.{none_left}
use Rattle.whole_circuits.proofs.ShownLaws.{devices_are, no_devices}
use Rattle.whole_circuits.specs.Shown.{devices_left}
use Rattle.whole_circuits.proofs.shown.shown_devices.Goals.{in_default, in_default-2}
use Rattle.whole_circuits.proofs.shown.shown_devices.Goals as goal

pub returns : goal.returns
returns c cut are owners all =
    let marks = c.args.marks.now in
    let places = c.args.places.now in
    let devices = c.args.devices.now in
    let left = none_left (devices_left marks) (λ ds. refl) (no_devices marks) c.devices.shown (devices_left marks places devices) c.devices.places_left.now c.devices.devices_left.now c.devices.invariant in
    let found : c.devices.shown ≡ devices_left marks places devices =
    elim c.match-split_first.branch [
      | in_default w ↦ left (inr w.in_default.ensures'.cases)
      | in_default-2 w ↦ left (inl w.in_default.ensures.cases)
    ] in
    found ∙ devices_are cut marks places devices are owners all
