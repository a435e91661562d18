use Rattle.std.proofs.Common.{◌≡◌, inl, inr, refl, ◌∙◌}
use Rattle.whole_circuits.proofs.PinLaws.{driven_pins_are, no_driven, none_left}
use Rattle.whole_circuits.specs.Pins.{driven_by}
use Rattle.whole_circuits.proofs.pins.driven_pins.Goals.{in_default, in_default-2}
use Rattle.whole_circuits.proofs.pins.driven_pins.Goals as goal

pub returns : goal.returns
returns c facts k at is are =
    let ports = c.args.ports.now in
    let nets = c.args.nets.now in
    let drives = c.args.drives.now in
    let before = c.ports.before in
    let left = none_left (driven_by drives before) (λ ns. refl) (no_driven drives before) c.ports.pins (driven_by drives 0 ports nets) c.ports.ports_left.now c.ports.nets_left.now c.ports.invariant in
    let all : c.ports.pins ≡ driven_by drives 0 ports nets =
    elim c.match-split_first.branch [
      | in_default w ↦ left (inr w.in_default.ensures'.cases)
      | in_default-2 w ↦ left (inl w.in_default.ensures.cases)
    ] in
    all ∙ driven_pins_are facts k at drives ports nets is are
