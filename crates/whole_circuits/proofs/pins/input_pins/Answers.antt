use Rattle.std.proofs.Common.{◌≡◌, inl, inr, refl, ◌∙◌}
use Rattle.whole_circuits.proofs.PinLaws.{input_pins_are, no_nets, none_left}
use Rattle.whole_circuits.specs.Pins.{pins_by}
use Rattle.whole_circuits.proofs.pins.input_pins.Goals.{in_default, in_default-2}
use Rattle.whole_circuits.proofs.pins.input_pins.Goals as goal

pub returns : goal.returns
returns c k at is are =
    let ports = c.args.ports.now in
    let nets = c.args.nets.now in
    let observed = c.args.observed.now in
    let left = none_left (pins_by observed) (λ ns. refl) (no_nets observed) c.ports.pins (pins_by observed ports nets) c.ports.ports_left.now c.ports.nets_left.now c.ports.invariant in
    let all : c.ports.pins ≡ pins_by observed ports nets =
    elim c.match-split_first.branch [
      | in_default w ↦ left (inr w.in_default.ensures'.cases)
      | in_default-2 w ↦ left (inl w.in_default.ensures.cases)
    ] in
    all ∙ input_pins_are k at observed ports nets is are
