use Rattle.std.proofs.Common.{◌<◌, ◌∙◌, length, ap, arith, sym}
use Rattle.std.specs.Option.{option_copied}
use Rattle.vrt_model.proofs.Members.{all_among}
use Rattle.vrt_model.specs.Circuits.{IsDrive, IsNet}
use Rattle.vrt_model.specs.Lists.{At}
use Rattle.vrt_model.specs.declared.whole.WholePin.{WholePin}
use Rattle.channel_parts.proofs.links.link_target.Goals as goal

pub net_owner-requires : goal.net_owner-requires
net_owner-requires c =
    let circuit = c.args.circuit.now in
    let w = c.args.whole.now in
    let pin : WholePin = c.in-Some.pin.now in
    let there : At w.outputs c.args.link.now.output pin = sym c.get.ensures ∙ ap option_copied c.in-Some.is in
    let fits = all_among (λ (p : WholePin). IsNet circuit p.net × (p.signal < length w.model.signals) × IsDrive circuit p.drive) w.outputs pin c.requires.whole.outputs (c.args.link.now.output, there) in
    let inside : pin.net.0 < length circuit.nets = fits.0 in
    let nets = c.requires.nets in
    omega (arith, inside, nets)
