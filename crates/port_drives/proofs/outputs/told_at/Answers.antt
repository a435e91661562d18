use Rattle.std.proofs.Common.{ap, ◌∙◌}
use Rattle.std.proofs.lemmas.Option.{get_or_from_slice_get}
use Rattle.port_drives.specs.Outputs.{told_pin}
use Rattle.vrt_model.specs.declared.whole.WholePin.{WholePin}
use Rattle.port_drives.proofs.outputs.told_at.Goals as goal

pub returns : goal.returns
returns c = λ pin at.
    c.told_pin.ensures ∙ ap (λ (x : WholePin). told_pin c.args.facts.now c.args.cell (c.args.place, x)) (get_or_from_slice_get c.args.outputs.now c.args.place pin _ at)
