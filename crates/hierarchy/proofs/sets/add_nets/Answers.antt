use Rattle.std.proofs.Common.{ap, flat_map}
use Rattle.vrt_model.specs.declared.design.InstanceCard.{InstanceCard}
use Rattle.hierarchy.proofs.SetLaws.{of_three}
use Rattle.hierarchy.specs.Sets.{device_nets}
use Rattle.hierarchy.proofs.sets.add_nets.Goals as goal

pub returns : goal.returns
returns c =
    of_three c.args.names.now c.args.cell.now.ports (flat_map device_nets c.args.cell.now.devices) (flat_map (λ (i : InstanceCard). i.nets) c.args.cell.now.instances) _ _ _ _ _ _
    c.as_slice.ensures (ap (flat_map device_nets) c.as_slice-2.ensures) (ap (flat_map (λ (i : InstanceCard). i.nets)) c.as_slice-3.ensures)
    c.in_ok-add_all.ensures c.in_ok-add_driven.ensures c.in_ok-add_tied.ensures
