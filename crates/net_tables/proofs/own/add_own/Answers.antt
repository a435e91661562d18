use Rattle.std.proofs.Common.{ap, flat_map, ◌∙◌}
use Rattle.net_tables.proofs.OwnLaws.{owns_both}
use Rattle.net_tables.specs.Names.{device_names, shared_in, with_owns}
use Rattle.vrt_model.specs.declared.design.InstanceCard.{InstanceCard}
use Rattle.net_tables.proofs.own.add_own.Goals as goal

pub returns : goal.returns
returns c =
    owns_both (shared_in c.args.shared.now c.args.ports.now) c.args.own.now (flat_map device_names c.args.cell.now.devices) (flat_map (λ (i : InstanceCard). i.nets) c.args.cell.now.instances)
    c.add_devices.new.own _
    (c.in_ok-add_devices.ensures ∙ ap (λ cards. with_owns (shared_in c.args.shared.now c.args.ports.now) c.args.own.now (flat_map device_names cards)) c.as_slice.ensures)
    (c.in_ok-add_instances.ensures ∙ ap (λ cards. with_owns (shared_in c.args.shared.now c.args.ports.now) c.add_devices.new.own (flat_map (λ (i : InstanceCard). i.nets) cards)) c.as_slice-2.ensures)
