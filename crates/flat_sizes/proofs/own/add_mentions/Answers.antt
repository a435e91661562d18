use Rattle.std.proofs.Common.{ap, flat_map, ◌∙◌}
use Rattle.flat_sizes.proofs.OwnLaws.{names_both}
use Rattle.flat_sizes.specs.Mentions.{card_nets, tied}
use Rattle.names.specs.Names.{with_names}
use Rattle.flat_sizes.proofs.own.add_mentions.Goals as goal

pub returns : goal.returns
returns c =
    names_both c.args.names.now (flat_map card_nets c.args.cell.now.devices) (tied c.args.cell.now.instances) c.add_devices.new.names _
    (c.in_ok-add_devices.ensures ∙ ap (λ cards. with_names c.args.names.now (flat_map card_nets cards)) c.as_slice.ensures)
    (c.in_ok-add_instances.ensures ∙ ap (λ cards. with_names c.add_devices.new.names (tied cards)) c.as_slice-2.ensures)
