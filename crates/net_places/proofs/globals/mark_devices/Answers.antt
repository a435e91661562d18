use Rattle.std.proofs.Common.{flat_map}
use Rattle.net_places.proofs.GlobalLaws.{begun, ended, more}
use Rattle.net_places.specs.Globals.{nets_on}
use Rattle.net_places.proofs.globals.mark_devices.Goals as goal
use Rattle.vrt_model.proofs.Lists.{no_items}

pub devices-init : goal.devices-init
devices-init c = begun (flat_map nets_on c.args.devices.now) c.args.marks.now.items

pub devices-preserved : goal.devices-preserved
devices-preserved c =
    more (flat_map nets_on c.args.devices.now) nets_on c.in-Some.device.now c.devices.left.now c.in-Some.behind.now c.args.marks.now.items c.devices.marks.items c.mark_device.new.marks.items
    c.in-Some.ensures.cases.0 c.devices.invariant c.mark_device.ensures

pub returns : goal.returns
returns c = ended (flat_map nets_on c.args.devices.now) nets_on c.devices.left.now c.args.marks.now.items c.devices.marks.items (no_items _ c.in_default.ensures.cases) c.devices.invariant
