use Rattle.std.proofs.Common.{◌∙◌, ap}
use Rattle.net_places.proofs.PortLaws.{supply_is}
use Rattle.net_places.specs.Ports.{supply_value}
use Rattle.vrt_model.specs.Comparison.{cell_at}
use Rattle.net_places.proofs.ports.supply_at.Goals as goal

pub returns : goal.returns
returns c design rules are there =
    c.value_of.ensures ∙ ap supply_value (c.find_net.ensures design rules are there) ∙ supply_is design rules (cell_at design c.args.cell) c.args.name.now
