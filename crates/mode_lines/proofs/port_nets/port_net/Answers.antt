use Rattle.std.proofs.Common.{◌∙◌}
use Rattle.constraints.proofs.PortLaws.{port_by_port}
use Rattle.mode_lines.proofs.port_nets.port_net.Goals as goal

pub returns : goal.returns
returns c = c.net_among.ensures ∙ port_by_port c.args.rules.now c.args.name.now c.args.names.now
