-- The nets are those of the output ports of each comparison with this pairing.
use Rattle.std.proofs.Common.{refl}
use Rattle.phase_terms.specs.Ready.{comparison_in}
use Rattle.port_drives.proofs.NetLaws.{nets_within}
use Rattle.cell_room.proofs.lone.output_ports.Goals as goal

pub returns-clause-nets : goal.returns-clause-nets
returns-clause-nets c = c.in_ok-nets.ensures (comparison_in c.args.compared) refl c.requires.roles

pub returns-clause-within : goal.returns-clause-within
returns-clause-within c =
    let k = comparison_in c.args.compared in nets_within k c.in_ok-nets.nets (c.in_ok-nets.ensures k refl c.requires.roles) c.requires.ports
