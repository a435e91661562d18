use Rattle.std.proofs.Common.{◌∙◌}
use Rattle.phase_ports.proofs.PortLaws.{cell_read}
use Rattle.port_links.proofs.cell_links.cell_of.Goals as goal

pub returns : goal.returns
returns c =
    c.index-as_slice-cell.is ∙ cell_read c.args.design.now c.as_slice.result.now c.args.cell c.index-as_slice-cell.result c.as_slice.ensures c.requires
