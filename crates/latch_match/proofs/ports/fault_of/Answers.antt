use Rattle.std.proofs.Common.{sym}
use Rattle.latch_match.specs.Paired.{output_in, way_in}
use Rattle.latch_match.proofs.GivenLaws.{tells_ports}
use Rattle.latch_match.proofs.ports.fault_of.Goals as goal

pub returns-in-Some : goal.returns-in-Some
returns-in-Some c =
    tells_ports (way_in c.args.flat.now c.args.ports.now c.args.paired.now) (output_in c.args.flat.now c.args.paired.now) c.in-Some.name.now c.refused_ports.result c.in-Some.ensures c.refused_ports.ensures

pub returns-in-None : goal.returns-in-None
returns-in-None c = c.output_fault.ensures (way_in c.args.flat.now c.args.ports.now c.args.paired.now) (sym c.in-None.ensures)
