use Rattle.std.proofs.Common.{◌∙◌}
use Rattle.phase_ports.proofs.ObservedLaws.{observed_of}
use Rattle.phase_ports.proofs.observed.marked_nets.Goals as goal

pub returns-clause-is : goal.returns-clause-is
returns-clause-is c rules tables k phase is are n =
    c.mark_all.ensures.is rules tables n ∙ observed_of k phase n c.args.outputs.now c.args.design.now rules c.args.circuit.now is are
