-- No instance is of a cell that is known as equal and stateless; or the circuit is made on the ground of a supported cell.
use Rattle.std.proofs.Common.{◌∙◌, sym}
use Rattle.cell_room.proofs.CheckedLaws.{whole_ground}
use Rattle.checked_cells.proofs.NoneWhole.{nothing_is_whole}
use Rattle.phase_terms.specs.Ready.{comparison_in}
use Rattle.cell_room.proofs.checked.checked_circuit.Goals as goal

pub whole_with-requires-clause-files : goal.whole_with-requires-clause-files
whole_with-requires-clause-files c =
    let ground = c.requires.phases.checkable.ground c.requires.phases.planned in
    record {
      netlist = ground.netlist.design;
      names = ground.read.names;
      models = ground.read.models;
      valid = ground.read.valid;
      ordered = ground.netlist.ordered;
    }

pub whole_with-requires-clause-there : goal.whole_with-requires-clause-there
whole_with-requires-clause-there c = (c.requires.phases.checkable.ground c.requires.phases.planned).netlist.there

pub whole_with-requires-clause-ground : goal.whole_with-requires-clause-ground
whole_with-requires-clause-ground c =
    let k = comparison_in c.args.phases.compared in (k.pairing.ports, whole_ground k c.args.phases.blif.now c.args.phases.facts.now c.requires.phases.checkable c.requires.phases.planned)

pub returns-then-not-has_candidate-clause-checked : goal.returns-then-not-has_candidate-clause-checked
returns-then-not-has_candidate-clause-checked c =
    nothing_is_whole (comparison_in c.args.phases.compared) c.args.phases.blif.now c.args.phases.facts.now c.requires.phases.checkable.flat (sym c.has_candidate.ensures ∙ c.if-not-has_candidate.true)

pub returns-clause-checked : goal.returns-clause-checked
returns-clause-checked c =
    let k = comparison_in c.args.phases.compared in
    c.in_ok-whole.ensures.whole k.pairing.ports (whole_ground k c.args.phases.blif.now c.args.phases.facts.now c.requires.phases.checkable c.requires.phases.planned)
