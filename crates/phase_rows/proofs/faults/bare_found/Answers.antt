use Rattle.phase_rows.proofs.SearchLaws.{instances_ready, steps_ordered}
use Rattle.phase_rows.proofs.faults.bare_found.Goals as goal

pub circuit_fault-requires-clause-steps : goal.circuit_fault-requires-clause-steps
circuit_fault-requires-clause-steps c =
    let given = c.args.search.given in
    steps_ordered given.design.now given.rules.now given.circuit.now c.args.search.phase.now c.args.search.number c.args.search.observed.now c.requires.searched
    c.args.parts.now c.as_slice-steps.result.now c.requires.parts c.in_ok-list.list c.as_slice-steps.ensures c.in_ok-list.ensures.steps c.in_ok-list.ensures.there

pub circuit_fault-requires-clause-instances : goal.circuit_fault-requires-clause-instances
circuit_fault-requires-clause-instances c =
    let given = c.args.search.given in
    instances_ready given.design.now given.rules.now given.circuit.now c.args.search.phase.now c.args.search.number c.args.search.observed.now c.requires.searched
    c.args.parts.now c.as_slice-steps.result.now
