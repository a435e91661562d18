use Rattle.output_functions.proofs.Between.{opened_gives}
use Rattle.phase_terms.specs.Ready.{comparison_in}
use Rattle.output_functions.proofs.phase.opened.Goals as goal

pub returns-clause-gives : goal.returns-clause-gives
returns-clause-gives c made between =
    let opening = c.args.opening in
    let done = c.open_phase.ensures in
    opened_gives (comparison_in opening.compared) opening.phase made opening.words c.args.store.now c.open_phase.new.store c.open_phase.result c.requires.budget between done.open done.writes done.counts
