use Rattle.verity_run.proofs.Written.{arrival_answered, blif_answered, check_answered, classes_answered, generated_answered, replay_answered}
use Rattle.verity_run.proofs.answers.answer.Goals as goal

pub returns-in-Check : goal.returns-in-Check
returns-in-Check g c =
    λ words.
    check_answered c.args.request.now _ _ _ words c.args.ready.now.inputs.design c.args.ready.now.inputs.blif c.args.ready.now.inputs.rules c.nodes_of.result c.args.ready.now.cells _ _ _ _ _ c.in-Check.is
    c.nodes_of.ensures (record { ordered = c.requires.ready.ordered; asked = c.requires.asked }) c.check_cells.ensures

pub returns-in-Generate : goal.returns-in-Generate
returns-in-Generate g c =
    λ words.
    generated_answered c.args.request.now c.in-Generate.size _ words c.args.ready.now.inputs.design c.args.ready.now.inputs.blif c.args.ready.now.inputs.rules c.nodes_of-in-Generate.result c.args.ready.now.cells _ _ _ _ _
    c.in-Generate.is c.nodes_of-in-Generate.ensures (record { ordered = c.requires.ready.ordered; asked = c.requires.asked }) c.check_generated.ensures

pub returns-in-Replay : goal.returns-in-Replay
returns-in-Replay g c =
    λ words.
    replay_answered c.args.request.now c.in-Replay.cell c.in-Replay.phase c.in-Replay.at _ words c.args.ready.now.inputs.design c.args.ready.now.inputs.blif c.args.ready.now.inputs.rules c.args.ready.now.cells _ _ _ _ _
    c.in-Replay.is (record { ordered = c.requires.ready.ordered; asked = c.requires.asked }) c.replay_cell.ensures

pub returns-in-Classes : goal.returns-in-Classes
returns-in-Classes g c =
    λ words.
    classes_answered c.args.request.now _ _ words c.args.ready.now.inputs.design c.args.ready.now.inputs.blif c.args.ready.now.inputs.rules c.args.ready.now.cells _ _ _ _ _ c.in-Classes.is
    (record { ordered = c.requires.ready.ordered; asked = c.requires.asked }) c.class_cells.ensures

pub returns-in-Arrive : goal.returns-in-Arrive
returns-in-Arrive g c =
    λ words.
    arrival_answered c.args.request.now c.in-Arrive.cell c.in-Arrive.phase c.in-Arrive.rise c.in-Arrive.budget _ words c.args.ready.now.inputs.design c.args.ready.now.inputs.blif c.args.ready.now.inputs.rules
    c.nodes_of-in-Arrive.result c.args.ready.now.cells _ _ _ _ _ c.in-Arrive.is c.nodes_of-in-Arrive.ensures (record { ordered = c.requires.ready.ordered; asked = c.requires.asked }) c.arrive_cell.ensures

pub returns-in-Blif : goal.returns-in-Blif
returns-in-Blif g c =
    λ words.
    blif_answered c.args.request.now c.in-Blif.cell c.in-Blif.budget _ words c.args.ready.now.inputs.design c.args.ready.now.inputs.blif c.args.ready.now.inputs.rules c.nodes_of-in-Blif.result c.args.ready.now.cells
    _ _ _ _ _ c.in-Blif.is c.nodes_of-in-Blif.ensures (record { ordered = c.requires.ready.ordered; asked = c.requires.asked }) c.blif_cell.ensures
