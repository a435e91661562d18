use Rattle.std.proofs.Common.{ℕ, List, length, subst, sym, ◌≡◌, ◌∙◌, ap}
use Rattle.blif_eval.proofs.LearningLaws.{awaiting_inside, learning_order_is}
use Rattle.blif_eval.specs.Learning.{awaiting}
use Rattle.graphs.specs.Graphs.{AreInside}
use Rattle.graphs.specs.Levels.{AreStuck}
use Rattle.graphs.specs.Orders.{IsPlacing}
use Rattle.blif_eval.proofs.learning.learning_order.Goals as goal

pub placing_of-requires : goal.placing_of-requires
placing_of-requires c =
    let graph : c.as_slice.result.now ≡ awaiting c.args.flat.now c.args.known.now c.args.drivers.now = c.as_slice.ensures ∙ c.in_ok-graph.ensures in
    subst AreInside (sym graph) (awaiting_inside c.args.flat.now c.requires.model c.args.drivers.now c.requires.drivers c.args.known.now)

pub returns : goal.returns
returns c =
    let graph : c.as_slice.result.now ≡ awaiting c.args.flat.now c.args.known.now c.args.drivers.now = c.as_slice.ensures ∙ c.in_ok-graph.ensures in
    let levels = c.in_ok-placing.placing.levels.items in
    let steps = c.in_ok-placing.placing.steps in
    let is = c.in_ok-placing.ensures in
    learning_order_is c.args.flat.now c.requires.model c.args.drivers.now c.requires.drivers c.args.known.now levels steps (is.size ∙ ap length graph)
    (subst (λ (g : List (List ℕ)). AreStuck g levels) graph is.stuck) (subst (λ (g : List (List ℕ)). IsPlacing g levels steps) graph is.placing)
