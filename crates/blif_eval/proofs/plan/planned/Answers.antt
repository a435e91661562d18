use Rattle.std.proofs.Common.{◌≡◌, ℕ, List, sym, subst, ◌∙◌}
use Rattle.std.proofs.lemmas.Result.{IfOk-weaker}
use Rattle.blif_eval.proofs.GraphLaws.{graph_inside, plan_gives}
use Rattle.blif_eval.specs.KnownBits.{AreKnown}
use Rattle.blif_eval.specs.Sources.{graph_by}
use Rattle.graphs.specs.Graphs.{AreInside}
use Rattle.graphs.specs.Orders.{OrderGives}
use Rattle.blif_eval.proofs.plan.planned.Goals as goal

pub order_of-requires : goal.order_of-requires
order_of-requires c =
    let flat = c.args.flat.now in
    let known = c.args.known.now in
    let bits = c.as_slice.result.now in
    let found : AreKnown flat known c.in_ok-bits.bits.items = c.in_ok-bits.ensures in
    let table : AreKnown flat known bits = subst (AreKnown flat known) (sym c.as_slice.ensures.value) found in
    let graph : c.in_ok-graph.graph ≡ graph_by flat bits c.args.drivers.now = c.in_ok-graph.ensures in
    subst AreInside (sym (c.as_slice-2.ensures ∙ graph)) (graph_inside flat c.requires.model c.args.drivers.now c.requires.drivers known bits c.requires.outside table)

pub returns : goal.returns
returns c =
    let flat = c.args.flat.now in
    let known = c.args.known.now in
    let bits = c.as_slice.result.now in
    let found : AreKnown flat known c.in_ok-bits.bits.items = c.in_ok-bits.ensures in
    let table : AreKnown flat known bits = subst (AreKnown flat known) (sym c.as_slice.ensures.value) found in
    let graph : c.in_ok-graph.graph ≡ graph_by flat bits c.args.drivers.now = c.in_ok-graph.ensures in
    IfOk-weaker c.order_of.result _ _ (λ order gives.
    plan_gives flat c.requires.model c.args.drivers.now c.requires.drivers known bits c.requires.outside table order
    (subst (λ (g : List (List ℕ)). OrderGives g order) (c.as_slice-2.ensures ∙ graph) gives)) c.order_of.ensures
