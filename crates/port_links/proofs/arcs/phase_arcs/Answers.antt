use Rattle.std.proofs.Common.{arith, Bool, List, Option, ℕ, subst, sym}
use Rattle.channel_parts.specs.NetGraphs.{IsNetGraph}
use Rattle.channel_parts.specs.Ranks.{AreLeast}
use Rattle.known_nets.specs.KnownTables.{IsKnownTable, known_at}
use Rattle.port_links.proofs.ArcLaws.{graph_has_arcs}
use Rattle.port_links.proofs.arcs.phase_arcs.Goals as goal

pub returns : goal.returns
returns c =
    let circuit = c.args.circuit.now in
    let phase = c.args.phase.now in
    let known = c.as_slice-known.result.now in
    let least = c.in_ok-least.least.items in
    let graph = c.in_ok-graph.graph.items in
    let table : IsKnownTable circuit phase (known_at known) =
    subst (λ (t : List (Option Bool)). IsKnownTable circuit phase (known_at t)) (sym c.as_slice-known.ensures.value) c.in_ok-table.ensures.known in
    let are : AreLeast circuit phase least = λ n p. c.in_ok-least.ensures.least phase table n p in
    let is : IsNetGraph circuit phase known least graph = subst (λ (t : List ℕ). IsNetGraph circuit phase known t graph) c.as_slice.ensures.value c.in_ok-graph.ensures in
    graph_has_arcs circuit phase known least graph c.requires table are (let len = c.in_ok-least.ensures.len in omega (arith, len)) c.in_ok-least.ensures.below is
