use Rattle.std.proofs.Common.{ℕ, length, subst, sym, ◌∙◌, ap}
use Rattle.std.specs.Prelude.{filter, is_some, nat_lt}
use Rattle.channel_parts.proofs.NetGraphLaws.{first_nets, graph_inside, none_nets}
use Rattle.channel_parts.proofs.RankLaws.{at_some}
use Rattle.channel_parts.specs.NetGraphs.{IsNetGraph}
use Rattle.graphs.specs.Graphs.{ArcIn}
use Rattle.vrt_model.specs.Known.{HasArc, IsFirstCycle}
use Rattle.channel_parts.proofs.cycle.search_all.Goals as goal

pub first_cycle-requires : goal.first_cycle-requires
first_cycle-requires c =
    let circuit = c.args.circuit.now in
    graph_inside circuit c.args.phase.now c.args.known.now c.args.least.now c.as_slice-graph.result.now c.requires.wired.ranges c.requires.nets c.requires.below
    (subst (IsNetGraph circuit c.args.phase.now c.args.known.now c.args.least.now) (sym c.as_slice-graph.ensures.value) c.in_ok-table.ensures)

pub returns-in-Some-clause-found : goal.returns-in-Some-clause-found
returns-in-Some-clause-found c table are =
    let circuit = c.args.circuit.now in
    let phase = c.args.phase.now in
    let known = c.args.known.now in
    let least = c.args.least.now in
    let graph = c.as_slice-graph.result.now in
    let is : IsNetGraph circuit phase known least graph = subst (IsNetGraph circuit phase known least) (sym c.as_slice-graph.ensures.value) c.in_ok-table.ensures in
    let first : IsFirstCycle (ArcIn graph) c.in-Some.numbers = at_some (λ t. IsFirstCycle (ArcIn graph) t) c.in_ok-found.found c.in-Some.numbers c.in-Some.is c.in_ok-found.ensures.found in
    subst (IsFirstCycle (HasArc circuit phase))
    (sym (c.in_ok-nets-in-Some.ensures ∙ ap (filter (λ (n : ℕ). nat_lt n (length least))) c.as_slice.ensures))
    (first_nets circuit phase known least graph c.requires.wired.ranges table are c.requires.nets c.requires.below is c.in-Some.numbers first)

pub returns-clause-none : goal.returns-clause-none
returns-clause-none c e table are =
    let circuit = c.args.circuit.now in
    let phase = c.args.phase.now in
    let known = c.args.known.now in
    let least = c.args.least.now in
    let graph = c.as_slice-graph.result.now in
    let is : IsNetGraph circuit phase known least graph = subst (IsNetGraph circuit phase known least) (sym c.as_slice-graph.ensures.value) c.in_ok-table.ensures in
    none_nets circuit phase known least graph c.requires.wired.ranges table are c.requires.nets c.requires.below is (c.in_ok-found.ensures.none (ap is_some c.in-None.is))
