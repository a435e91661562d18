use Rattle.std.proofs.Common.{◌≡◌, ℕ, length, arith, subst}
use Rattle.channel_parts.proofs.AddsLaws.{none_adds}
use Rattle.channel_parts.proofs.NetGraphLaws.{more_nets}
use Rattle.channel_parts.specs.NetGraphs.{IsNetArcBelow}
use Rattle.known_nets.specs.Placed.{Adds}
use Rattle.channel_parts.proofs.net_arcs.lead_nets.Goals as goal

pub loop-net-init : goal.loop-net-init
loop-net-init c = none_adds (IsNetArcBelow c.args.circuit.now c.args.least.now 0) c.args.graph.now.items (λ f t arc. let lt = arc.0 in omega (arith, lt))

pub loop-net-preserved : goal.loop-net-preserved
loop-net-preserved c =
    more_nets c.args.circuit.now c.args.least.now c.loop-net.net c.args.graph.now.items c.loop-net.graph.items c.lead_net.new.graph.items c.loop-net.invariant c.in_ok-lead_net.ensures

pub returns : goal.returns
returns c =
    let all : c.loop-net.net ≡ length c.args.least.now = omega (arith, c.loop-net-test.false, c.loop-net.auto.net-end) in
    subst (λ (n : ℕ). Adds (IsNetArcBelow c.args.circuit.now c.args.least.now n) c.args.graph.now.items c.loop-net.graph.items) all c.loop-net.invariant
