use Rattle.std.proofs.Common.{sym, ◌∙◌}
use Rattle.std.proofs.lemmas.Bool.{false≢true}
use Rattle.std.proofs.lemmas.Option.{none-some}
use Rattle.channel_parts.proofs.AddsLaws.{none_adds}
use Rattle.channel_parts.proofs.NetGraphLaws.{one_device}
use Rattle.channel_parts.specs.NetGraphs.{IsDeviceArc}
use Rattle.channel_parts.proofs.net_arcs.lead_device.Goals as goal

pub returns-then-not-has_unknown_gate : goal.returns-then-not-has_unknown_gate
returns-then-not-has_unknown_gate c =
    none_adds (IsDeviceArc c.args.circuit.now c.args.known.now c.args.least.now c.args.device.now) c.args.graph.now.items
    (λ f t arc. false≢true (sym c.if-not-has_unknown_gate.true ∙ c.has_unknown_gate.ensures ∙ arc.unknown))

pub returns-in-None : goal.returns-in-None
returns-in-None c =
    none_adds (IsDeviceArc c.args.circuit.now c.args.known.now c.args.least.now c.args.device.now) c.args.graph.now.items
    (λ f t arc. none-some arc.owner (c.in-None.ensures ∙ arc.owned))

pub returns-in_ok-lead-in-Some : goal.returns-in_ok-lead-in-Some
returns-in_ok-lead-in-Some c =
    one_device c.args.circuit.now c.args.known.now c.args.least.now c.args.device.now c.in-Some.part c.in_ok-to-in-Some.to c.args.graph.now.items c.lead.new.graph.items
    (sym c.has_unknown_gate.ensures ∙ c.if-not-has_unknown_gate.false) (sym c.in-Some.ensures) c.in_ok-to-in-Some.ensures c.in_ok-lead-in-Some.ensures
