use Rattle.std.proofs.Common.{sym, ◌∙◌}
use Rattle.std.proofs.lemmas.Bool.{false≢true}
use Rattle.std.proofs.lemmas.Option.{none-some}
use Rattle.channel_parts.proofs.AddsLaws.{none_adds}
use Rattle.channel_parts.proofs.NetGraphLaws.{one_link}
use Rattle.channel_parts.specs.NetGraphs.{IsLinkArc}
use Rattle.channel_parts.proofs.net_arcs.lead_link.Goals as goal

pub returns-then-not-stands : goal.returns-then-not-stands
returns-then-not-stands c =
    none_adds (IsLinkArc c.args.circuit.now c.args.phase.now c.args.least.now c.args.whole.now c.args.link.now) c.args.graph.now.items
    (λ f t arc. false≢true (sym c.if-not-stands.true ∙ c.stands.ensures ∙ arc.stands))

pub returns-in-None : goal.returns-in-None
returns-in-None c =
    none_adds (IsLinkArc c.args.circuit.now c.args.phase.now c.args.least.now c.args.whole.now c.args.link.now) c.args.graph.now.items
    (λ f t arc. none-some arc.owner (c.in-None.ensures ∙ arc.owned))

pub returns-in_ok-lead-in-Some : goal.returns-in_ok-lead-in-Some
returns-in_ok-lead-in-Some c =
    one_link c.args.circuit.now c.args.phase.now c.args.least.now c.args.whole.now c.args.link.now c.in-Some.part c.in_ok-to-in-Some.to c.args.graph.now.items c.lead.new.graph.items
    (sym c.stands.ensures ∙ c.if-not-stands.false) (sym c.in-Some.ensures) c.in_ok-to-in-Some.ensures c.in_ok-lead-in-Some.ensures
