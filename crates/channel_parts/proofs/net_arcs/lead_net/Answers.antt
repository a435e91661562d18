use Rattle.std.proofs.Common.{ap, sym, ◌∙◌}
use Rattle.std.proofs.lemmas.Bool.{false≢true}
use Rattle.channel_parts.proofs.AddsLaws.{none_adds}
use Rattle.channel_parts.proofs.NetGraphLaws.{one_net}
use Rattle.channel_parts.specs.NetGraphs.{IsOneNetArc}
use Rattle.known_nets.specs.Conduction.{is_plain_at}
use Rattle.channel_parts.proofs.net_arcs.lead_net.Goals as goal

pub returns-then-not-is_plain : goal.returns-then-not-is_plain
returns-then-not-is_plain c =
    let circuit = c.args.circuit.now in
    none_adds (IsOneNetArc circuit c.args.least.now c.args.net) c.args.graph.now.items
    (λ f t arc. false≢true (sym c.if-not-is_plain.true ∙ c.is_plain.ensures ∙ ap (is_plain_at circuit) (sym arc.0) ∙ arc.1.plain))

pub returns : goal.returns
returns c =
    one_net c.args.circuit.now c.args.least.now c.args.net c.in_ok-from.from c.args.graph.now.items c.lead.new.graph.items (sym c.is_plain.ensures ∙ c.if-not-is_plain.false) c.in_ok-from.ensures
    c.in_ok-lead.ensures
