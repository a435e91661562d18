use Rattle.std.proofs.Common.{List, [], arith, subst}
use Rattle.std.proofs.lemmas.List.{take_all}
use Rattle.phase_ports.specs.declared.port_list.Port.{Port}
use Rattle.port_links.proofs.LinkLaws.{no_links, output_turn}
use Rattle.port_links.specs.Linked.{AddsLinks, IsLinkTo}
use Rattle.vrt_model.proofs.Members.{at_none}
use Rattle.port_links.proofs.links.link_outputs.Goals as goal

pub loop-at-init : goal.loop-at-init
loop-at-init c phase model arcs has =
    no_links (IsLinkTo c.args.circuit.now phase model c.args.named.now c.args.ports.now []) c.args.links.now (λ link l. at_none l.3.0 l.1 l.3.1)

pub loop-at-preserved : goal.loop-at-preserved
loop-at-preserved c phase model arcs has =
    output_turn c.args.circuit.now phase model c.args.named.now c.args.ports.now c.loop-at.at c.port_at-to.result c.args.links.now c.loop-at.links c.link_output.new.links c.port_at-to.ensures
    (c.loop-at.invariant phase model arcs has) (c.in_ok-link_output.ensures phase model arcs has)

pub returns : goal.returns
returns c phase model arcs has =
    let ports = c.args.ports.now in
    subst (λ (xs : List Port). AddsLinks (IsLinkTo c.args.circuit.now phase model c.args.named.now ports xs) c.args.links.now c.loop-at.links)
    (take_all c.loop-at.at ports (let end = c.loop-at-test.false in omega (arith, end))) (c.loop-at.invariant phase model arcs has)
