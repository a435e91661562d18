use Rattle.std.proofs.Common.{List, ℕ, subst, sym, ◌++◌}
use Rattle.std.specs.Prelude.{filter_map, ◌≡◌}
use Rattle.port_links.proofs.LinkLaws.{no_output, output_adds}
use Rattle.port_links.specs.Linked.{link_from}
use Rattle.port_links.proofs.links.link_output.Goals as goal

pub returns-in-None : goal.returns-in-None
returns-in-None c phase model arcs has =
    no_output c.args.circuit.now phase model c.args.named.now c.args.ports.now c.args.to c.args.links.now (sym c.in-None.ensures)

pub returns-in_ok-add_links-in-Some : goal.returns-in_ok-add_links-in-Some
returns-in_ok-add_links-in-Some c phase model arcs has =
    let circuit = c.args.circuit.now in
    let least = c.args.arcs.now.least.items in
    let target = c.in_ok-target-in-Some.target in
    let named = c.args.named.now in
    let to = c.args.to in
    output_adds circuit phase model least target c.in-Some.signal to c.requires.flat (c.in_ok-target-in-Some.ensures phase model arcs has) (sym c.in-Some.ensures) named c.args.ports.now
    c.args.links.now c.add_links.new.links
    (subst (λ (xs : List ℕ). c.add_links.new.links ≡ c.args.links.now ++ filter_map (link_from circuit xs target named to) c.args.ports.now) c.as_slice-least.ensures.value
    c.in_ok-add_links-in-Some.ensures)
