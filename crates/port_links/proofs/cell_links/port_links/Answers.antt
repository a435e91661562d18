use Rattle.std.proofs.Common.{Bool, List, map, ap, subst, ◌∙◌}
use Rattle.constraints.specs.Obliged.{is_named_in}
use Rattle.phase_ports.specs.Ports.{ports_by}
use Rattle.phase_ports.specs.declared.port_list.Port.{Port}
use Rattle.port_links.proofs.CellLaws.{port_links_are}
use Rattle.port_links.specs.Linked.{AreLinks}
use Rattle.vrt_model.specs.declared.design.Cell.{Cell}
use Rattle.vrt_model.specs.declared.rules.Phase.{Phase}
use Rattle.port_links.proofs.cell_links.port_links.Goals as goal

pub returns : goal.returns
returns c =
    let rules = c.args.rules.now in
    let circuit = c.args.circuit.now in
    let model = c.args.model.now in
    let named = c.in_ok-named.named.items in
    let ports = c.in_ok-list.list.items in
    let links = c.in_ok-links.links in
    let bits = c.phase_of-bits.result.now in
    let marks = c.as_slice-marks.result.now in
    let with_ports : AreLinks circuit bits model marks ports links =
    subst (λ (xs : List Port). AreLinks circuit bits model marks xs links) c.as_slice-ports.ensures.value c.in_ok-links.ensures in
    let with_marks : AreLinks circuit bits model named ports links = subst (λ (xs : List Bool). AreLinks circuit bits model xs ports links) c.as_slice-marks.ensures.value with_ports in
    port_links_are c.args.design.now rules c.args.cell circuit c.args.pairing.now model c.args.phase named ports links c.requires.roles
    (c.in_ok-named.ensures ∙ ap (λ (x : Cell). map (is_named_in rules x.name c.args.phase) x.ports) c.cell_of-own.ensures)
    (c.in_ok-list.ensures ∙ ap (ports_by 0 2) c.as_slice-roles.ensures)
    (subst (λ (p : Phase). AreLinks circuit p model named ports links) c.phase_of-bits.ensures with_marks)
