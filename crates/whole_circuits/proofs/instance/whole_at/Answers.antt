use Rattle.std.proofs.Common.{List, ap, map, refl, subst, sym, ◌∙◌}
use Rattle.phase_ports.specs.declared.port_list.Port.{Port}
use Rattle.port_links.specs.declared.links.PortLink.{PortLink}
use Rattle.whole_circuits.proofs.WholeLaws.{at_ports, whole_at_is}
use Rattle.whole_circuits.specs.Ends.{settled_by}
use Rattle.whole_circuits.specs.Links.{ArePhaseLinks}
use Rattle.whole_circuits.specs.Pins.{AreDrivesOf, AreObserved, IsAtPorts}
use Rattle.vrt_model.specs.Unsupported.{comparison_of}
use Rattle.vrt_model.specs.WholeInstances.{HasLinks, pins_of}
use Rattle.vrt_model.specs.declared.ids.Net.{Net}
use Rattle.vrt_model.specs.declared.whole.Whole.{Whole}
use Rattle.vrt_model.specs.declared.whole.WholePin.{WholePin}
use Rattle.whole_circuits.proofs.instance.whole_at.Goals as goal

pub returns : goal.returns
returns c cut blif facts d p phases has on is placed =
    let own = c.args.own.now in
    let place = c.args.place.now in
    let k = comparison_of cut.top.design blif cut.top.rules p.at.cell is.number in
    let tied = at_ports cut blif facts p own is place placed in
    let ported = subst (λ (ports : List Port). IsAtPorts k p.at ports place.ports) (sym c.as_slice-ports.ensures.value) tied in
    let at = subst (λ (nets : List Net). IsAtPorts k p.at c.as_slice-ports.result.now nets) (sym c.as_slice-nets.ensures) ported in
    let observed = subst (AreObserved k) (sym c.as_slice.ensures.value) is.has.observed in
    let own_links = subst (λ (links : List (List PortLink)). ArePhaseLinks k links) (sym c.as_slice-5.ensures) is.has.links in
    let links = c.in_ok-links.ensures k p.at phases at own_links in
    let w : Whole = record {
      path = c.in_ok-path.path;
      cell = place.cell;
      model = c.in_ok-model.model;
      clocked = c.in_ok-clocked.clocked;
      inputs = c.in_ok-inputs.inputs;
      outputs = c.in_ok-outputs.outputs;
      links = c.in_ok-links.links;
    } in
    let drives = subst (AreDrivesOf facts p.at.cell) (sym c.as_slice-2.ensures) is.drives in
    let pins = c.in_ok-outputs.ensures ∙ ap (map (settled_by c.args.ends.now)) (c.as_slice-3.ensures ∙ c.in_ok-pins.ensures facts k p.at at drives) in
    whole_at_is cut blif facts p own is place placed d c.args.ends.now has on w (c.in_ok-path.ensures ∙ c.as_bytes.ensures) refl c.in_ok-model.ensures (c.in_ok-clocked.ensures ∙ c.as_slice-6.ensures)
    (c.in_ok-inputs.ensures k p.at at observed) pins
    (subst (λ (pins : List WholePin). HasLinks k (pins_of k p.at) pins c.in_ok-links.links) c.as_slice-4.ensures links)
