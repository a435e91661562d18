use Rattle.std.proofs.Common.{List, subst, sym, ◌∙◌}
use Rattle.phase_ports.specs.declared.port_list.Port.{Port}
use Rattle.whole_circuits.proofs.EndCounts.{counted_more}
use Rattle.whole_circuits.proofs.WholeLaws.{at_ports}
use Rattle.whole_circuits.specs.Pins.{AreDrivesOf, IsAtPorts}
use Rattle.vrt_model.specs.Unsupported.{comparison_of}
use Rattle.vrt_model.specs.declared.ids.Net.{Net}
use Rattle.std.proofs.lemmas.Result.{on_ok_weaker}
use Rattle.whole_circuits.proofs.ends.count_whole.Goals as goal

pub returns-clause-counts : goal.returns-clause-counts
returns-clause-counts c =
    on_ok_weaker c.count_pins.result
    (λ counts cut blif facts p before is placed are.
    (let own = c.args.own.now in
    let place = c.args.place.now in
    let k = comparison_of cut.top.design blif cut.top.rules p.at.cell is.number in
    let tied = at_ports cut blif facts p own is place placed in
    let ported = subst (λ (ports : List Port). IsAtPorts k p.at ports place.ports) (sym c.as_slice-ports.ensures.value) tied in
    let at = subst (λ (nets : List Net). IsAtPorts k p.at c.as_slice-ports.result.now nets) (sym c.as_slice-nets.ensures) ported in
    let drives = subst (AreDrivesOf facts p.at.cell) (sym c.as_slice.ensures) is.drives in
    counted_more cut.top blif facts p is.number before c.as_slice-2.result.now c.args.counts.now.items c.count_pins.new.counts.items is.paired
    (c.as_slice-2.ensures ∙ c.in_ok-pins.ensures facts k p.at at drives) counts are)) c.count_pins.ensures
