use Rattle.std.proofs.Common.{◌≡◌, List, ap, ◌∙◌}
use Rattle.domino_order.proofs.MadeLaws.{nets_more}
use Rattle.phase_ports.specs.Ports.{ports_by}
use Rattle.phase_ports.specs.declared.port_list.Port.{Port}
use Rattle.phase_terms.specs.Ready.{comparison_in}
use Rattle.vrt_model.specs.declared.pairing.PortRole.{PortRole}
use Rattle.domino_order.proofs.made.rising_nets.Goals as goal

pub loop-place-preserved : goal.loop-place-preserved
loop-place-preserved c =
    let k = comparison_in c.args.compared in
    let rising = c.args.rising.now in
    let i = c.loop-place.place-index in
    let ports : List Port = c.as_slice-in-loop-place.result.now in
    let listed : ports ≡ ports_by 0 2 k.pairing.ports = c.as_slice-in-loop-place.ensures.value ∙ c.in_ok-ports.ensures ∙ ap (λ (roles : List PortRole). ports_by 0 2 roles) c.as_slice.ensures in
    c.in_ok-append.ensures ∙ nets_more k rising c.requires.ready c.requires.rising ports listed i c.net_of.result c.loop-place.nets c.loop-place-test.true c.loop-place.invariant c.net_of.ensures
