use Rattle.std.proofs.Common.{List, ap, ◌∙◌}
use Rattle.std.specs.Prelude.{filter_map}
use Rattle.std.proofs.lemmas.Result.{IfOk-weaker}
use Rattle.phase_ports.specs.Ports.{ports_by}
use Rattle.phase_ports.specs.declared.port_list.Port.{Port}
use Rattle.port_drives.proofs.NetLaws.{nets_are}
use Rattle.port_drives.specs.Ports.{AreOutputNetsOf, output_net}
use Rattle.vrt_model.specs.declared.pairing.PortRole.{PortRole}
use Rattle.port_drives.proofs.nets.output_nets.Goals as goal

pub returns : goal.returns
returns c =
    IfOk-weaker c.nets_of.result _ (AreOutputNetsOf c.args.pairing.now)
    (λ nets is. nets_are c.args.pairing.now nets
    (is ∙ ap (λ (ports : List Port). filter_map output_net ports) (c.as_slice-2.ensures.value ∙ c.in_ok-ports.ensures ∙ ap (λ (roles : List PortRole). ports_by 0 2 roles) c.as_slice.ensures)))
    c.nets_of.ensures
