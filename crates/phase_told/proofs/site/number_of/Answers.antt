use Rattle.std.proofs.Common.{◌∙◌, ◌<◌, All, List, ap, subst, sym}
use Rattle.phase_terms.specs.Ready.{comparison_in}
use Rattle.phase_told.proofs.NetLaws.{net_is_site, nets_low}
use Rattle.phase_told.specs.Nets.{net_at, nets_by}
use Rattle.phase_told.specs.Sites.{site_of}
use Rattle.vrt_model.specs.Limits.{most_nets}
use Rattle.vrt_model.specs.declared.pairing.PortRole.{PortRole}
use Rattle.vrt_model.specs.declared.verdict.FaultKind.{FaultKind}
use Rattle.phase_told.proofs.site.number_of.Goals as goal

pub net_of_port-requires : goal.net_of_port-requires
net_of_port-requires c =
    subst (λ (roles : List PortRole). All (λ net. net < most_nets) (nets_by 2 roles)) (sym c.as_slice.ensures) (nets_low (comparison_in c.args.compared) c.requires)

pub returns-in-Differs : goal.returns-in-Differs
returns-in-Differs c =
    c.net_of_port.ensures
    ∙ ap (λ (roles : List PortRole). net_at 2 roles c.args.place) c.as_slice.ensures
    ∙ net_is_site (comparison_in c.args.compared) c.requires c.args.place
    ∙ ap (λ (kind : FaultKind). site_of (comparison_in c.args.compared) kind c.args.place) (sym c.in-Differs.is)
