use Rattle.std.proofs.Common.{List, ap, length, subst, ◌∙◌, sym}
use Rattle.drive_levels.specs.PortLevels.{AreJoined}
use Rattle.vrt_model.specs.declared.ids.Net.{Net}
use Rattle.drive_levels.proofs.ports.join_levels.Goals as goal

pub join_all-requires : goal.join_all-requires
join_all-requires c = c.requires ∙ ap (λ (nets : List Net). length nets) (sym c.as_slice.ensures)

pub returns-clause-joined : goal.returns-clause-joined
returns-clause-joined c =
    subst (λ (nets : List Net). AreJoined c.args.circuit.now c.args.levels.now nets c.args.first c.args.ports.now.levels.items c.join_all.new.joined.items) c.as_slice.ensures c.join_all.ensures
