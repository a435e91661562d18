-- The nets as a slice are the nets.
use Rattle.std.proofs.Common.{◌<◌, List, length, map, subst, sym}
use Rattle.std.specs.Prelude.{All}
use Rattle.lone_outputs.specs.Lone.{AreLoneBefore}
use Rattle.phase_terms.specs.Ready.{comparison_in}
use Rattle.vrt_model.specs.declared.ids.Net.{Net}
use Rattle.cell_room.proofs.lone.outputs_of.Goals as goal

pub lone_in-requires-clause-nets : goal.lone_in-requires-clause-nets
lone_in-requires-clause-nets c =
    subst (All (λ (n : Net). n.0 < length c.args.phases.compared.circuit.now.nets)) (sym c.as_slice.ensures) c.in_ok-nets.ensures.within

pub returns-clause-lone : goal.returns-clause-lone
returns-clause-lone c =
    let k = comparison_in c.args.phases.compared in
    subst (λ (nets : List Net). AreLoneBefore k (length k.rules.phases) (map (λ (n : Net). n.0) nets) c.in_ok-lone.lone.items) c.as_slice.ensures c.in_ok-lone.ensures
