use Rattle.std.proofs.Common.{◌<◌, ℕ, List, false, length, subst, sym}
use Rattle.std.specs.Prelude.{All}
use Rattle.channel_parts.specs.PartLists.{IsPartOf, net_numbers}
use Rattle.channel_parts.specs.declared.part.Part.{Part}
use Rattle.vrt_model.specs.Known.{IsPlain}
use Rattle.vrt_model.specs.Lists.{Among}
use Rattle.vrt_model.specs.declared.ids.Net.{Net}
use Rattle.witness.proofs.PartNets.{part_nets}
use Rattle.witness.proofs.replaying.view_kept.Goals as goal

pub view_all-requires-clause-nets : goal.view_all-requires-clause-nets
view_all-requires-clause-nets c =
    let circuit = c.args.circuit.now in
    subst (λ (ps : List Part). All (λ (part : Part). All (λ (net : Net). net.0 < length circuit.nets) part.nets) ps) (sym c.as_slice.ensures)
    (part_nets circuit c.args.phase.now false (λ n. 0) c.in_ok-kept.kept c.in_ok-kept.ensures)

pub returns-clause-seen : goal.returns-clause-seen
returns-clause-seen c setting same given known n seen at =
    let circuit = c.args.circuit.now in
    let phase = c.args.phase.now in
    let are = c.in_ok-kept.ensures in
    c.in_ok-list.ensures.seen phase setting (λ m. 0) same
    (subst (λ (ps : List Part). (part : Part) → Among ps part → IsPartOf circuit phase false (λ m. 0) part) (sym c.as_slice.ensures) are.each)
    (subst (λ (ps : List Part). (m : ℕ) → IsPlain circuit m → (part : Part) × Among ps part × Among (net_numbers part.nets) m) (sym c.as_slice.ensures) are.all)
    given known n seen at
