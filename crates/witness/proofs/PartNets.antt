-- The nets of parts are nets of the circuit.
use Rattle.std.proofs.Common.{ℕ, ◌<◌, Bool, length}
use Rattle.std.specs.Prelude.{All}
use Rattle.std.proofs.lemmas.Option.{slice_get_within}
use Rattle.channel_parts.specs.PartLists.{AreParts, least_of}
use Rattle.channel_parts.specs.declared.part.Part.{Part}
use Rattle.channel_parts.specs.declared.part.Parts.{Parts}
use Rattle.vrt_model.proofs.Lists.{map_among}
use Rattle.vrt_model.proofs.Members.{all_by}
use Rattle.vrt_model.proofs.Ranked.{together_plain}
use Rattle.vrt_model.specs.declared.circuit.Circuit.{Circuit}
use Rattle.vrt_model.specs.declared.ids.Net.{Net}
use Rattle.vrt_model.specs.declared.rules.Phase.{Phase}

pub part_nets : (c : Circuit) (phase : Phase) (which : Bool) (rank : ℕ → ℕ) (parts : Parts) → AreParts c phase which rank parts
    → All (λ (part : Part). All (λ (net : Net). net.0 < length c.nets) part.nets) parts.list
part_nets c phase which rank parts are =
    all_by (λ (part : Part). All (λ (net : Net). net.0 < length c.nets) part.nets) parts.list
    (λ part m. all_by (λ (net : Net). net.0 < length c.nets) part.nets (λ net there.
    let plain = together_plain c phase which (least_of part) net.0 (((are.each part m).nets net.0).0 (map_among (λ (x : Net). x.0) part.nets net there)) in
    slice_get_within c.nets net.0 plain.0 plain.1))
