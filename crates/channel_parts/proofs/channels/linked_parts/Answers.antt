use Rattle.std.proofs.Common.{ℕ, false, subst, sym}
use Rattle.std.proofs.lemmas.Result.{IfOk-weaker}
use Rattle.channel_parts.specs.LinkedParts.{AreLinkedParts, channel_circuit}
use Rattle.channel_parts.specs.PartLists.{AreParts}
use Rattle.channel_parts.proofs.LinkedLaws.{channel_flat, parts_linked}
use Rattle.known_nets.proofs.WiredLaws.{flat_wired}
use Rattle.known_nets.specs.Wired.{IsWired}
use Rattle.vrt_model.specs.declared.circuit.Circuit.{Circuit}
use Rattle.channel_parts.proofs.channels.linked_parts.Goals as goal

pub kept_parts-requires : goal.kept_parts-requires
kept_parts-requires c = subst IsWired (sym c.in_ok-channels.ensures) (flat_wired (channel_circuit c.args.circuit.now) (channel_flat c.args.circuit.now c.requires))

pub returns : goal.returns
returns c =
    let circuit = c.args.circuit.now in
    let phase = c.no_clocks-phase.result in
    IfOk-weaker c.kept_parts.result _ (λ parts. AreLinkedParts circuit parts.list)
    (λ parts are. parts_linked circuit phase parts (subst (λ (x : Circuit). AreParts x phase false (λ (n : ℕ). 0) parts) c.in_ok-channels.ensures are))
    c.kept_parts.ensures
